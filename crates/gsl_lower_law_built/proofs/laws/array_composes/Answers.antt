use Rattle.gsl_lower_law_built.proofs.Fitting.{array_composes}
use Rattle.gsl_lower_law_built.proofs.laws.array_composes.Goals as goal

pub returns : goal.returns
returns c = array_composes
