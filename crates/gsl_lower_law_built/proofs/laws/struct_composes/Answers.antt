use Rattle.gsl_lower_law_built.proofs.Fitting.{struct_composes}
use Rattle.gsl_lower_law_built.proofs.laws.struct_composes.Goals as goal

pub returns : goal.returns
returns c = struct_composes
