use Rattle.gsl_lower_law_exact.proofs.Alike.{begin_alike}
use Rattle.gsl_lower_law_exact.proofs.laws.programs_begin_alike.Goals as goal

pub returns : goal.returns
returns c = begin_alike
