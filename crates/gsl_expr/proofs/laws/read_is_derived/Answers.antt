use Rattle.gsl_expr.proofs.Sound.{derived}
use Rattle.gsl_expr.proofs.laws.read_is_derived.Goals as goal

pub returns : goal.returns
returns c = derived
