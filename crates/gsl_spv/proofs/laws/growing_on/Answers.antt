use Rattle.gsl_spv.proofs.Extending.{extends_then}
use Rattle.gsl_spv.proofs.laws.growing_on.Goals as goal

pub returns : goal.returns
returns c = λ a b d. extends_then
