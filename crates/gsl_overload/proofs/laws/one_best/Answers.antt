use Rattle.gsl_overload.proofs.Bests.{one_best}
use Rattle.gsl_overload.proofs.laws.one_best.Goals as goal

pub returns : goal.returns
returns c = one_best
