use Rattle.gsl_lower_law.proofs.Picking.{picked_computes as computes}
use Rattle.gsl_lower_law.proofs.laws.picked_computes.Goals as goal

pub returns : goal.returns
returns c = λ m input whole a v positions state before is some below stands. computes m input whole a v is state before stands positions some below
