use Rattle.gsl_lower_law_operators.proofs.Binaries.{binary_computes as computes}
use Rattle.gsl_lower_law_operators.proofs.laws.binary_computes.Goals as goal

pub returns : goal.returns
returns c = λ m input whole which a b v w state before is_v is_w some_a some_b fit first second. computes m input whole a b v w state before is_v is_w some_a some_b first second which fit
