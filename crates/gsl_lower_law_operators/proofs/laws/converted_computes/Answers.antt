use Rattle.gsl_lower_law_operators.proofs.Conversions.{converted_computes as computes}
use Rattle.gsl_lower_law_operators.proofs.laws.converted_computes.Goals as goal

pub returns : goal.returns
returns c = λ m input whole to a v state before is stands. computes m input whole a v is to state before stands
