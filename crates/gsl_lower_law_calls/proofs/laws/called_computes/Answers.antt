use Rattle.gsl_lower_law_calls.proofs.Called.{called_computes as computes}
use Rattle.gsl_lower_law_calls.proofs.laws.called_computes.Goals as goal

pub returns : goal.returns
returns c = computes
