use Rattle.gsl_lower_law_returns.proofs.Returned.{returned_back}
use Rattle.gsl_lower_law_returns.proofs.laws.functions_return.Goals as goal

pub returns : goal.returns
returns c = returned_back
