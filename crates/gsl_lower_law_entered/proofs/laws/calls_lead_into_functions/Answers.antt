use Rattle.gsl_lower_law_entered.proofs.Called.{call_enters}
use Rattle.gsl_lower_law_entered.proofs.laws.calls_lead_into_functions.Goals as goal

pub returns : goal.returns
returns c = call_enters
