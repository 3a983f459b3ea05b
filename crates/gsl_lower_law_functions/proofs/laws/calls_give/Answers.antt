use Rattle.gsl_lower_law_functions.proofs.Calling.{call_gives}
use Rattle.gsl_lower_law_functions.proofs.laws.calls_give.Goals as goal

pub returns : goal.returns
returns c = call_gives
