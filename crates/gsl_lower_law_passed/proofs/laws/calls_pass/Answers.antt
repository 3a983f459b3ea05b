use Rattle.gsl_lower_law_passed.proofs.Calls.{call_passes}
use Rattle.gsl_lower_law_passed.proofs.laws.calls_pass.Goals as goal

pub returns : goal.returns
returns c = call_passes
