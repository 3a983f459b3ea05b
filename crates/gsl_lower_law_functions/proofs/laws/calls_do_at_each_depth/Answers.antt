use Rattle.gsl_lower_law_functions.proofs.Depths.{call_does}
use Rattle.gsl_lower_law_functions.proofs.laws.calls_do_at_each_depth.Goals as goal

pub returns : goal.returns
returns c = call_does
