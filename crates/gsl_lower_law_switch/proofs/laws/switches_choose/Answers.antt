use Rattle.gsl_lower_law_switch.proofs.Switched.{switch_does}
use Rattle.gsl_lower_law_switch.proofs.laws.switches_choose.Goals as goal

pub returns : goal.returns
returns c = switch_does
