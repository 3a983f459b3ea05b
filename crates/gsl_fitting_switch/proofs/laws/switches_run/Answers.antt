use Rattle.gsl_fitting_switch.proofs.Switching.{switch_runs}
use Rattle.gsl_fitting_switch.proofs.laws.switches_run.Goals as goal

pub returns : goal.returns
returns c = switch_runs
