use Rattle.gsl_fitting_loops.proofs.Looping.{loop_runs}
use Rattle.gsl_fitting_loops.proofs.laws.loops_run.Goals as goal

pub returns : goal.returns
returns c = loop_runs
