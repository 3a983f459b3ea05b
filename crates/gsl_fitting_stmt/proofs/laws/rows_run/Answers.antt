use Rattle.gsl_fitting_stmt.proofs.Doing.{turn_runs}
use Rattle.gsl_fitting_stmt.proofs.laws.rows_run.Goals as goal

pub returns : goal.returns
returns c = turn_runs
