use Rattle.gsl_fitting_stmt.proofs.Forking.{if_runs}
use Rattle.gsl_fitting_stmt.proofs.laws.ifs_run.Goals as goal

pub returns : goal.returns
returns c = if_runs
