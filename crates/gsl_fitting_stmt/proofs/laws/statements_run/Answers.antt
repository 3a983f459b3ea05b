use Rattle.gsl_fitting_stmt.proofs.Simple.{break_runs, continue_runs, declare_runs, discard_runs, return_runs, return_value_runs, value_runs}
use Rattle.gsl_fitting_stmt.proofs.laws.statements_run.Goals as goal

pub returns-clause-values : goal.returns-clause-values
returns-clause-values c = value_runs

pub returns-clause-declarations : goal.returns-clause-declarations
returns-clause-declarations c = declare_runs

pub returns-clause-breaks : goal.returns-clause-breaks
returns-clause-breaks c = break_runs

pub returns-clause-continues : goal.returns-clause-continues
returns-clause-continues c = continue_runs

pub returns-clause-returns : goal.returns-clause-returns
returns-clause-returns c = return_runs

pub returns-clause-returns_values : goal.returns-clause-returns_values
returns-clause-returns_values c = return_value_runs

pub returns-clause-discards : goal.returns-clause-discards
returns-clause-discards c = discard_runs
