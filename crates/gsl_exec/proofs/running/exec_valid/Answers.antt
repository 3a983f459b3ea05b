use Rattle.gsl_exec.proofs.Readings.{read_each}
use Rattle.gsl_exec.proofs.running.exec_valid.Goals as goal

pub returns-clause-told : goal.returns-clause-told
returns-clause-told g c = c.exec_said.ensures.told (read_each c.one_reading.ensures.some) c.valid_modules_are_never_stuck.ensures
