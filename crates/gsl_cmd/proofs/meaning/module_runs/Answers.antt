use Rattle.gsl_cmd.proofs.Carried.{program_runs}
use Rattle.gsl_cmd.proofs.meaning.module_runs.Goals as goal

pub returns : goal.returns
returns c = program_runs
