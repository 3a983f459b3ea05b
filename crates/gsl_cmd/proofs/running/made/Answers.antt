use Rattle.gsl_cmd.proofs.RunJobs.{made_told}
use Rattle.gsl_cmd.proofs.running.made.Goals as goal

pub returns-in-Err-Source : goal.returns-in-Err-Source
returns-in-Err-Source c = made_told c.args.stage c.args.sources.now c.args.names.now c.in-Err-Source.fault c.told_fault.result c.told.result (rw c.in-Err-Source.field-0-is at c.in-Err-Source.ensures) c.told_fault.ensures c.told.ensures
