use Rattle.gsl_cmd.proofs.CheckJobs.{checks_stop, checks_valid}
use Rattle.gsl_cmd.proofs.checking.check_bytes.Goals as goal

pub returns-in-Ok : goal.returns-in-Ok
returns-in-Ok c = checks_valid c.args.bytes.now c.in-Ok._valid c.told_valid.result c.in-Ok.ensures c.told_valid.ensures

pub returns-in-Err : goal.returns-in-Err
returns-in-Err c = checks_stop c.args.bytes.now c.in-Err.stop c.in-Err.ensures
