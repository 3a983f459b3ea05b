use Rattle.std.proofs.Common.{subst, sym}
use Rattle.gsl_cmd.specs.Command.{Unreads}
use Rattle.gsl_cmd.specs.declared.stop.Stop.{Stop}
use Rattle.gsl_cmd.proofs.RunJobs.{fault_told}
use Rattle.gsl_cmd.proofs.running.unread.Goals as goal

pub returns-in-Fault : goal.returns-in-Fault
returns-in-Fault c =
    subst (λ (why : Stop). Unreads c.args.names.now why c.told.result) (sym c.in-Fault.is)
    (fault_told c.args.names.now c.in-Fault.fault c.told_fault.result c.told.result c.told_fault.ensures c.told.ensures)
