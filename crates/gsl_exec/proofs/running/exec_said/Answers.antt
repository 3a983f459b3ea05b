use Rattle.std.specs.Prelude.{Ok, None}
use Rattle.gsl_exec.specs.Owed.{IsTaken}
use Rattle.gsl_exec.specs.Steps.{stopped}
use Rattle.gsl_exec.proofs.Runs.{stop_status, by_said, by_stop, by_stopped}
use Rattle.gsl_exec.proofs.running.exec_said.Goals as goal

pub returns-in-Ok-clause-told : goal.returns-in-Ok-clause-told
returns-in-Ok-clause-told g c = λ read never files told targets.
    by_said read never files c.args.text.now targets (g.H.Host.faults c.args.host.now) (g.H.Host.faults c.exec_given.new.host) c.args.valid.now c.in-Ok.manifest c.exec_given.result
    c.in-Ok.ensures (c.exec_given.ensures.told never files told targets)

pub returns-in-Err-clause-told : goal.returns-in-Err-clause-told
returns-in-Err-clause-told g c = λ read never files told targets.
    by_stop (λ one. IsTaken files c.args.text.now targets one (Ok c.args.valid.now) None) (g.H.Host.faults c.args.host.now) (g.H.Host.faults c.args.host.now)
    c.stopped.result (stopped c.in-Err.why) c.stopped.ensures
    (by_stopped read never files c.args.text.now targets (g.H.Host.faults c.args.host.now) (g.H.Host.faults c.args.host.now) c.args.valid.now c.requires.valid c.in-Err.why c.in-Err.ensures)

pub returns-in-Err-clause-line : goal.returns-in-Err-clause-line
returns-in-Err-clause-line g c = stop_status c.stopped.result c.in-Err.why c.stopped.ensures
