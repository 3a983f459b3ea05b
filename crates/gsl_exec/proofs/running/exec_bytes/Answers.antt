use Rattle.gsl_exec.proofs.Runs.{judged_status, judged_stopped, judged_valid}
use Rattle.gsl_exec.proofs.running.exec_bytes.Goals as goal

pub returns-in-Ok-clause-told : goal.returns-in-Ok-clause-told
returns-in-Ok-clause-told g c = λ read never files told targets.
    judged_valid read never files c.args.text.now targets (g.H.Host.faults c.args.host.now) (g.H.Host.faults c.exec_said.new.host) c.args.bytes.now c.in-Ok.valid c.exec_said.result
    c.in-Ok.ensures (c.exec_said.ensures.told read never files told targets)

pub returns-in-Err-clause-told : goal.returns-in-Err-clause-told
returns-in-Err-clause-told g c = λ read never files told targets.
    judged_stopped read never files c.args.text.now targets (g.H.Host.faults c.args.host.now) (g.H.Host.faults c.args.host.now) c.args.bytes.now c.in-Err.stop c.in-Err.ensures

pub returns-in-Err-clause-line : goal.returns-in-Err-clause-line
returns-in-Err-clause-line g c = judged_status c.args.bytes.now c.in-Err.stop c.in-Err.ensures
