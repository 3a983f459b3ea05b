use Rattle.std.proofs.Common.{[], Ok}
use Rattle.gsl_reference.specs.Owed.{IsProgramJob}
use Rattle.gsl_reference.specs.Steps.{stopped}
use Rattle.gsl_reference.proofs.Runs.{by_said, by_stop, by_stopped}
use Rattle.gsl_reference.proofs.running.run_by.Goals as goal

pub returns-in-Ok-clause-told : goal.returns-in-Ok-clause-told
returns-in-Ok-clause-told g c = λ read files told targets.
    by_said read files [] targets c.args.bytes.now (g.H.Host.faults c.args.host.now) (g.H.Host.faults c.run_on.new.host) c.args.program.now c.in-Ok.manifest c.run_on.result
    c.in-Ok.ensures (c.run_on.ensures.told read files told targets)

pub returns-in-Err-clause-told : goal.returns-in-Err-clause-told
returns-in-Err-clause-told g c = λ read files told targets.
    by_stop (λ job. IsProgramJob files [] c.args.bytes.now targets job (Ok c.args.program.now)) (g.H.Host.faults c.args.host.now) (g.H.Host.faults c.args.host.now)
    c.stopped.result (stopped c.in-Err.why) c.stopped.ensures
    (by_stopped read files [] targets c.args.bytes.now (g.H.Host.faults c.args.host.now) (g.H.Host.faults c.args.host.now) c.args.program.now c.in-Err.why c.in-Err.ensures)
