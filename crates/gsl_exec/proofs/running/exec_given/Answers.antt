use Rattle.std.proofs.Common.{Err, ◌∙◌, ap, sym}
use Rattle.std.specs.Prelude.{Ok, []}
use Rattle.gsl_exec.specs.Owed.{IsSaid}
use Rattle.gsl_exec.specs.Steps.{stopped}
use Rattle.gsl_exec.proofs.Runs.{comes_status, stop_status, by_stop, named_name, never_host, on_found, on_stopped, stopped_host}
use Rattle.gsl_exec.proofs.running.exec_given.Goals as goal

pub returns-in-Ok-clause-told : goal.returns-in-Ok-clause-told
returns-in-Ok-clause-told g c = λ never files told targets.
    on_found never c.args.valid.now c.requires files targets c.args.manifest (g.H.Host.faults c.args.host.now) (g.H.Host.faults c.read_input.new.host)
    c.in-Ok.input c.enacted.result (c.in-Ok.ensures.told files told) c.enacted.ensures

pub returns-in-Err-clause-told : goal.returns-in-Err-clause-told
returns-in-Err-clause-told g c = λ never files told targets.
    by_stop (λ one. IsSaid files targets c.args.valid.now one (Ok c.args.manifest)) (g.H.Host.faults c.args.host.now) (g.H.Host.faults c.read_input.new.host)
    c.stopped.result (stopped c.in-Err.why) c.stopped.ensures
    (on_stopped never c.args.valid.now c.requires files targets c.args.manifest (g.H.Host.faults c.args.host.now) (g.H.Host.faults c.read_input.new.host)
    c.in-Err.why (c.in-Err.ensures.told files told) (λ e. c.in-Err.ensures.reached files told (ap Err e)))

pub returns-in-Ok-clause-failed : goal.returns-in-Ok-clause-failed
returns-in-Ok-clause-failed g c = λ e.
    let its = c.enacted.ensures [] in
    absurd (never_host its.0 c.enacted.result its.2 e)

pub returns-in-Err-clause-failed : goal.returns-in-Err-clause-failed
returns-in-Err-clause-failed g c = λ e.
    let rose = c.in-Err.ensures.failed (ap Err (stopped_host c.in-Err.why (ap Err (sym c.stopped.ensures) ∙ e))) in
    named_name c.args.manifest rose.0 (g.H.Host.faults c.args.host.now) (g.H.Host.faults c.read_input.new.host) rose.1 rose.2

pub returns-in-Ok-clause-line : goal.returns-in-Ok-clause-line
returns-in-Ok-clause-line g c = let its = c.enacted.ensures [] in comes_status ⊥ its.0 c.enacted.result its.2

pub returns-in-Err-clause-line : goal.returns-in-Err-clause-line
returns-in-Err-clause-line g c = stop_status c.stopped.result c.in-Err.why c.stopped.ensures
