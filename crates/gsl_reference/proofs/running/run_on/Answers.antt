use Rattle.std.proofs.Common.{◌≡◌, Err, [], ◌∙◌, ap, sym}
use Rattle.gsl_meaning.specs.Fits.{fits}
use Rattle.gsl_reference.specs.Owed.{run_by, run_if}
use Rattle.gsl_reference.specs.Steps.{stopped}
use Rattle.std.specs.Prelude.{Ok}
use Rattle.gsl_reference.proofs.Runs.{by_stop, named_name, never_host, on_found, on_stopped, stopped_host}
use Rattle.gsl_reference.proofs.running.run_on.Goals as goal

pub returns-in-Ok-clause-told : goal.returns-in-Ok-clause-told
returns-in-Ok-clause-told g c = λ read files told targets.
    on_found files targets c.args.program.now c.args.manifest (g.H.Host.faults c.args.host.now) (g.H.Host.faults c.read_input.new.host)
    c.in-Ok.input c.performed.result (c.in-Ok.ensures.told files told) c.performed.ensures

pub returns-in-Err-clause-told : goal.returns-in-Err-clause-told
returns-in-Err-clause-told g c = λ read files told targets.
    by_stop (λ job. job ≡ run_by files targets c.args.program.now (Ok c.args.manifest)) (g.H.Host.faults c.args.host.now) (g.H.Host.faults c.read_input.new.host)
    c.stopped.result (stopped c.in-Err.why) c.stopped.ensures
    (on_stopped files targets c.args.program.now c.args.manifest (g.H.Host.faults c.args.host.now) (g.H.Host.faults c.read_input.new.host)
    c.in-Err.why (c.in-Err.ensures.told files told) (λ e. c.in-Err.ensures.reached files told (ap Err e)))

pub returns-in-Ok-clause-failed : goal.returns-in-Ok-clause-failed
returns-in-Ok-clause-failed g c = λ e.
    absurd (never_host (run_if [] c.args.program.now c.args.manifest.steps c.in-Ok.input (fits c.args.program.now c.in-Ok.input)) c.performed.result (c.performed.ensures []) e)

pub returns-in-Err-clause-failed : goal.returns-in-Err-clause-failed
returns-in-Err-clause-failed g c = λ e.
    let rose = c.in-Err.ensures.failed (ap Err (stopped_host c.in-Err.why (ap Err (sym c.stopped.ensures) ∙ e))) in
    named_name c.args.manifest rose.0 (g.H.Host.faults c.args.host.now) (g.H.Host.faults c.read_input.new.host) rose.1 rose.2
