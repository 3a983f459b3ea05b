use Rattle.std.proofs.Common.{Err, List, ℕ, [], ◌∷◌, ◌∙◌, ap, sym, subst}
use Rattle.std.specs.FinMap.{get}
use Rattle.gsl_given.specs.declared.given.TheConstants.{MAX_MANIFEST_BYTES}
use Rattle.gsl_host.specs.declared.target.Target.{Target}
use Rattle.gsl_host.specs.declared.target.Target.TheVariants.{Reading}
use Rattle.gsl_exec.specs.Owed.{IsBehind, IsJudged, read_of}
use Rattle.gsl_exec.specs.Steps.{Ends, stopped}
use Rattle.gsl_exec.proofs.Runs.{stop_status, by_stop, inputs_read, inputs_stopped, stopped_host}
use Rattle.gsl_exec.proofs.running.exec_behind.Goals as goal

pub returns-in-Ok-clause-told : goal.returns-in-Ok-clause-told
returns-in-Ok-clause-told g c = λ read never files told file.
    let found = rw told at c.in-Ok.ensures.told in
    inputs_read read never files file c.args.inputs.now c.args.bytes.now c.in-Ok.text
    (g.H.Host.faults c.args.host.now) (g.H.Host.faults c.read_manifest_file.new.host) (g.H.Host.faults c.exec_bytes.new.host) c.exec_bytes.result
    found.0 found.1 c.in-Ok.ensures.faults
    (subst (λ (l : List ℕ). (targets : List Target) → Ends (IsJudged files c.args.bytes.now l targets)
    (g.H.Host.faults c.read_manifest_file.new.host) (g.H.Host.faults c.exec_bytes.new.host) c.exec_bytes.result)
    c.as_slice.ensures (c.exec_bytes.ensures.told read never files (c.in-Ok.ensures.files ∙ told)))

pub returns-in-Err-clause-told : goal.returns-in-Err-clause-told
returns-in-Err-clause-told g c = λ read never files told file.
    by_stop (λ one. IsBehind files c.args.bytes.now (Reading file ∷ Reading c.args.inputs.now ∷ []) one (read_of MAX_MANIFEST_BYTES (get files c.args.inputs.now)))
    (g.H.Host.faults c.args.host.now) (g.H.Host.faults c.read_manifest_file.new.host)
    c.stopped.result (stopped c.in-Err.why) c.stopped.ensures
    (inputs_stopped read never files file c.args.inputs.now c.args.bytes.now c.in-Err.why
    (g.H.Host.faults c.args.host.now) (g.H.Host.faults c.read_manifest_file.new.host) (rw told at c.in-Err.ensures.told) (λ e. c.in-Err.ensures.failed (ap Err e)))

pub returns-in-Err-clause-failed : goal.returns-in-Err-clause-failed
returns-in-Err-clause-failed g c = λ e.
    (c.args.inputs.now, c.in-Err.ensures.failed (ap Err (stopped_host c.in-Err.why (ap Err (sym c.stopped.ensures) ∙ e))))

pub returns-in-Err-clause-line : goal.returns-in-Err-clause-line
returns-in-Err-clause-line g c = stop_status c.stopped.result c.in-Err.why c.stopped.ensures
