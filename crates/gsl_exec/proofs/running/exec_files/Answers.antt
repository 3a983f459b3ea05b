use Rattle.std.proofs.Common.{Err, List, ℕ, [], ◌∷◌, ◌∙◌, ap, subst}
use Rattle.std.specs.FinMap.{get}
use Rattle.gsl_given.specs.declared.given.TheConstants.{MAX_MANIFEST_BYTES}
use Rattle.gsl_host.specs.declared.target.Target.TheVariants.{Reading}
use Rattle.gsl_exec.specs.Owed.{IsBehind, read_of}
use Rattle.gsl_exec.specs.Steps.{Ends}
use Rattle.gsl_exec.proofs.Runs.{module_read, module_stopped, same_stop}
use Rattle.gsl_exec.proofs.running.exec_files.Goals as goal

pub returns-in-Ok-clause-told : goal.returns-in-Ok-clause-told
returns-in-Ok-clause-told g c = λ read never files told.
    let found = rw told at c.in-Ok.ensures.told in
    module_read read never files c.args.file.now c.args.inputs.now c.in-Ok.bytes
    (g.H.Host.faults c.args.host.now) (g.H.Host.faults c.read_module.new.host) (g.H.Host.faults c.exec_behind.new.host) c.exec_behind.result
    found.0 found.1 c.in-Ok.ensures.faults
    (subst (λ (l : List ℕ). Ends (λ one. IsBehind files l (Reading c.args.file.now ∷ Reading c.args.inputs.now ∷ []) one (read_of MAX_MANIFEST_BYTES (get files c.args.inputs.now)))
    (g.H.Host.faults c.read_module.new.host) (g.H.Host.faults c.exec_behind.new.host) c.exec_behind.result)
    c.as_slice.ensures (c.exec_behind.ensures.told read never files (c.in-Ok.ensures.files ∙ told) c.args.file.now))

pub returns-in-Err-clause-told : goal.returns-in-Err-clause-told
returns-in-Err-clause-told g c = λ read never files told.
    module_stopped read never files c.args.file.now c.args.inputs.now c.in-Err.stop
    (g.H.Host.faults c.args.host.now) (g.H.Host.faults c.read_module.new.host) (rw told at c.in-Err.ensures.told) (λ e. c.in-Err.ensures.failed (ap Err e))

pub returns-in-Err-clause-failed : goal.returns-in-Err-clause-failed
returns-in-Err-clause-failed g c = λ e. (c.args.file.now, c.in-Err.ensures.failed (ap Err (same_stop c.in-Err.stop e)))
