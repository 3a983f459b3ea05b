use Rattle.std.proofs.Common.{ℕ, List, [], ◌∷◌, ◌++◌, ◌∙◌, Err, ap, sym, subst}
use Rattle.gsl_host.specs.declared.target.Target.TheVariants.{Reading}
use Rattle.gsl_cmd.specs.Command.{Ends}
use Rattle.gsl_cmd.specs.Job.{IsTextJob}
use Rattle.gsl_cmd.proofs.Jobs.{contains_last}
use Rattle.gsl_exec.proofs.Runs.{stopped_host}
use Rattle.gsl_cmd.proofs.RunJobs.{stopped_own, text_read, text_stopped}
use Rattle.gsl_cmd.proofs.running.run_sources.Goals as goal

pub returns-in-Ok-clause-told : goal.returns-in-Ok-clause-told
returns-in-Ok-clause-told g c = λ some files told targets.
    let found = rw told at c.in-Ok.ensures.told in
    text_read some files c.args.stage c.args.names.now c.args.inputs.now c.args.sources.now (targets ++ Reading c.args.inputs.now ∷ []) c.in-Ok.text
    (g.H.Host.faults c.args.host.now) (g.H.Host.faults c.read_manifest_file.new.host) (g.H.Host.faults c.run_text.new.host) c.run_text.result found.0 found.1 c.in-Ok.ensures.faults
    (subst (λ (l : List ℕ). Ends (IsTextJob files c.args.stage c.args.names.now c.args.sources.now l (targets ++ Reading c.args.inputs.now ∷ []))
    (g.H.Host.faults c.read_manifest_file.new.host) (g.H.Host.faults c.run_text.new.host) c.run_text.result)
    c.as_slice.ensures (c.run_text.ensures.told some files (c.in-Ok.ensures.files ∙ told) (targets ++ Reading c.args.inputs.now ∷ [])))

pub returns-in-Err-clause-told : goal.returns-in-Err-clause-told
returns-in-Err-clause-told g c = λ some files told targets.
    text_stopped some files c.args.stage c.args.names.now c.args.inputs.now c.args.sources.now (targets ++ Reading c.args.inputs.now ∷ []) c.in-Err.why c.stopped.result
    (g.H.Host.faults c.args.host.now) (g.H.Host.faults c.read_manifest_file.new.host) c.stopped.ensures (rw told at c.in-Err.ensures.told) (λ e. c.in-Err.ensures.failed (ap Err e))
    (contains_last (Reading c.args.inputs.now) targets)

pub returns-in-Err-clause-own : goal.returns-in-Err-clause-own
returns-in-Err-clause-own g c = stopped_own c.in-Err.why c.stopped.result c.stopped.ensures

pub returns-in-Err-clause-failed : goal.returns-in-Err-clause-failed
returns-in-Err-clause-failed g c = λ e.
    (c.args.inputs.now, c.in-Err.ensures.failed (ap Err (stopped_host c.in-Err.why (ap Err (sym c.stopped.ensures) ∙ e))))
