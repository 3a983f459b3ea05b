use Rattle.std.proofs.Common.{Err, List, ℕ, ◌∙◌, ap, sym, subst}
use Rattle.gsl_cmd.specs.Verdict.{linked_of}
use Rattle.gsl_host.specs.declared.target.Target.{Target}
use Rattle.gsl_reference.specs.Asked.{Asked}
use Rattle.gsl_reference.specs.Owed.{IsBehindSources, IsProgramJob}
use Rattle.gsl_reference.specs.Steps.{Ends, stopped}
use Rattle.gsl_reference.proofs.Runs.{by_stop, inputs_read, inputs_stopped, stopped_host}
use Rattle.gsl_reference.proofs.running.run_sources.Goals as goal

pub returns-in-Ok-clause-told : goal.returns-in-Ok-clause-told
returns-in-Ok-clause-told g c = λ reading files told targets.
    let read = rw told at c.in-Ok.ensures.told in
    inputs_read reading (record { stage = c.args.stage; inputs = c.args.inputs.now; sources = c.args.names.now }) files c.args.sources.now targets c.in-Ok.bytes
    (g.H.Host.faults c.args.host.now) (g.H.Host.faults c.read_manifest_file.new.host) (g.H.Host.faults c.run_program.new.host) c.run_program.result
    read.0 read.1 c.in-Ok.ensures.faults
    (subst (λ (l : List ℕ). (targets : List Target) → Ends (λ job. IsProgramJob files c.args.names.now l targets job (linked_of c.args.stage c.args.sources.now))
    (g.H.Host.faults c.read_manifest_file.new.host) (g.H.Host.faults c.run_program.new.host) c.run_program.result)
    c.as_slice.ensures (c.run_program.ensures.told reading files (c.in-Ok.ensures.files ∙ told)))

pub returns-in-Err-clause-told : goal.returns-in-Err-clause-told
returns-in-Err-clause-told g c = λ reading files told targets.
    let asked : Asked = record { stage = c.args.stage; inputs = c.args.inputs.now; sources = c.args.names.now } in
    by_stop (IsBehindSources asked files c.args.sources.now targets) (g.H.Host.faults c.args.host.now) (g.H.Host.faults c.read_manifest_file.new.host)
    c.stopped.result (stopped c.in-Err.why) c.stopped.ensures
    (inputs_stopped reading asked files c.args.sources.now targets c.in-Err.why
    (g.H.Host.faults c.args.host.now) (g.H.Host.faults c.read_manifest_file.new.host) (rw told at c.in-Err.ensures.told) (λ e. c.in-Err.ensures.failed (ap Err e)))

pub returns-in-Err-clause-failed : goal.returns-in-Err-clause-failed
returns-in-Err-clause-failed g c = λ e.
    (c.args.inputs.now, c.in-Err.ensures.failed (ap Err (stopped_host c.in-Err.why (ap Err (sym c.stopped.ensures) ∙ e))))
