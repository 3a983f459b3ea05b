use Rattle.std.proofs.Common.{ℕ, List, ◌∙◌, Ok, Err, ap, subst}
use Rattle.gsl_cmd.specs.Command.{ReadsGathered, behind_sources}
use Rattle.gsl_cmd.specs.Job.{gather, reads}
use Rattle.gsl_exec.proofs.Runs.{read_name, same_stop}
use Rattle.gsl_cmd.proofs.RunJobs.{sources_read, sources_stopped, unread_host, unread_own}
use Rattle.gsl_cmd.proofs.running.run_files.Goals as goal

pub returns-in-Ok-clause-told : goal.returns-in-Ok-clause-told
returns-in-Ok-clause-told g c = λ some files told.
    sources_read some files c.args.stage c.args.names.now c.args.inputs.now c.in-Ok.sources (g.H.Host.faults c.args.host.now) (g.H.Host.faults c.read_sources.new.host)
    (g.H.Host.faults c.run_sources.new.host) c.run_sources.result
    (subst (λ (front : List (List ℕ)). ReadsGathered (behind_sources front (gather files 0 c.args.names.now)) (Ok c.in-Ok.sources)) c.new.ensures (c.in-Ok.ensures.told files told))
    c.in-Ok.ensures.faults (c.run_sources.ensures.told some files (c.in-Ok.ensures.files ∙ told) (reads files c.args.names.now))

pub returns-in-Err-clause-told : goal.returns-in-Err-clause-told
returns-in-Err-clause-told g c = λ some files told.
    sources_stopped some files c.args.stage c.args.names.now c.args.inputs.now c.in-Err.why c.unread.result (g.H.Host.faults c.args.host.now) (g.H.Host.faults c.read_sources.new.host)
    (subst (λ (front : List (List ℕ)). ReadsGathered (behind_sources front (gather files 0 c.args.names.now)) (Err c.in-Err.why)) c.new.ensures (c.in-Err.ensures.told files told))
    c.unread.ensures (λ e. c.in-Err.ensures.reached files told (ap Err e))

pub returns-in-Err-clause-own : goal.returns-in-Err-clause-own
returns-in-Err-clause-own g c = unread_own c.args.names.now c.in-Err.why c.unread.result c.unread.ensures

pub returns-in-Err-clause-failed : goal.returns-in-Err-clause-failed
returns-in-Err-clause-failed g c = λ e.
    let rose = c.in-Err.ensures.failed (ap Err (unread_host c.args.names.now c.in-Err.why c.unread.result c.unread.ensures (same_stop c.unread.result e))) in
    read_name c.args.names.now rose.0 (g.H.Host.faults c.args.host.now) (g.H.Host.faults c.read_sources.new.host) rose.1 rose.2
