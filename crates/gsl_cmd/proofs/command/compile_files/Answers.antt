use Rattle.std.proofs.Common.{ℕ, List, ◌∙◌, ap, subst, Ok, Err}
use Rattle.std.proofs.lemmas.Result.{err_from_is_err_and}
use Rattle.gsl_host.specs.declared.target.Target.TheVariants.{Writing}
use Rattle.gsl_cmd.specs.Command.{ReadsGathered, behind_sources}
use Rattle.gsl_cmd.specs.Job.{gather}
use Rattle.gsl_cmd.proofs.Jobs.{ended_read, ended_compile, ended_write, gathered_all, write_target}
use Rattle.gsl_cmd.proofs.Streams.{later_rise}
use Rattle.gsl_cmd.proofs.command.compile_files.Goals as goal

pub returns-in_err-sources-clause-told : goal.returns-in_err-sources-clause-told
returns-in_err-sources-clause-told g c = λ files told.
    let p = err_from_is_err_and c.from_residual.result c.from_residual.ensures.1 in
    rw (p.1, p.2) (ended_read c.args.version c.args.stage c.args.out.now c.args.names.now files _ _ _ c.in_err-sources.field-0.0
    (subst (λ (front : List (List ℕ)). ReadsGathered (behind_sources front (gather files 0 c.args.names.now)) (Err c.in_err-sources.field-0.0)) c.new.ensures (c.in_err-sources.ensures.told files told)) (c.in_err-sources.ensures.files ∙ told) (λ e. c.in_err-sources.ensures.reached files told (ap Err e)))

pub returns-in_err-bytes-clause-told : goal.returns-in_err-bytes-clause-told
returns-in_err-bytes-clause-told g c = λ files told.
    let p = err_from_is_err_and c.from_residual-in_err-bytes.result c.from_residual-in_err-bytes.ensures.1 in
    rw (p.1, p.2) (ended_compile c.args.version c.args.stage c.args.out.now c.args.names.now files _ _ _ c.in_ok-sources.sources c.in_err-bytes.field-0.0
    (gathered_all c.args.version c.args.stage c.args.out.now c.args.names.now files c.in_ok-sources.sources (subst (λ (front : List (List ℕ)). ReadsGathered (behind_sources front (gather files 0 c.args.names.now)) (Ok c.in_ok-sources.sources)) c.new.ensures (c.in_ok-sources.ensures.told files told)))
    c.in_err-bytes.ensures (c.in_ok-sources.ensures.files ∙ told))

pub returns-clause-told : goal.returns-clause-told
returns-clause-told g c = λ files told.
    let now = c.in_ok-sources.ensures.files ∙ told in
    ended_write c.args.version c.args.stage c.args.out.now c.args.names.now files _ _ _ c.in_ok-sources.sources c.in_ok-bytes.bytes c.write_file.result
    (gathered_all c.args.version c.args.stage c.args.out.now c.args.names.now files c.in_ok-sources.sources (subst (λ (front : List (List ℕ)). ReadsGathered (behind_sources front (gather files 0 c.args.names.now)) (Ok c.in_ok-sources.sources)) c.new.ensures (c.in_ok-sources.ensures.told files told)))
    c.in_ok-bytes.ensures (rw now at c.write_file.ensures.ok) (rw now at c.write_file.ensures.others)
    (λ e. later_rise (g.H.Host.faults c.args.host.now) (g.H.Host.faults c.read_sources.new.host) (g.H.Host.faults c.write_file.new.host) (Writing c.args.out.now) c.in_ok-sources.ensures.faults (c.write_file.ensures.failed e)) c.write_file.ensures.no_fault c.write_file.ensures.no_text

pub returns-clause-cause : goal.returns-clause-cause
returns-clause-cause g c = λ e. (
  Writing c.args.out.now,
  write_target c.args.version c.args.stage c.args.out.now c.args.names.now,
  later_rise (g.H.Host.faults c.args.host.now) (g.H.Host.faults c.read_sources.new.host) (g.H.Host.faults c.write_file.new.host) (Writing c.args.out.now)
      c.in_ok-sources.ensures.faults (c.write_file.ensures.failed e),
)
