use Rattle.std.proofs.Common.{ℕ, List, ◌∙◌, ap, subst, Ok, Err}
use Rattle.std.proofs.lemmas.Result.{err_from_is_err_and}
use Rattle.gsl_host.specs.declared.target.Target.TheVariants.{Writing}
use Rattle.gsl_cmd.specs.Command.{Gives}
use Rattle.gsl_cmd.specs.Converting.{Makes}
use Rattle.gsl_cmd.proofs.Conversions.{ended_read, ended_made, ended_write, writes_in}
use Rattle.gsl_cmd.proofs.Streams.{later_rise}
use Rattle.gsl_cmd.proofs.command.convert_file.Goals as goal

pub returns-in_err-bytes-clause-told : goal.returns-in_err-bytes-clause-told
returns-in_err-bytes-clause-told g c = λ files told.
    let p = err_from_is_err_and c.from_residual.result c.from_residual.ensures.1 in
    rw (p.1, p.2) (ended_read c.args.conversion c.args.file.now c.args.out.now files _ _ _ c.in_err-bytes.field-0.0
    (rw told at c.in_err-bytes.ensures.told) (c.in_err-bytes.ensures.files ∙ told) (λ e. c.in_err-bytes.ensures.failed (ap Err e)))

pub returns-in_err-text-clause-told : goal.returns-in_err-text-clause-told
returns-in_err-text-clause-told g c = λ files told.
    let p = err_from_is_err_and c.from_residual-in_err-text.result c.from_residual-in_err-text.ensures.1 in
    let read = rw told at c.in_ok-bytes.ensures.told in
    rw (p.1, p.2) (ended_made c.args.conversion c.args.file.now c.args.out.now files _ _ _ c.in_ok-bytes.bytes c.in_err-text.field-0.0
    read.0 read.1 (subst (λ (l : List ℕ). Gives (Makes c.args.conversion c.args.file.now l) (Err c.in_err-text.field-0.0)) c.as_slice.ensures c.in_err-text.ensures) (c.in_ok-bytes.ensures.files ∙ told))

pub returns-clause-told : goal.returns-clause-told
returns-clause-told g c = λ files told.
    let read = rw told at c.in_ok-bytes.ensures.told in
    let now = c.in_ok-bytes.ensures.files ∙ told in
    ended_write c.args.conversion c.args.file.now c.args.out.now files _ _ _ c.in_ok-bytes.bytes c.in_ok-text.text c.write_file.result
    read.0 read.1 (subst (λ (l : List ℕ). Gives (Makes c.args.conversion c.args.file.now l) (Ok c.in_ok-text.text)) c.as_slice.ensures c.in_ok-text.ensures) (rw now at c.write_file.ensures.ok) (rw now at c.write_file.ensures.others)
    (λ e. later_rise (g.H.Host.faults c.args.host.now) (g.H.Host.faults c.read_module.new.host) (g.H.Host.faults c.write_file.new.host) (Writing c.args.out.now) c.in_ok-bytes.ensures.faults (c.write_file.ensures.failed e)) c.write_file.ensures.no_fault c.write_file.ensures.no_text

pub returns-clause-cause : goal.returns-clause-cause
returns-clause-cause g c = λ e. (
  Writing c.args.out.now,
  writes_in c.args.conversion c.args.file.now c.args.out.now,
  later_rise (g.H.Host.faults c.args.host.now) (g.H.Host.faults c.read_module.new.host) (g.H.Host.faults c.write_file.new.host) (Writing c.args.out.now)
      c.in_ok-bytes.ensures.faults (c.write_file.ensures.failed e),
)
