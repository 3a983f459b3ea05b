use Rattle.std.proofs.Common.{◌-◌, sym, subst, ◌∙◌, length, take, drop, Err}
use Rattle.std.proofs.lemmas.Result.{err_from_is_err_and}
use Rattle.gsl_given.specs.Given.{Answers, buffer_found, buffers_found}
use Rattle.gsl_given.proofs.Found.{stops_both, goes_on}
use Rattle.gsl_host.specs.declared.target.Target.TheVariants.{Reading}
use Rattle.gsl_given.proofs.Lines.{first_line, rest_named, later_rise, same_failure}
use Rattle.gsl_given.proofs.Reached.{first_read, rest_reads}
use Rattle.gsl_given.proofs.given.+read_buffers.Goals as goal

pub returns-in_err-all-in-len1-up-clause-told : goal.returns-in_err-all-in-len1-up-clause-told
returns-in_err-all-in-len1-up-clause-told g t c = λ files told.
    let p = err_from_is_err_and c.from_residual.result c.from_residual.ensures.1 in
    rw (p.1, p.2) (subst (λ f. Answers f (Err c.in_err-all-in-len1-up.field-0.0))
    (sym (first_line files c.args.before c.args.lines.now c.line-item.result c.in-len1-up.len_at_least c.line-item.is))
    (stops_both (buffer_found files c.args.before c.line-item.result) _ c.in_err-all-in-len1-up.field-0.0 (c.in_err-all-in-len1-up.ensures.told files told)))

pub returns-in_ok-all-in-len1-up-clause-told : goal.returns-in_ok-all-in-len1-up-clause-told
returns-in_ok-all-in-len1-up-clause-told g t c = λ files told.
    subst (λ f. Answers f c.read_buffers.result)
    (sym (first_line files c.args.before c.args.lines.now c.line-item.result c.in-len1-up.len_at_least c.line-item.is))
    (goes_on (buffer_found files c.args.before c.line-item.result) (λ all. buffers_found files all (take (length c.args.lines.now - 1) (drop 1 c.args.lines.now)))
    c.in_ok-all-in-len1-up.all c.read_buffers.result
    (c.in_ok-all-in-len1-up.ensures.told files told) (c.read_buffers.ensures.told files (c.in_ok-all-in-len1-up.ensures.files ∙ told)))

pub returns-in_ok-all-in-len1-up-clause-failed : goal.returns-in_ok-all-in-len1-up-clause-failed
returns-in_ok-all-in-len1-up-clause-failed g t c = λ e.
    let later = c.read_buffers.ensures.failed e in (
      later.0,
      rest_named c.args.lines.now later.0 later.1,
      later_rise (g.H.Host.faults c.args.host.now) (g.H.Host.faults c.read_buffer.new.host) (g.H.Host.faults c.read_buffers.new.host) later.0 c.in_ok-all-in-len1-up.ensures.faults later.2,
    )

pub returns-in_err-all-in-len1-up-clause-reached : goal.returns-in_err-all-in-len1-up-clause-reached
returns-in_err-all-in-len1-up-clause-reached g t c = λ files told e.
    let p = err_from_is_err_and c.from_residual.result c.from_residual.ensures.1 in (
      Reading c.line-item.result.path,
      first_read files c.args.lines.now c.line-item.result c.in-len1-up.len_at_least c.line-item.is,
      c.in_err-all-in-len1-up.ensures.failed (same_failure c.in_err-all-in-len1-up.field-0.0 (rw (p.1, p.2) at e)),
    )

pub returns-in_ok-all-in-len1-up-clause-reached : goal.returns-in_ok-all-in-len1-up-clause-reached
returns-in_ok-all-in-len1-up-clause-reached g t c = λ files told e.
    let later = c.read_buffers.ensures.reached files (c.in_ok-all-in-len1-up.ensures.files ∙ told) e in (
      later.0,
      rest_reads files c.args.before c.args.lines.now c.line-item.result c.in_ok-all-in-len1-up.all later.0 c.in-len1-up.len_at_least c.line-item.is
          (c.in_ok-all-in-len1-up.ensures.told files told) later.1,
      later_rise (g.H.Host.faults c.args.host.now) (g.H.Host.faults c.read_buffer.new.host) (g.H.Host.faults c.read_buffers.new.host) later.0 c.in_ok-all-in-len1-up.ensures.faults later.2,
    )
