use Rattle.std.proofs.Common.{[], Err, Ok, ap, inl, inr, ◌∙◌}
use Rattle.std.proofs.lemmas.Result.{err_from_is_err_and}
use Rattle.gsl_given.specs.Given.{Got, and_then, buffers_found, push_found, push_names, with_files}
use Rattle.gsl_given.proofs.Found.{stops_both, goes_on}
use Rattle.gsl_given.proofs.Lines.{from_none, later_rise, lines_named, same_failure}
use Rattle.gsl_given.proofs.Reached.{behind_lines, lines_read, push_read}
use Rattle.gsl_given.proofs.given.read_input.Goals as goal

pub returns-in_err-given-clause-told : goal.returns-in_err-given-clause-told
returns-in_err-given-clause-told g c = λ files told.
    let p = err_from_is_err_and c.from_residual.result c.from_residual.ensures.1 in
    rw (p.1, p.2) (stops_both (buffers_found files [] c.args.manifest.buffers) _ c.in_err-given.field-0.0
    (from_none files c.new.result c.args.manifest.buffers c.as_slice.result.now (Err c.in_err-given.field-0.0) c.new.ensures c.as_slice.ensures (c.in_err-given.ensures.told files told)))

pub returns-in_err-push-clause-told : goal.returns-in_err-push-clause-told
returns-in_err-push-clause-told g c = λ files told.
    let p = err_from_is_err_and c.from_residual-in_err-push.result c.from_residual-in_err-push.ensures.1 in
    rw (p.1, p.2) (goes_on (buffers_found files [] c.args.manifest.buffers) (λ buffers. and_then (push_found files c.args.manifest.push) (λ push. Got (with_files c.args.manifest.input buffers push)))
    c.in_ok-given.given (Err c.in_err-push.field-0.0)
    (from_none files c.new.result c.args.manifest.buffers c.as_slice.result.now (Ok c.in_ok-given.given) c.new.ensures c.as_slice.ensures (c.in_ok-given.ensures.told files told))
    (stops_both (push_found files c.args.manifest.push) _ c.in_err-push.field-0.0 (c.in_err-push.ensures.told files (c.in_ok-given.ensures.files ∙ told))))

pub returns-clause-told : goal.returns-clause-told
returns-clause-told g c = λ files told.
    ap (λ found. and_then found (λ buffers. and_then (push_found files c.args.manifest.push) (λ push. Got (with_files c.args.manifest.input buffers push))))
    (from_none files c.new.result c.args.manifest.buffers c.as_slice.result.now (Ok c.in_ok-given.given) c.new.ensures c.as_slice.ensures (c.in_ok-given.ensures.told files told))
    ∙ ap (λ found. and_then found (λ push. Got (with_files c.args.manifest.input c.in_ok-given.given push))) (c.in_ok-push.ensures.told files (c.in_ok-given.ensures.files ∙ told))

pub returns-in_err-given-clause-failed : goal.returns-in_err-given-clause-failed
returns-in_err-given-clause-failed g c = λ e.
    let p = err_from_is_err_and c.from_residual.result c.from_residual.ensures.1 in
    let rose = c.in_err-given.ensures.failed (same_failure c.in_err-given.field-0.0 (rw (p.1, p.2) at e)) in
    (rose.0, inl (lines_named c.args.manifest.buffers c.as_slice.result.now rose.0 c.as_slice.ensures rose.1), rose.2)

pub returns-in_err-push-clause-failed : goal.returns-in_err-push-clause-failed
returns-in_err-push-clause-failed g c = λ e.
    let p = err_from_is_err_and c.from_residual-in_err-push.result c.from_residual-in_err-push.ensures.1 in
    let rose = c.in_err-push.ensures.failed (same_failure c.in_err-push.field-0.0 (rw (p.1, p.2) at e)) in (
      rose.0,
      inr rose.1,
      later_rise (g.H.Host.faults c.args.host.now) (g.H.Host.faults c.read_buffers.new.host) (g.H.Host.faults c.read_push.new.host) rose.0 c.in_ok-given.ensures.faults rose.2,
    )

pub returns-in_err-given-clause-reached : goal.returns-in_err-given-clause-reached
returns-in_err-given-clause-reached g c = λ files told e.
    let p = err_from_is_err_and c.from_residual.result c.from_residual.ensures.1 in
    let rose = c.in_err-given.ensures.reached files told (same_failure c.in_err-given.field-0.0 (rw (p.1, p.2) at e)) in
    (rose.0, lines_read files c.args.manifest.buffers c.as_slice.result.now (push_names c.args.manifest.push) rose.0 c.as_slice.ensures rose.1, rose.2)

pub returns-in_err-push-clause-reached : goal.returns-in_err-push-clause-reached
returns-in_err-push-clause-reached g c = λ files told e.
    let p = err_from_is_err_and c.from_residual-in_err-push.result c.from_residual-in_err-push.ensures.1 in
    let rose = c.in_err-push.ensures.failed (same_failure c.in_err-push.field-0.0 (rw (p.1, p.2) at e)) in (
      rose.0,
      behind_lines files [] c.args.manifest.buffers c.in_ok-given.given (push_names c.args.manifest.push) rose.0
          (from_none files c.new.result c.args.manifest.buffers c.as_slice.result.now (Ok c.in_ok-given.given) c.new.ensures c.as_slice.ensures (c.in_ok-given.ensures.told files told))
          (push_read files c.args.manifest.push rose.0 rose.1),
      later_rise (g.H.Host.faults c.args.host.now) (g.H.Host.faults c.read_buffers.new.host) (g.H.Host.faults c.read_push.new.host) rose.0 c.in_ok-given.ensures.faults rose.2,
    )
