use Rattle.std.proofs.lemmas.Result.{err_from_is_err_and}
use Rattle.gsl_fold.proofs.Several.{value_on, value_stops}
use Rattle.gsl_fold.proofs.value.+value.Goals as goal

pub values-loop-k-preserved : goal.values-loop-k-preserved
values-loop-k-preserved t c =
    value_on c.args.consts.now c.args.es.now c.loop-k.k c.index.result.now c.loop-k.given c.push.new.self c.loop-k.choices c.value.new.choices c.in_ok-value.field-0 _ c.index.ensures c.in_ok-value.ensures c.in_ok-push.ensures.ok c.loop-k.invariant

pub values-returns-in_err-value : goal.values-returns-in_err-value
values-returns-in_err-value t c =
    let p = err_from_is_err_and c.from_residual.result c.from_residual.ensures.1 in
    let stops = value_stops c.args.consts.now c.args.es.now c.loop-k.k c.index.result.now c.loop-k.given c.loop-k.choices c.value.new.choices c.in_err-value.field-0.0 _ c.index.ensures c.in_err-value.ensures c.loop-k.invariant in
    rw (p.1, p.2) stops
