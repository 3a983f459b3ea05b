use Rattle.std.proofs.Common.{arith}
use Rattle.std.proofs.lemmas.Result.{err_from_is_err_and}
use Rattle.gsl_perform.specs.Framed.{around}
use Rattle.gsl_perform.proofs.Rows.{arg_on, arg_stops, args_end, value_on, value_stops, values_end}
use Rattle.gsl_perform.proofs.around.Around.+expressions.Goals as goal

pub values-returns-in_err-value : goal.values-returns-in_err-value
values-returns-in_err-value g t c =
    let p = err_from_is_err_and c.from_residual.result c.from_residual.ensures.1 in
    rw (p.1, p.2) (value_stops (around c.args.self.now.frame.now c.args.self.now.depth) c.args.es.now c.loop-k.k c.index.result.now c.loop-k.given _ c.loop-k.w c.value.new.w _ c.index.ensures c.in_err-value.ensures c.loop-k.invariant)

pub values-loop-k-preserved : goal.values-loop-k-preserved
values-loop-k-preserved g t c =
    value_on (around c.args.self.now.frame.now c.args.self.now.depth) c.args.es.now c.loop-k.k c.index.result.now c.loop-k.given c.push.new.self c.in_ok-value.field-0 c.loop-k.w c.value.new.w _ c.index.ensures c.in_ok-value.ensures c.in_ok-push.ensures.ok c.loop-k.invariant

pub values-returns : goal.values-returns
values-returns g t c =
    values_end (around c.args.self.now.frame.now c.args.self.now.depth) c.args.es.now c.loop-k.k c.loop-k.given c.loop-k.w _ (omega (arith, c.loop-k-test.false, c.len-k-end.ensures)) c.loop-k.invariant

pub arguments-returns-in_err-argument : goal.arguments-returns-in_err-argument
arguments-returns-in_err-argument g t c =
    let p = err_from_is_err_and c.from_residual.result c.from_residual.ensures.1 in
    rw (p.1, p.2) (arg_stops (around c.args.self.now.frame.now c.args.self.now.depth) c.args.params.now c.args.args.now c.loop-k.k _ c.index.result.now c.loop-k.given _ c.loop-k.w c.argument.new.w _ c.param_at.ensures c.index.ensures c.in_err-argument.ensures c.loop-k.invariant)

pub arguments-loop-k-preserved : goal.arguments-loop-k-preserved
arguments-loop-k-preserved g t c =
    arg_on (around c.args.self.now.frame.now c.args.self.now.depth) c.args.params.now c.args.args.now c.loop-k.k _ c.index.result.now c.loop-k.given c.push.new.self c.in_ok-argument.field-0 c.loop-k.w c.argument.new.w _ c.param_at.ensures c.index.ensures c.in_ok-argument.ensures c.in_ok-push.ensures.ok c.loop-k.invariant

pub arguments-returns : goal.arguments-returns
arguments-returns g t c =
    args_end (around c.args.self.now.frame.now c.args.self.now.depth) c.args.params.now c.args.args.now c.loop-k.k c.loop-k.given c.loop-k.w _ (omega (arith, c.loop-k-test.false, c.min-k-end.ensures, c.len.ensures)) c.loop-k.invariant
