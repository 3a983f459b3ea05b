use Rattle.std.proofs.Common.{arith}
use Rattle.gsl_lower_expr.proofs.Turns.{typed_end, typed_on}
use Rattle.gsl_lower_expr.proofs.lowerer.Lowerer.typed.Goals as goal

pub loop-k-preserved : goal.loop-k-preserved
loop-k-preserved c =
    typed_on c.args.es.now c.args.ids.now c.loop-k.k c.expr_at.result.now c.id_at.result.now c.operand.result c.loop-k.all c.push.new.self _ c.expr_at.ensures c.id_at.ensures c.operand.ensures c.in_ok-push.ensures.ok c.loop-k.invariant

pub returns : goal.returns
returns c = typed_end c.args.es.now c.args.ids.now c.loop-k.k c.loop-k.all _ (omega (arith, c.loop-k-test.false, c.min-k-end.ensures, c.len.ensures)) c.loop-k.invariant
