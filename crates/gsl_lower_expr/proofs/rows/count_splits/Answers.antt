use Rattle.gsl_lower_expr.proofs.Turns.{counted_on}
use Rattle.gsl_lower_expr.proofs.rows.count_splits.Goals as goal

pub loop-k-preserved : goal.loop-k-preserved
loop-k-preserved c = counted_on c.args.es.now c.loop-k.k c.expr_at.result.now c.loop-k.count c.in_ok-own.own _ c.expr_at.ensures c.in_ok-own.ensures c.loop-k.invariant
