use Rattle.std.proofs.Common.{◌<◌, get_or, length, arith}
use Rattle.gsl_leaves.proofs.Told.{total_more}
use Rattle.gsl_leaves.proofs.leaves.sum_of.Goals as goal

pub loop-k-preserved : goal.loop-k-preserved
loop-k-preserved c =
    let below : c.loop-k.k < length c.args.types.now = omega (arith, c.loop-k-test.true, c.min-k-end.ensures) in
    total_more (λ id. get_or c.args.rows.now.items id 0) c.args.types.now c.loop-k.k c.loop-k.all c.plus-all.result c.row.result below c.loop-k.invariant c.row.ensures c.plus-all.ensures
