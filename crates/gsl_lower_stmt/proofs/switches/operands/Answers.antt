use Rattle.std.proofs.Common.{arith}
use Rattle.gsl_lower_stmt.proofs.Targets.{targets_end, targets_on}
use Rattle.gsl_lower_stmt.proofs.switches.operands.Goals as goal

pub loop-k-preserved : goal.loop-k-preserved
loop-k-preserved c =
    targets_on c.args.arms.now c.args.labels.now c.loop-k.k c.label_at-label.result.now c.arm_at-arm.result.now c.loop-k.args c.put_pairs.new.args _ c.label_at-label.ensures c.arm_at-arm.ensures c.in_ok-put_pairs.ensures c.loop-k.invariant

pub returns : goal.returns
returns c = targets_end c.args.arms.now c.args.labels.now c.loop-k.k c.loop-k.args _ (omega (arith, c.loop-k-test.false, c.len-k-end.ensures)) c.loop-k.invariant
