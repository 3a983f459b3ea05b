use Rattle.std.proofs.Common.{arith, sym, ◌∙◌}
use Rattle.gsl_lower_stmt.proofs.Targets.{default_end, default_found, default_on}
use Rattle.gsl_lower_stmt.proofs.switches.default_of.Goals as goal

pub returns-then-is_default : goal.returns-then-is_default
returns-then-is_default c =
    default_found c.args.arms.now c.args.labels.now c.args.end c.loop-k.k c.label_at-label.result.now c.arm_at-arm.result.now _ c.label_at-label.ensures c.arm_at-arm.ensures (sym c.is_default.ensures ∙ c.if-is_default.true) c.loop-k.invariant

pub loop-k-preserved : goal.loop-k-preserved
loop-k-preserved c =
    default_on c.args.arms.now c.args.labels.now c.args.end c.loop-k.k c.label_at-label.result.now c.arm_at-arm.result.now _ c.label_at-label.ensures c.arm_at-arm.ensures (sym c.is_default.ensures ∙ c.if-is_default.false) c.loop-k.invariant

pub returns : goal.returns
returns c = default_end c.args.arms.now c.args.labels.now c.args.end c.loop-k.k _ (omega (arith, c.loop-k-test.false, c.len-k-end.ensures)) c.loop-k.invariant
