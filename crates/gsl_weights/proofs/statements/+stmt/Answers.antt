use Rattle.gsl_weights.specs.Weighing as spec
use Rattle.gsl_weights.proofs.Sums.{turn_step}
use Rattle.gsl_weights.proofs.statements.+stmt.Goals as goal

pub stmts_weighed-loop-k-preserved : goal.stmts_weighed-loop-k-preserved
stmts_weighed-loop-k-preserved t c =
    turn_step (spec.stmt_weighed c.args.structs.now) c.loop-k.total c.stmt_weighed-total.result c.args.stmts.now c.loop-k.k c.index.result.now _ c.index.ensures c.stmt_weighed-total.ensures c.loop-k.invariant

pub arms_weighed-loop-k-preserved : goal.arms_weighed-loop-k-preserved
arms_weighed-loop-k-preserved t c =
    turn_step (spec.arm_weighed c.args.structs.now) c.loop-k.total c.arm_weighed-total.result c.args.arms.now c.loop-k.k c.index.result.now _ c.index.ensures c.arm_weighed-total.ensures c.loop-k.invariant
