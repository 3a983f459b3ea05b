use Rattle.gsl_link_calls.specs.Gathering as spec
use Rattle.gsl_link_calls.proofs.Lists.{turn_step}
use Rattle.gsl_link_calls.proofs.gather.+gather_calls_stmt.Goals as goal

pub stmts_gathered-loop-k-preserved : goal.stmts_gathered-loop-k-preserved
stmts_gathered-loop-k-preserved t c = turn_step spec.stmt_gathered c.loop-k.calls c.stmt_gathered.new.calls c.args.stmts.now c.loop-k.k _ _ c.index.ensures c.in_ok-stmt_gathered.ensures c.loop-k.invariant

pub arms_gathered-loop-k-preserved : goal.arms_gathered-loop-k-preserved
arms_gathered-loop-k-preserved t c = turn_step spec.arm_gathered c.loop-k.calls c.arm_gathered.new.calls c.args.arms.now c.loop-k.k _ _ c.index.ensures c.in_ok-arm_gathered.ensures c.loop-k.invariant
