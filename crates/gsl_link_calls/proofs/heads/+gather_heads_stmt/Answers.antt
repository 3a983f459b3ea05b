use Rattle.gsl_link_calls.specs.Gathering as spec
use Rattle.gsl_link_calls.proofs.Lists.{turn_step}
use Rattle.gsl_link_calls.proofs.heads.+gather_heads_stmt.Goals as goal

pub stmts_heads_gathered-loop-k-preserved : goal.stmts_heads_gathered-loop-k-preserved
stmts_heads_gathered-loop-k-preserved t c = turn_step spec.stmt_heads_gathered c.loop-k.calls c.stmt_heads_gathered.new.calls c.args.stmts.now c.loop-k.k _ _ c.index.ensures c.in_ok-stmt_heads_gathered.ensures c.loop-k.invariant

pub arms_heads_gathered-loop-k-preserved : goal.arms_heads_gathered-loop-k-preserved
arms_heads_gathered-loop-k-preserved t c = turn_step spec.arm_heads_gathered c.loop-k.calls c.arm_heads_gathered.new.calls c.args.arms.now c.loop-k.k _ _ c.index.ensures c.in_ok-arm_heads_gathered.ensures c.loop-k.invariant
