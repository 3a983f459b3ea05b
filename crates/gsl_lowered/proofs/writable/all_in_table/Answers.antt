use Rattle.std.proofs.Common.{sym, ◌∙◌}
use Rattle.gsl_lowered.proofs.Filed.{does, does_not}
use Rattle.gsl_lowered.proofs.writable.all_in_table.Goals as goal

pub returns-then-not-branch-clause-told : goal.returns-then-not-branch-clause-told
returns-then-not-branch-clause-told c =
    does_not c.args.of.now.instrs c.loop-i.i c.args-in-loop-i.result.now c.args-in-loop-i.ensures c.op.result c.op.ensures (sym c.in_ok-is_in_table.ensures.told ∙ c.if-not-branch.true)

pub loop-i-preserved : goal.loop-i-preserved
loop-i-preserved c =
    does c.args.of.now.instrs c.loop-i.i c.args-in-loop-i.result.now c.args-in-loop-i.ensures c.op.result c.op.ensures c.loop-i.invariant.0 c.loop-i.invariant.1
    (sym c.in_ok-is_in_table.ensures.told ∙ c.if-not-branch.false) c.in_ok-is_in_table.ensures.types
