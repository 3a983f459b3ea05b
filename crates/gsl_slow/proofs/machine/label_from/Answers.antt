use Rattle.std.proofs.Common.{◌∙◌}
use Rattle.gsl_slow.proofs.Searches.{label_here, label_passed}
use Rattle.gsl_slow.proofs.machine.label_from.Goals as goal

pub returns-then-op-eq-LABEL : goal.returns-then-op-eq-LABEL
returns-then-op-eq-LABEL c = label_here c.args.instrs.now c.loop-i.i c.op.result c.op.ensures c.if-op-eq-LABEL.true ∙ c.loop-i.invariant

pub loop-i-preserved : goal.loop-i-preserved
loop-i-preserved c = label_passed c.args.instrs.now c.loop-i.i c.op.result c.op.ensures c.if-op-eq-LABEL.false ∙ c.loop-i.invariant
