use Rattle.std.proofs.Common.{◌∙◌, ◌≤◌, ap, arith, length, sym}
use Rattle.gsl_positions.specs.Positions.{left}
use Rattle.gsl_positions.proofs.Standing.{label_here, label_later, label_nowhere, label_over, op_there}
use Rattle.gsl_positions.proofs.positions.first_label.Goals as goal

pub returns : goal.returns
returns c =
    let over : length c.args.of.now.instrs ≤ c.loop-at.at = omega (arith, c.loop-at-test.false, c.loop-at.invariant.0) in
    c.loop-at.invariant.1 ∙ label_over c.args.of.now c.loop-at.at over

pub returns-then-op-eq-LABEL : goal.returns-then-op-eq-LABEL
returns-then-op-eq-LABEL c =
    let i = op_there c.args.of.now.instrs c.loop-at.at c.op-op.result c.op-op.ensures in
    c.loop-at.invariant.1 ∙ label_here c.args.of.now c.loop-at.at i.0 i.1 (sym i.2 ∙ c.if-op-eq-LABEL.true)

pub returns-then-op-eq-FUNCTION_END : goal.returns-then-op-eq-FUNCTION_END
returns-then-op-eq-FUNCTION_END c =
    let m = c.args.of.now in
    let i = op_there m.instrs c.loop-at.at c.op-op.result c.op-op.ensures in
    c.loop-at.invariant.1 ∙ label_nowhere m c.loop-at.at i.0 i.1 (λ is. c.if-op-eq-LABEL.false (i.2 ∙ is)) (sym i.2 ∙ c.if-op-eq-FUNCTION_END.true) ∙ ap (left m) (sym c.loop-at.invariant.0)

pub loop-at-preserved : goal.loop-at-preserved
loop-at-preserved c =
    let i = op_there c.args.of.now.instrs c.loop-at.at c.op-op.result c.op-op.ensures in
    (c.loop-at.invariant.0, c.loop-at.invariant.1 ∙ label_later c.args.of.now c.loop-at.at i.0 i.1 (λ is. c.if-op-eq-LABEL.false (i.2 ∙ is)) (λ is. c.if-op-eq-FUNCTION_END.false (i.2 ∙ is)))
