use Rattle.std.proofs.Common.{◌≤◌, length, sym, ◌∙◌, arith}
use Rattle.gsl_blocks.proofs.Instructions.{at_role, at_end}
use Rattle.gsl_blocks.proofs.cursor.Blocks.next.Goals as goal

pub loop-self-preserved-in-Opens : goal.loop-self-preserved-in-Opens
loop-self-preserved-in-Opens c = (at_role c.loop-self.self-inside.instrs.now c.loop-self.self-inside.at _ c.loop-self.self-inside.label _ c.loop-self.self-inside.merge _ c.op.ensures c.args-in-loop-self.ensures (sym c.in-Opens.is ∙ c.read_role.ensures) ∙ c.loop-self.invariant.0, c.loop-self.invariant.1, omega (arith, c.loop-self-test.true, c.loop-self.invariant.1, c.len.ensures))

pub loop-self-preserved-in-Merges : goal.loop-self-preserved-in-Merges
loop-self-preserved-in-Merges c = (at_role c.loop-self.self-inside.instrs.now c.loop-self.self-inside.at _ c.loop-self.self-inside.label _ c.loop-self.self-inside.merge _ c.op.ensures c.args-in-loop-self.ensures (sym c.in-Merges.is ∙ c.read_role.ensures) ∙ c.loop-self.invariant.0, c.loop-self.invariant.1, omega (arith, c.loop-self-test.true, c.loop-self.invariant.1, c.len.ensures))

pub loop-self-preserved : goal.loop-self-preserved
loop-self-preserved c = (at_role c.loop-self.self-inside.instrs.now c.loop-self.self-inside.at _ c.loop-self.self-inside.label _ c.loop-self.self-inside.merge _ c.op.ensures c.args-in-loop-self.ensures (sym c.in-Inside.is ∙ c.read_role.ensures) ∙ c.loop-self.invariant.0, c.loop-self.invariant.1, omega (arith, c.loop-self-test.true, c.loop-self.invariant.1, c.len.ensures))

pub returns-in-Ends : goal.returns-in-Ends
returns-in-Ends c = sym c.loop-self.invariant.0 ∙ sym (at_role c.loop-self.self-inside.instrs.now c.loop-self.self-inside.at _ c.loop-self.self-inside.label _ c.loop-self.self-inside.merge _ c.op.ensures c.args-in-loop-self.ensures (sym c.in-Ends.is ∙ c.read_role.ensures))

pub returns-in-Closes : goal.returns-in-Closes
returns-in-Closes c =
    let over : length c.loop-self.self-inside.instrs.now ≤ c.len-in-Closes.result = omega (arith, c.len-in-Closes.ensures) in
    (sym c.loop-self.invariant.0 ∙ sym (at_role c.loop-self.self-inside.instrs.now c.loop-self.self-inside.at _ c.loop-self.self-inside.label _ c.loop-self.self-inside.merge _ c.op.ensures c.args-in-loop-self.ensures (sym c.in-Closes.is ∙ c.read_role.ensures)), at_end c.loop-self.self-inside.instrs.now c.len-in-Closes.result c.loop-self.self-inside.label c.loop-self.self-inside.merge over)

pub returns : goal.returns
returns c =
    let over : length c.loop-self.self-inside.instrs.now ≤ c.loop-self.self-inside.at = omega (arith, c.loop-self-test.false, c.len.ensures) in
    let none = at_end c.loop-self.self-inside.instrs.now c.loop-self.self-inside.at c.loop-self.self-inside.label c.loop-self.self-inside.merge over in
    (sym c.loop-self.invariant.0 ∙ none, none)
