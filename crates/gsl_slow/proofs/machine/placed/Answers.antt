use Rattle.std.proofs.Common.{Some, ap, sym, ◌∙◌, get_or, eq-eqb, ne_eqb}
use Rattle.std.specs.Option.{option_map}
use Rattle.gsl_cmd.specs.Sections.{has_at}
use Rattle.gsl_slow.proofs.Searches.{passed_op, passed_test, met}
use Rattle.gsl_slow.proofs.machine.placed.Goals as goal
use Rattle.gsl_slow.proofs.machine.placed.Goals.{else-op-opcode-via-then-op-opcode+else-operand_at-word, else-op-opcode-via-else-op-opcode}

pub returns-then-operand_at-word : goal.returns-then-operand_at-word
returns-then-operand_at-word c =
    ap Some c.operand_at-then-operand_at-word.ensures ∙ ap (option_map (λ args. get_or args c.args.place 0))
    (met c.args.opcode (has_at c.args.at c.args.word) c.args.instrs.now c.loop-i.i c.op.result c.args-args.result.now c.op.ensures c.args-args.ensures c.if-op-opcode.true (eq-eqb _ _ (sym c.operand_at.ensures ∙ c.if-operand_at-word.true)) ∙ c.loop-i.invariant)

pub loop-i-preserved : goal.loop-i-preserved
loop-i-preserved c =
    elim c.else-op-opcode.branch [
      | else-op-opcode-via-then-op-opcode+else-operand_at-word w ↦
          passed_test c.args.opcode (has_at c.args.at c.args.word) c.args.instrs.now c.loop-i.i c.op.result c.args-args.result.now c.op.ensures c.args-args.ensures w.if-op-opcode.true (ne_eqb _ _ (λ e. w.if-operand_at-word.false (w.operand_at.ensures ∙ e))) ∙ c.loop-i.invariant
      | else-op-opcode-via-else-op-opcode w ↦
          passed_op c.args.opcode (has_at c.args.at c.args.word) c.args.instrs.now c.loop-i.i c.op.result c.args-args.result.now c.op.ensures c.args-args.ensures w.if-op-opcode.false ∙ c.loop-i.invariant
    ]
