use Rattle.std.proofs.Common.{Some, ap, sym, ◌∙◌, get_or}
use Rattle.std.specs.Option.{option_map}
use Rattle.gsl_cmd.specs.Sections.{begin_with}
use Rattle.gsl_slow.proofs.Searches.{passed_op, passed_test, met}
use Rattle.gsl_slow.proofs.machine.prefixed.Goals as goal
use Rattle.gsl_slow.proofs.machine.prefixed.Goals.{else-op-opcode-via-then-op-opcode+else-begins_with, else-op-opcode-via-else-op-opcode}

pub returns-then-begins_with : goal.returns-then-begins_with
returns-then-begins_with c =
    ap Some c.operand_at.ensures ∙ ap (option_map (λ args. get_or args c.args.place 0))
    (met c.args.opcode (begin_with c.args.prefix.now) c.args.instrs.now c.loop-i.i c.op.result c.args-args.result.now c.op.ensures c.args-args.ensures c.if-op-opcode.true (sym c.begins_with.ensures ∙ c.if-begins_with.true) ∙ c.loop-i.invariant)

pub loop-i-preserved : goal.loop-i-preserved
loop-i-preserved c =
    elim c.else-op-opcode.branch [
      | else-op-opcode-via-then-op-opcode+else-begins_with w ↦
          passed_test c.args.opcode (begin_with c.args.prefix.now) c.args.instrs.now c.loop-i.i c.op.result c.args-args.result.now c.op.ensures c.args-args.ensures w.if-op-opcode.true (sym w.begins_with.ensures ∙ w.if-begins_with.false) ∙ c.loop-i.invariant
      | else-op-opcode-via-else-op-opcode w ↦
          passed_op c.args.opcode (begin_with c.args.prefix.now) c.args.instrs.now c.loop-i.i c.op.result c.args-args.result.now c.op.ensures c.args-args.ensures w.if-op-opcode.false ∙ c.loop-i.invariant
    ]
