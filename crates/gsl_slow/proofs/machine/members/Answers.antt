use Rattle.std.proofs.Common.{Some, ap, sym, ◌∙◌, drop, eq-eqb, ne_eqb}
use Rattle.std.specs.Option.{option_map}
use Rattle.gsl_instr.specs.declared.op.TheConstants as op
use Rattle.gsl_cmd.specs.Sections.{has_at}
use Rattle.gsl_slow.proofs.Searches.{passed_op, passed_test, met}
use Rattle.gsl_slow.proofs.machine.members.Goals as goal
use Rattle.gsl_slow.proofs.machine.members.Goals.{else-op-eq-TYPE_STRUCT-via-then-op-eq-TYPE_STRUCT+else-operand_at-of, else-op-eq-TYPE_STRUCT-via-else-op-eq-TYPE_STRUCT}

pub returns-then-operand_at-of : goal.returns-then-operand_at-of
returns-then-operand_at-of c =
    ap Some c.behind_first.ensures ∙ ap (option_map (drop 1))
    (met op.TYPE_STRUCT (has_at 0 c.args.of) c.args.instrs.now c.loop-i.i c.op.result c.args-args.result.now c.op.ensures c.args-args.ensures c.if-op-eq-TYPE_STRUCT.true (eq-eqb _ _ (sym c.operand_at.ensures ∙ c.if-operand_at-of.true)) ∙ c.loop-i.invariant)

pub loop-i-preserved : goal.loop-i-preserved
loop-i-preserved c =
    elim c.else-op-eq-TYPE_STRUCT.branch [
      | else-op-eq-TYPE_STRUCT-via-then-op-eq-TYPE_STRUCT+else-operand_at-of w ↦
          passed_test op.TYPE_STRUCT (has_at 0 c.args.of) c.args.instrs.now c.loop-i.i c.op.result c.args-args.result.now c.op.ensures c.args-args.ensures w.if-op-eq-TYPE_STRUCT.true (ne_eqb _ _ (λ e. w.if-operand_at-of.false (w.operand_at.ensures ∙ e))) ∙ c.loop-i.invariant
      | else-op-eq-TYPE_STRUCT-via-else-op-eq-TYPE_STRUCT w ↦
          passed_op op.TYPE_STRUCT (has_at 0 c.args.of) c.args.instrs.now c.loop-i.i c.op.result c.args-args.result.now c.op.ensures c.args-args.ensures w.if-op-eq-TYPE_STRUCT.false ∙ c.loop-i.invariant
    ]
