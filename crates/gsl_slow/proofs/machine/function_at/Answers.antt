use Rattle.std.proofs.Common.{sym, ◌∙◌}
use Rattle.gsl_slow.proofs.Searches.{function_here, function_passed, function_passed_op}
use Rattle.gsl_slow.proofs.machine.function_at.Goals as goal
use Rattle.gsl_slow.proofs.machine.function_at.Goals.{else-op-eq-FUNCTION-via-then-op-eq-FUNCTION+else-operand_at-function, else-op-eq-FUNCTION-via-else-op-eq-FUNCTION}

pub returns-then-operand_at-function : goal.returns-then-operand_at-function
returns-then-operand_at-function c =
    function_here c.args.function c.args.instrs.now c.loop-i.i c.op.result c.args-args.result.now c.op.ensures c.args-args.ensures c.if-op-eq-FUNCTION.true
    (sym c.operand_at.ensures ∙ c.if-operand_at-function.true) ∙ c.loop-i.invariant

pub loop-i-preserved : goal.loop-i-preserved
loop-i-preserved c =
    elim c.else-op-eq-FUNCTION.branch [
      | else-op-eq-FUNCTION-via-then-op-eq-FUNCTION+else-operand_at-function w ↦
          function_passed c.args.function c.args.instrs.now c.loop-i.i c.op.result c.args-args.result.now c.op.ensures c.args-args.ensures w.if-op-eq-FUNCTION.true
          (λ e. w.if-operand_at-function.false (w.operand_at.ensures ∙ e)) ∙ c.loop-i.invariant
      | else-op-eq-FUNCTION-via-else-op-eq-FUNCTION w ↦
          function_passed_op c.args.function c.args.instrs.now c.loop-i.i c.op.result c.args-args.result.now c.op.ensures c.args-args.ensures w.if-op-eq-FUNCTION.false ∙ c.loop-i.invariant
    ]
