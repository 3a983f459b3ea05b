use Rattle.std.proofs.Common.{subst}
use Rattle.gsl_instr.specs.declared.instruction.Instruction.TheVariants as instruction
use Rattle.gsl_sound_code.proofs.Looks.{kept}
use Rattle.gsl_step.proofs.Giving.{next_step}
use Rattle.gsl_step_values.specs.Values.{PutsTwo}
use Rattle.gsl_step_values.proofs.Two.{arithmetics}
use Rattle.gsl_step_values.proofs.operators.arithmetic.Goals as goal

pub returns : goal.returns
returns c input state p more valid good typed shown comes reads =
    next_step c.args.operands.now input state c.two.new.machine p more (instruction.Arithmetic c.args.op c.args.type_ c.args.result_id c.args.a c.args.b) comes reads
    (arithmetics c.args.operands.now (kept c.args.operands.now valid) input c.args.machine.now c.two.new.machine state good typed shown p more comes c.args.op c.args.type_ c.args.result_id c.args.a c.args.b reads
    (subst (λ o. PutsTwo c.args.operands.now o c.args.type_ c.args.result_id c.args.a c.args.b c.args.machine.now c.two.new.machine) c.arithmetic.ensures c.two.ensures))
