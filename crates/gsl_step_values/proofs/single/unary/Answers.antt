use Rattle.gsl_instr.specs.declared.instruction.Instruction.TheVariants as instruction
use Rattle.gsl_sound_code.proofs.Looks.{kept}
use Rattle.gsl_step.proofs.Giving.{next_step}
use Rattle.gsl_step_values.proofs.Ones.{unaries}
use Rattle.gsl_step_values.proofs.single.unary.Goals as goal

pub returns : goal.returns
returns c input state p more valid good typed shown comes reads =
    next_step c.args.operands.now input state c.either.new.machine p more (instruction.Unary c.args.op c.args.type_ c.args.result_id c.args.a) comes reads
    (unaries c.args.operands.now (kept c.args.operands.now valid) input c.args.machine.now c.either.new.machine state good typed shown p more comes c.args.op c.args.type_ c.args.result_id c.args.a reads c.either.ensures.each c.either.ensures.joined)
