use Rattle.gsl_instr.specs.declared.instruction.Instruction.TheVariants as instruction
use Rattle.gsl_sound_code.proofs.Looks.{kept}
use Rattle.gsl_step.proofs.Giving.{next_step}
use Rattle.gsl_step_values.proofs.Picked.{shuffles}
use Rattle.gsl_step_values.proofs.shuffling.shuffle.Goals as goal

pub returns : goal.returns
returns c input state p more valid good typed shown comes reads =
    next_step c.args.operands.now input state c.put_shuffled.new.machine p more (instruction.VectorShuffle c.args.type_ c.args.result_id c.args.a c.args.b c.args.positions.now) comes reads
    (shuffles c.args.operands.now (kept c.args.operands.now valid) input c.args.machine.now c.put_shuffled.new.machine state good typed shown p more comes c.args.type_ c.args.result_id c.args.a c.args.b c.args.positions.now reads c.put_shuffled.ensures)
