use Rattle.gsl_instr.specs.declared.instruction.Instruction.TheVariants as instruction
use Rattle.gsl_sound_code.proofs.Looks.{kept}
use Rattle.gsl_step.proofs.Giving.{next_step}
use Rattle.gsl_step_values.proofs.Inside.{puts_part}
use Rattle.gsl_step_values.proofs.composites.insert.Goals as goal

pub returns : goal.returns
returns c input state p more valid good typed shown comes reads =
    next_step c.args.operands.now input state c.put_part.new.machine p more (instruction.CompositeInsert c.args.type_ c.args.result_id c.args.part c.args.composite c.args.indexes.now) comes reads
    (puts_part c.args.operands.now (kept c.args.operands.now valid) input c.args.machine.now c.put_part.new.machine state good typed shown p more comes c.args.type_ c.args.result_id c.args.part c.args.composite c.args.indexes.now reads c.put_part.ensures)
