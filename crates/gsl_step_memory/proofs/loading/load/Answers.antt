use Rattle.gsl_instr.specs.declared.instruction.Instruction.TheVariants as instruction
use Rattle.gsl_sound_code.proofs.Looks.{kept}
use Rattle.gsl_step.proofs.Giving.{next_step}
use Rattle.gsl_step_memory.proofs.Loads.{loads}
use Rattle.gsl_step_memory.proofs.loading.load.Goals as goal

pub returns : goal.returns
returns c plain input state p more valid good typed shown comes reads =
    next_step c.args.operands.now input state c.put_loaded.new.machine p more (instruction.Load c.args.type_ c.args.result_id c.args.pointer) comes reads
    (loads c.args.operands.now (kept c.args.operands.now valid) input c.args.machine.now c.put_loaded.new.machine state good typed shown p more comes c.args.type_ c.args.result_id c.args.pointer c.place_of-from.result reads plain c.place_of-from.ensures c.put_loaded.ensures)
