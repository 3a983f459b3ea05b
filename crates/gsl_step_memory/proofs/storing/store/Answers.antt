use Rattle.gsl_instr.specs.declared.instruction.Instruction.TheVariants as instruction
use Rattle.gsl_sound_code.proofs.Looks.{kept}
use Rattle.gsl_step.proofs.Giving.{next_step}
use Rattle.gsl_step_memory.proofs.Stored.{stores}
use Rattle.gsl_step_memory.proofs.storing.store.Goals as goal

pub returns : goal.returns
returns c plain input state p more valid good typed shown comes reads =
    next_step c.args.operands.now input state c.put_stored.new.machine p more (instruction.Store c.args.pointer c.args.value) comes reads
    (stores c.args.operands.now (kept c.args.operands.now valid) input c.args.machine.now c.put_stored.new.machine state good typed shown p more comes c.args.pointer c.args.value c.place_of-at.result reads plain c.place_of-at.ensures c.put_stored.ensures)
