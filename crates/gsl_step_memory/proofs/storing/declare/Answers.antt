use Rattle.std.proofs.Common.{subst}
use Rattle.gsl_instr.specs.declared.instruction.Instruction.TheVariants as instruction
use Rattle.gsl_sound_code.proofs.Looks.{kept}
use Rattle.gsl_step.proofs.Giving.{next_step}
use Rattle.gsl_step_memory.specs.Moved.{PutsStored}
use Rattle.gsl_step_memory.proofs.Stored.{declares}
use Rattle.gsl_step_memory.proofs.storing.declare.Goals as goal

pub returns : goal.returns
returns c input state p more valid good typed shown comes reads =
    next_step c.args.operands.now input state c.put_stored.new.machine p more (instruction.Variable c.args.type_ c.args.result_id c.args.class c.args.initialiser.now) comes reads
    (declares c.args.operands.now (kept c.args.operands.now valid) input c.args.machine.now c.put_stored.new.machine state good typed shown p more comes c.args.type_ c.args.result_id c.args.class c.place_of-at.result c.args.initialiser.now reads c.place_of-at.ensures
    (subst (λ n. PutsStored c.args.operands.now n c.place_of-at.result c.args.machine.now c.put_stored.new.machine) c.first_of.ensures c.put_stored.ensures))
