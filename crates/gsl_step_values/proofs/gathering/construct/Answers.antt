use Rattle.gsl_instr.specs.declared.instruction.Instruction.TheVariants as instruction
use Rattle.gsl_sound_code.proofs.Looks.{kept}
use Rattle.gsl_step.proofs.Giving.{next_step}
use Rattle.gsl_step_values.proofs.Gathered.{constructs}
use Rattle.gsl_step_values.proofs.gathering.construct.Goals as goal

pub returns : goal.returns
returns c input state p more valid good typed shown comes reads =
    next_step c.args.operands.now input state c.put_all.new.machine p more (instruction.CompositeConstruct c.args.type_ c.args.result_id c.args.parts.now) comes reads
    (constructs c.args.operands.now (kept c.args.operands.now valid) input c.args.machine.now c.put_all.new.machine state good typed shown p more comes c.args.type_ c.args.result_id c.args.parts.now reads c.put_all.ensures)
