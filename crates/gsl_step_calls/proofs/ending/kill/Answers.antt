use Rattle.gsl_instr.specs.declared.instruction.Instruction.TheVariants as instruction
use Rattle.gsl_step_calls.proofs.Ended.{kills, next_comes}
use Rattle.gsl_step_calls.proofs.ending.kill.Goals as goal

pub returns : goal.returns
returns c m input state p more valid good typed shown comes reads =
    next_comes m input state c.args.machine.now _ p more instruction.Kill comes reads (kills m c.args.machine.now state shown more)
