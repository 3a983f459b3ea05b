use Rattle.std.proofs.Common.{ap}
use Rattle.gsl_instr.specs.declared.instruction.Instruction.TheVariants as instruction
use Rattle.gsl_valid.specs.Kinds.{kind}
use Rattle.gsl_step.proofs.Giving.{next_step}
use Rattle.gsl_step.proofs.Passing.{label_passed, merge_passed}
use Rattle.gsl_step.proofs.going.merge.Goals as goal

pub returns-clause-label : goal.returns-clause-label
returns-clause-label c m label input state p more valid good typed shown comes reads =
    next_step m input state _ p more (instruction.Label label) comes reads (label_passed m c.args.machine.now state shown p more comes c.pass.new.standing c.pass.ensures (ap kind reads))

pub returns-clause-selection : goal.returns-clause-selection
returns-clause-selection c m merge control input state p more valid good typed shown comes reads =
    next_step m input state _ p more (instruction.SelectionMerge merge control) comes reads (merge_passed m c.args.machine.now state shown p more comes c.pass.new.standing c.pass.ensures (ap kind reads))

pub returns-clause-loop_ : goal.returns-clause-loop_
returns-clause-loop_ c m merge continue_target control input state p more valid good typed shown comes reads =
    next_step m input state _ p more (instruction.LoopMerge merge continue_target control) comes reads (merge_passed m c.args.machine.now state shown p more comes c.pass.new.standing c.pass.ensures (ap kind reads))
