use Rattle.std.proofs.Common.{ap}
use Rattle.gsl_instr.specs.declared.instruction.Instruction.TheVariants as instruction
use Rattle.gsl_step.proofs.Giving.{next_step}
use Rattle.gsl_step_entering.proofs.Entries.{calls}
use Rattle.gsl_step_entering.proofs.calling.call.Goals as goal

pub returns-in-Err-clause-memory : goal.returns-in-Err-clause-memory
returns-in-Err-clause-memory c = ap (λ l. record c.args.machine.now { callers = l }) c.in-Err.ensures.memory

pub returns-in-Ok-clause-ok : goal.returns-in-Ok-clause-ok
returns-in-Ok-clause-ok c room input state p more valid good typed shown comes reads =
    let m = c.args.operands.now in
    next_step m input state c.enter.new.machine p more (instruction.FunctionCall c.args.type_ c.args.result_id c.args.function c.args.arguments.now) comes reads
    (calls m valid input c.args.machine.now c.enter.new.machine state good typed shown p more comes c.args.type_ c.args.result_id c.args.function c.args.arguments.now reads c.push.new.self c.in-Ok.ensures.ok room c.enter.ensures)
