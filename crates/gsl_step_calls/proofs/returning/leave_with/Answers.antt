use Rattle.std.proofs.Common.{ap, false}
use Rattle.gsl_instr.specs.declared.instruction.Instruction.TheVariants as instruction
use Rattle.gsl_sound_code.proofs.Looks.{kept}
use Rattle.gsl_step_calls.specs.declared.next.Next.TheVariants.{Ends, Goes}
use Rattle.gsl_step_calls.proofs.Ended.{next_comes}
use Rattle.gsl_step_calls.proofs.Valued.{ends_with, returns_value}
use Rattle.gsl_step_calls.proofs.returning.leave_with.Goals as goal

pub returns-in-None : goal.returns-in-None
returns-in-None c input state p more valid good typed shown comes reads =
    let m = c.args.operands.now in
    let now = c.args.machine.now in
    next_comes m input state (record now { callers = c.pop.new.self }) (Ends false) p more (instruction.ReturnValue c.args.value) comes reads
    (ends_with m (kept m valid) input now state good typed shown p more comes (record now { callers = c.pop.new.self }) c.args.value c.in-None.ensures.0 (ap (λ l. record now { callers = l }) c.in-None.ensures.1))

pub returns-in-Some : goal.returns-in-Some
returns-in-Some c input state p more valid good typed shown comes reads =
    let m = c.args.operands.now in
    next_comes m input state c.return_to.new.machine Goes p more (instruction.ReturnValue c.args.value) comes reads
    (returns_value m (kept m valid) input c.args.machine.now state good typed shown p more comes c.in-Some.caller c.pop.new.self c.in-Some.ensures c.return_to.new.machine c.args.value reads c.return_to.ensures)
