use Rattle.std.proofs.Common.{ap}
use Rattle.gsl_instr.specs.declared.instruction.Instruction.TheVariants as instruction
use Rattle.gsl_machine.specs.Steps.{without_value}
use Rattle.gsl_step_calls.specs.declared.next.Next.TheVariants.{Ends, Goes}
use Rattle.gsl_step_calls.proofs.Ended.{ends_run, next_comes, returns_nothing}
use Rattle.std.proofs.Common.{false}
use Rattle.gsl_step_calls.proofs.ending.leave.Goals as goal

pub returns-in-None : goal.returns-in-None
returns-in-None c m input state p more valid good typed shown comes reads =
    next_comes m input state (record c.args.machine.now { callers = c.pop.new.self }) (Ends false) p more instruction.Return comes reads
    (ends_run m c.args.machine.now state shown more (record c.args.machine.now { callers = c.pop.new.self }) without_value c.in-None.ensures.0 (ap (λ l. record c.args.machine.now { callers = l }) c.in-None.ensures.1))

pub returns-in-Some : goal.returns-in-Some
returns-in-Some c m input state p more valid good typed shown comes reads =
    next_comes m input state (record c.args.machine.now { standing = c.pass.new.standing; callers = c.pop.new.self }) Goes p more instruction.Return comes reads
    (returns_nothing m c.args.machine.now state shown more c.in-Some.caller c.pop.new.self c.in-Some.ensures c.pass.new.standing c.pass.ensures)
