use Rattle.gsl_step_entering.proofs.Begins.{initial_none, initial_some}
use Rattle.gsl_step_entering.proofs.variables.put_initial.Goals as goal

pub returns-in-None : goal.returns-in-None
returns-in-None c = initial_none c.args.operands.now c.args.slots.now c.args.words.now _ c.args.at c.in-None.ensures

pub returns-in-Some : goal.returns-in-Some
returns-in-Some c =
    initial_some c.args.operands.now c.args.slots.now c.args.words.now c.copy_in.new.words _ c.in-Some.id c.args.at c.words_of-count.result c.stands-from.result c.saturating_add.result c.in-Some.ensures c.words_of-count.ensures.all c.stands-from.ensures c.copy_in.ensures
    c.saturating_add.ensures
