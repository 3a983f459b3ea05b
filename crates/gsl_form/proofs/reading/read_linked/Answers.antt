use Rattle.gsl_tree.specs.WellTyped.{program_lists}
use Rattle.gsl_form.proofs.Units.{read_found, read_none}
use Rattle.gsl_form.proofs.reading.read_linked.Goals as goal

pub returns-clause-found : goal.returns-clause-found
returns-clause-found c = read_found (program_lists c.args.linked.now) c.linked_program.result c.linked_program.ensures

pub returns-clause-none : goal.returns-clause-none
returns-clause-none c = read_none (program_lists c.args.linked.now) c.linked_program.result c.linked_program.ensures
