use Rattle.gsl_tree.specs.WellTyped.{unit_lists}
use Rattle.gsl_form.proofs.Units.{read_found, read_none}
use Rattle.gsl_form.proofs.reading.read_unit.Goals as goal

pub returns-clause-found : goal.returns-clause-found
returns-clause-found c stage = read_found (unit_lists stage c.args.unit.now) c.unit_program.result c.unit_program.ensures

pub returns-clause-none : goal.returns-clause-none
returns-clause-none c stage = read_none (unit_lists stage c.args.unit.now) c.unit_program.result c.unit_program.ensures
