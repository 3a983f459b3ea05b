use Rattle.gsl_fitting_sections.proofs.Kept.{calls_none, shape_none, structure_none}
use Rattle.gsl_fitting_sections.proofs.laws.sections_have_functions.Goals as goal

pub returns-clause-shape : goal.returns-clause-shape
returns-clause-shape c = shape_none

pub returns-clause-calls : goal.returns-clause-calls
returns-clause-calls c = calls_none

pub returns-clause-structure : goal.returns-clause-structure
returns-clause-structure c = structure_none
