use Rattle.gsl_fitting_sections.proofs.Kept.{constants_none, globals_none, types_none}
use Rattle.gsl_fitting_sections.proofs.laws.sections_declare_what_may_be.Goals as goal

pub returns-clause-types : goal.returns-clause-types
returns-clause-types c = types_none

pub returns-clause-constants : goal.returns-clause-constants
returns-clause-constants c = constants_none

pub returns-clause-globals : goal.returns-clause-globals
returns-clause-globals c = globals_none
