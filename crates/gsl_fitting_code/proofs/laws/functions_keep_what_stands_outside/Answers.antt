use Rattle.gsl_fitting_code.proofs.Quiet.{types_pass, constants_pass, globals_pass, decorations_pass, layouts_pass, entries_pass}
use Rattle.gsl_fitting_code.proofs.Walk.{functions_pass}
use Rattle.gsl_fitting_code.proofs.laws.functions_keep_what_stands_outside.Goals as goal

pub returns-clause-types : goal.returns-clause-types
returns-clause-types c = λ m rank front functions stands. functions_pass stands _ (types_pass m rank)

pub returns-clause-constants : goal.returns-clause-constants
returns-clause-constants c = λ m rank front functions stands. functions_pass stands _ (constants_pass m rank)

pub returns-clause-globals : goal.returns-clause-globals
returns-clause-globals c = λ m rank front functions stands. functions_pass stands _ (globals_pass m rank)

pub returns-clause-decorations : goal.returns-clause-decorations
returns-clause-decorations c = λ m rank front functions stands. functions_pass stands _ (decorations_pass m rank)

pub returns-clause-layouts : goal.returns-clause-layouts
returns-clause-layouts c = λ m rank front functions stands. functions_pass stands _ (layouts_pass m rank)

pub returns-clause-entry : goal.returns-clause-entry
returns-clause-entry c = λ m rank front functions stands. functions_pass stands _ (entries_pass m rank)
