use Rattle.gsl_fitting_shapes.proofs.Labels.{arm_fresh, body_fresh, case_fresh, continue_fresh, in_function, later}
use Rattle.gsl_fitting_shapes.proofs.laws.labels_are_fresh.Goals as goal

pub returns-clause-function : goal.returns-clause-function
returns-clause-function c = in_function

pub returns-clause-later : goal.returns-clause-later
returns-clause-later c = later

pub returns-clause-arm : goal.returns-clause-arm
returns-clause-arm c = arm_fresh

pub returns-clause-case : goal.returns-clause-case
returns-clause-case c = case_fresh

pub returns-clause-body : goal.returns-clause-body
returns-clause-body c = body_fresh

pub returns-clause-continues : goal.returns-clause-continues
returns-clause-continues c = continue_fresh
