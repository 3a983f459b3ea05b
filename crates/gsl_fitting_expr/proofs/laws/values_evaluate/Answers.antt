use Rattle.gsl_fitting_expr.proofs.Constants.{constant_evaluates, selected_evaluates}
use Rattle.gsl_fitting_expr.proofs.laws.values_evaluate.Goals as goal

pub returns-clause-constant : goal.returns-clause-constant
returns-clause-constant c = constant_evaluates

pub returns-clause-selected : goal.returns-clause-selected
returns-clause-selected c = selected_evaluates
