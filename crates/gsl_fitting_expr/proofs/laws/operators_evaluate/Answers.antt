use Rattle.gsl_fitting_expr.proofs.Operands.{binary_evaluates, conversion_evaluates, unary_evaluates}
use Rattle.gsl_fitting_expr.proofs.laws.operators_evaluate.Goals as goal

pub returns-clause-unary : goal.returns-clause-unary
returns-clause-unary c = unary_evaluates

pub returns-clause-converted : goal.returns-clause-converted
returns-clause-converted c = conversion_evaluates

pub returns-clause-binary : goal.returns-clause-binary
returns-clause-binary c = binary_evaluates
