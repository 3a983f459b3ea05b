use Rattle.gsl_fitting_expr.proofs.Operands.{forked_evaluates}
use Rattle.gsl_fitting_expr.proofs.laws.choices_evaluate.Goals as goal

pub returns : goal.returns
returns c = forked_evaluates
