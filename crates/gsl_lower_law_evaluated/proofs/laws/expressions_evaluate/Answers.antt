use Rattle.gsl_lower_law_evaluated.proofs.Whole.{expr_evaluates}
use Rattle.gsl_lower_law_evaluated.proofs.laws.expressions_evaluate.Goals as goal

pub returns : goal.returns
returns c = expr_evaluates
