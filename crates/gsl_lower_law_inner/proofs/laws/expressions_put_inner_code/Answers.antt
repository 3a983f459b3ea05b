use Rattle.gsl_lower_law_inner.proofs.Whole.{expr_inner}
use Rattle.gsl_lower_law_inner.proofs.laws.expressions_put_inner_code.Goals as goal

pub returns : goal.returns
returns c = expr_inner
