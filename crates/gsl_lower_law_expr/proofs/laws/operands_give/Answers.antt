use Rattle.gsl_lower_law_expr.proofs.Lists.{operands_do}
use Rattle.gsl_lower_law_expr.proofs.laws.operands_give.Goals as goal

pub returns : goal.returns
returns c = operands_do
