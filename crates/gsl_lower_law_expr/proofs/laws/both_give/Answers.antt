use Rattle.gsl_lower_law_expr.proofs.Logic.{both_give}
use Rattle.gsl_lower_law_expr.proofs.laws.both_give.Goals as goal

pub returns : goal.returns
returns c = both_give
