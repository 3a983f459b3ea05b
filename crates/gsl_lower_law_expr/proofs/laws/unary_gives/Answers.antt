use Rattle.gsl_lower_law_expr.proofs.Single.{unary_gives}
use Rattle.gsl_lower_law_expr.proofs.laws.unary_gives.Goals as goal

pub returns : goal.returns
returns c = unary_gives
