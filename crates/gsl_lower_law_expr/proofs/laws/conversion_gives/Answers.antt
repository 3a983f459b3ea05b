use Rattle.gsl_lower_law_expr.proofs.Single.{conversion_gives}
use Rattle.gsl_lower_law_expr.proofs.laws.conversion_gives.Goals as goal

pub returns : goal.returns
returns c = conversion_gives
