use Rattle.gsl_lower_law_expr.proofs.Short.{short_gives}
use Rattle.gsl_lower_law_expr.proofs.laws.short_gives.Goals as goal

pub returns : goal.returns
returns c = short_gives
