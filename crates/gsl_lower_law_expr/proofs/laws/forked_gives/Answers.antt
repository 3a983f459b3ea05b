use Rattle.gsl_lower_law_expr.proofs.Forking.{forked_gives}
use Rattle.gsl_lower_law_expr.proofs.laws.forked_gives.Goals as goal

pub returns : goal.returns
returns c = forked_gives
