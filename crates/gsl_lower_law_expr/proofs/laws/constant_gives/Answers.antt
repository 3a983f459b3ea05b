use Rattle.gsl_lower_law_expr.proofs.Constant.{constant_gives}
use Rattle.gsl_lower_law_expr.proofs.laws.constant_gives.Goals as goal

pub returns : goal.returns
returns c = constant_gives
