use Rattle.gsl_lower_law_expr.proofs.Binary.{binary_gives}
use Rattle.gsl_lower_law_expr.proofs.laws.binary_gives.Goals as goal

pub returns : goal.returns
returns c = binary_gives
