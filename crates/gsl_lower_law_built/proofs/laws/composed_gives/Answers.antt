use Rattle.gsl_lower_law_built.proofs.Composed.{composed_gives}
use Rattle.gsl_lower_law_built.proofs.laws.composed_gives.Goals as goal

pub returns : goal.returns
returns c = composed_gives
