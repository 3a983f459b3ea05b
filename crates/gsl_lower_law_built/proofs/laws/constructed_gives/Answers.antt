use Rattle.gsl_lower_law_built.proofs.Constructed.{constructed_gives}
use Rattle.gsl_lower_law_built.proofs.laws.constructed_gives.Goals as goal

pub returns : goal.returns
returns c = constructed_gives
