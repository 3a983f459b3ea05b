use Rattle.gsl_lower_law_built.proofs.Called.{built_gives}
use Rattle.gsl_lower_law_built.proofs.laws.built_gives.Goals as goal

pub returns : goal.returns
returns c = built_gives
