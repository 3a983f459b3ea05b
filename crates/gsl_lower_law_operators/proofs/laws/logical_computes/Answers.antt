use Rattle.gsl_lower_law_operators.proofs.Straights.{logical_computes as computes}
use Rattle.gsl_lower_law_operators.proofs.laws.logical_computes.Goals as goal

pub returns : goal.returns
returns c = computes
