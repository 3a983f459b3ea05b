use Rattle.gsl_lower_law_operators.proofs.Straights.{stepped_computes as computes}
use Rattle.gsl_lower_law_operators.proofs.laws.stepped_computes.Goals as goal

pub returns : goal.returns
returns c = computes
