use Rattle.gsl_lower_law_operators.proofs.Straights.{selected_computes as computes}
use Rattle.gsl_lower_law_operators.proofs.laws.selected_computes.Goals as goal

pub returns : goal.returns
returns c = computes
