use Rattle.gsl_lower_law.proofs.Unaries.{unary_computes as computes}
use Rattle.gsl_lower_law.proofs.laws.unary_computes.Goals as goal

pub returns : goal.returns
returns c = computes
