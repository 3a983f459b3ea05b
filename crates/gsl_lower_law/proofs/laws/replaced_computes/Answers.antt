use Rattle.gsl_lower_law.proofs.Replacing.{replaced_computes as computes}
use Rattle.gsl_lower_law.proofs.laws.replaced_computes.Goals as goal

pub returns : goal.returns
returns c = computes
