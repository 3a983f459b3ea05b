use Rattle.gsl_lower_law.proofs.Joining.{leads_then}
use Rattle.gsl_lower_law.proofs.laws.stretches_join.Goals as goal

pub returns : goal.returns
returns c = leads_then
