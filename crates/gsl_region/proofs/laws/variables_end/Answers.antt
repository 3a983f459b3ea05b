use Rattle.gsl_region.proofs.Focus.{ended}
use Rattle.gsl_region.proofs.laws.variables_end.Goals as goal

pub returns : goal.returns
returns c = ended
