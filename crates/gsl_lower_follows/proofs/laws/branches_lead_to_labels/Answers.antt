use Rattle.gsl_lower_follows.proofs.Jumping.{jumps}
use Rattle.gsl_lower_follows.proofs.laws.branches_lead_to_labels.Goals as goal

pub returns : goal.returns
returns c = jumps
