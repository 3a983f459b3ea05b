use Rattle.gsl_lower_follows.proofs.Beginning.{chooses}
use Rattle.gsl_lower_follows.proofs.laws.choices_lead_to_labels.Goals as goal

pub returns : goal.returns
returns c = chooses
