use Rattle.gsl_lower_follows.proofs.Holding.{does_hold}
use Rattle.gsl_lower_follows.proofs.laws.values_wait_in_holders.Goals as goal

pub returns : goal.returns
returns c = does_hold
