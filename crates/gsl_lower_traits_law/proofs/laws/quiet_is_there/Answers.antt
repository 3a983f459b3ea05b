use Rattle.gsl_lower_traits_law.proofs.There.{quiet_there}
use Rattle.gsl_lower_traits_law.proofs.laws.quiet_is_there.Goals as goal

pub returns : goal.returns
returns c = quiet_there
