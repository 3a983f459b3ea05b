use Rattle.gsl_lower_law_bound.proofs.Known.{member_known}
use Rattle.gsl_lower_law_bound.proofs.laws.members_are_known.Goals as goal

pub returns : goal.returns
returns c = member_known
