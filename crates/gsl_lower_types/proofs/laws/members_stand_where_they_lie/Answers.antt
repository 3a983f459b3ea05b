use Rattle.gsl_lower_types.proofs.Standing.{members_stand}
use Rattle.gsl_lower_types.proofs.laws.members_stand_where_they_lie.Goals as goal

pub returns : goal.returns
returns c = members_stand
