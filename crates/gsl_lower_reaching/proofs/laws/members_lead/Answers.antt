use Rattle.gsl_lower_reaching.proofs.Places.{member_place}
use Rattle.gsl_lower_reaching.proofs.laws.members_lead.Goals as goal

pub returns : goal.returns
returns c = member_place
