use Rattle.gsl_lower_reaching.proofs.Places.{swizzle_place}
use Rattle.gsl_lower_reaching.proofs.laws.swizzles_lead.Goals as goal

pub returns : goal.returns
returns c = swizzle_place
