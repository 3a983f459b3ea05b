use Rattle.gsl_lower_reaching.proofs.Places.{value_place}
use Rattle.gsl_lower_reaching.proofs.laws.values_lead.Goals as goal

pub returns : goal.returns
returns c m input sections f p around t e run real sound gives = value_place m input sections f p around e.traits.splits t e.value run real sound gives
