use Rattle.gsl_lower_reaching.proofs.Places.{block_place}
use Rattle.gsl_lower_reaching.proofs.laws.blocks_lead.Goals as goal

pub returns : goal.returns
returns c = block_place
