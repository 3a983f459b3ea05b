use Rattle.gsl_lower_law_buffers.proofs.Begun.{blocks_seen}
use Rattle.gsl_lower_law_buffers.proofs.laws.blocks_are_seen.Goals as goal

pub returns : goal.returns
returns c = blocks_seen
