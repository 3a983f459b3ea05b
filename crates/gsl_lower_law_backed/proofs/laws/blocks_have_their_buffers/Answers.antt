use Rattle.gsl_lower_law_backed.proofs.Backed.{has_buffer}
use Rattle.gsl_lower_law_backed.proofs.laws.blocks_have_their_buffers.Goals as goal

pub returns : goal.returns
returns c = has_buffer
