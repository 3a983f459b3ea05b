use Rattle.gsl_lower_law_buffers.proofs.Begun.{blocks_begin}
use Rattle.gsl_lower_law_buffers.proofs.laws.blocks_begin.Goals as goal

pub returns : goal.returns
returns c = blocks_begin
