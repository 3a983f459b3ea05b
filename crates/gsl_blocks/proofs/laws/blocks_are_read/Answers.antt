use Rattle.gsl_blocks.proofs.Decided.{decides}
use Rattle.gsl_blocks.proofs.laws.blocks_are_read.Goals as goal

pub returns : goal.returns
returns c = decides
