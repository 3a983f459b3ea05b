use Rattle.gsl_lower_law_places.proofs.Blocks.{block_stores}
use Rattle.gsl_lower_law_places.proofs.laws.blocks_are_stored.Goals as goal

pub returns : goal.returns
returns c = λ m input state variable offset pointee bytes v there. block_stores m input state variable offset pointee bytes there v
