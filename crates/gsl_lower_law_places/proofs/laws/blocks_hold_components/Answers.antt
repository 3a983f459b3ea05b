use Rattle.gsl_lower_law_places.proofs.Blocks.{block_components}
use Rattle.gsl_lower_law_places.proofs.laws.blocks_hold_components.Goals as goal

pub returns : goal.returns
returns c = λ m input state variable offset pointee bytes component count there vector. block_components m input state variable offset pointee bytes there component count vector
