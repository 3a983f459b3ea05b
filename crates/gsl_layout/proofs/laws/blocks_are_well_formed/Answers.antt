use Rattle.gsl_layout.proofs.Sound.{block_layout}
use Rattle.gsl_layout.proofs.laws.blocks_are_well_formed.Goals as goal

pub returns : goal.returns
returns c raise structs members placings raises known plain sound are none small = block_layout raise raises structs known plain members placings sound are none small
