use Rattle.gsl_lower_law_picks.proofs.Along.{block_strays}
use Rattle.gsl_lower_law_picks.proofs.laws.blocks_stray.Goals as goal

pub returns : goal.returns
returns c = λ m input state variable offset pointee word bytes there most. block_strays m input state variable offset pointee word bytes there most
