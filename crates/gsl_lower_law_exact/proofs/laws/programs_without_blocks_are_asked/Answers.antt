use Rattle.gsl_lower_law_exact.proofs.Blocks.{blockless_asked}
use Rattle.gsl_lower_law_exact.proofs.laws.programs_without_blocks_are_asked.Goals as goal

pub returns : goal.returns
returns c = blockless_asked
