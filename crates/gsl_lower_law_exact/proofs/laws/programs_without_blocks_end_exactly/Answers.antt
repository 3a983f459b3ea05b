use Rattle.gsl_lower_law_exact.proofs.Ending.{blockless_ends}
use Rattle.gsl_lower_law_exact.proofs.laws.programs_without_blocks_end_exactly.Goals as goal

pub returns : goal.returns
returns c = blockless_ends
