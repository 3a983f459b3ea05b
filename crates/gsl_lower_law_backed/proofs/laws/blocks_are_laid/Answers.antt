use Rattle.gsl_lower_law_bound.proofs.Layouts.{block_laid}
use Rattle.gsl_lower_law_backed.proofs.laws.blocks_are_laid.Goals as goal

pub returns : goal.returns
returns c = block_laid
