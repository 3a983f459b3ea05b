use Rattle.gsl_lower_law_bound.proofs.Standing.{blocks_bound}
use Rattle.gsl_lower_law_bound.proofs.laws.blocks_are_bound.Goals as goal

pub returns : goal.returns
returns c = blocks_bound
