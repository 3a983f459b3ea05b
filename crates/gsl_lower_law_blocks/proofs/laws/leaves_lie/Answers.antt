use Rattle.gsl_lower_law_blocks.proofs.Lying.{leaves_lie}
use Rattle.gsl_lower_law_blocks.proofs.laws.leaves_lie.Goals as goal

pub returns : goal.returns
returns c = λ m input variable size at type from words l leaves lie to all. leaves_lie m input variable size at type from words l lie to leaves all
