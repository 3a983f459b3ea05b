use Rattle.gsl_lower_law_built.proofs.Sequence.{sequence_gives}
use Rattle.gsl_lower_law_built.proofs.laws.sequence_gives.Goals as goal

pub returns : goal.returns
returns c = sequence_gives
