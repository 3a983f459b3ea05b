use Rattle.gsl_typed_places.proofs.Indexed.{blocked_plain}
use Rattle.gsl_typed_places.proofs.laws.parts_of_blocks_are_plain.Goals as goal

pub returns : goal.returns
returns c = blocked_plain
