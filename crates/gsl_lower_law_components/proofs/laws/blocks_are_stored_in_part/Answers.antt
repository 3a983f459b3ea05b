use Rattle.gsl_lower_law_components.proofs.Parted.{blocks_stored}
use Rattle.gsl_lower_law_components.proofs.laws.blocks_are_stored_in_part.Goals as goal

pub returns : goal.returns
returns c = λ m input whole id class shape parts p by words from variable offset pointee component bytes w value state before many stands each leads no_push there vector is_new new picks fits few. blocks_stored m input whole id class parts p words from variable offset pointee component bytes w value state before many stands each leads no_push there vector is_new new shape by picks fits few
