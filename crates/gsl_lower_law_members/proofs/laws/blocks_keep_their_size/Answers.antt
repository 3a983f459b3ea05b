use Rattle.gsl_lower_law_members.proofs.Sized.{size_is}
use Rattle.gsl_lower_law_members.proofs.laws.blocks_keep_their_size.Goals as goal

pub returns : goal.returns
returns c = λ m input structs blocks vs state variable bytes put there. size_is m input structs blocks vs state variable bytes put there
