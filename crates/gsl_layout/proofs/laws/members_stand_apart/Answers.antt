use Rattle.gsl_layout.proofs.Order.{earlier_apart}
use Rattle.gsl_layout.proofs.laws.members_stand_apart.Goals as goal

pub returns : goal.returns
returns c members all i j offset next part is order has at behind = earlier_apart members 0 all i j offset next part is.0 order has at behind
