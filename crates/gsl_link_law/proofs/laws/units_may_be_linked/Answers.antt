use Rattle.gsl_link_law.proofs.Asked.{units_known}
use Rattle.gsl_link_law.proofs.laws.units_may_be_linked.Goals as goal

pub returns : goal.returns
returns c = units_known
