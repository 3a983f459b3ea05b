use Rattle.gsl_lower_law_discard.proofs.Discarded.{discard_does}
use Rattle.gsl_lower_law_discard.proofs.laws.invocations_are_discarded.Goals as goal

pub returns : goal.returns
returns c = discard_does
