use Rattle.gsl_link_checked.proofs.Joined.{answers_linked}
use Rattle.gsl_link_checked.proofs.laws.checked_units_are_linked.Goals as goal

pub returns : goal.returns
returns c = answers_linked
