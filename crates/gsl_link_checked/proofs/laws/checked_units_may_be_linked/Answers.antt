use Rattle.gsl_link_checked.proofs.Joined.{answers_are}
use Rattle.gsl_link_checked.proofs.laws.checked_units_may_be_linked.Goals as goal

pub returns : goal.returns
returns c = answers_are
