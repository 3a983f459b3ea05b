use Rattle.gsl_link_checked.proofs.Joined.{declares_once}
use Rattle.gsl_link_checked.proofs.laws.names_are_declared_once.Goals as goal

pub returns : goal.returns
returns c = declares_once
