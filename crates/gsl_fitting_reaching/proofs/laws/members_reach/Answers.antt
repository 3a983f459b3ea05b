use Rattle.gsl_fitting_reaching.proofs.Names.{member_reaches}
use Rattle.gsl_fitting_reaching.proofs.laws.members_reach.Goals as goal

pub returns : goal.returns
returns c = member_reaches
