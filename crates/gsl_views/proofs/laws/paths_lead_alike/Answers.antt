use Rattle.gsl_views.proofs.Follows.{follows}
use Rattle.gsl_views.proofs.laws.paths_lead_alike.Goals as goal

pub returns : goal.returns
returns c layout part at place path bytes leads = follows bytes layout part at place path leads
