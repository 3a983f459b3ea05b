use Rattle.gsl_fitting_reaching.proofs.Names.{value_reaches}
use Rattle.gsl_fitting_reaching.proofs.laws.values_reach.Goals as goal

pub returns : goal.returns
returns c = value_reaches
