use Rattle.gsl_fitting_reaching.proofs.Names.{swizzle_reaches}
use Rattle.gsl_fitting_reaching.proofs.laws.swizzles_reach.Goals as goal

pub returns : goal.returns
returns c = swizzle_reaches
