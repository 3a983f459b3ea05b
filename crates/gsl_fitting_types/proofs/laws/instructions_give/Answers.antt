use Rattle.gsl_fitting_types.proofs.Stepping.{giving_comes}
use Rattle.gsl_fitting_types.proofs.laws.instructions_give.Goals as goal

pub returns : goal.returns
returns c = giving_comes
