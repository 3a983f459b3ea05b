use Rattle.gsl_fitting_led.proofs.Places.{weaker_reaches}
use Rattle.gsl_fitting_led.proofs.laws.less_may_be_stored.Goals as goal

pub returns : goal.returns
returns c = weaker_reaches
