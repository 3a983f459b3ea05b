use Rattle.gsl_lower_law_asking.proofs.Alike.{lowered_asks}
use Rattle.gsl_lower_law_asking.proofs.laws.lowered_modules_ask_alike.Goals as goal

pub returns : goal.returns
returns c = lowered_asks
