use Rattle.gsl_lower_law_asking.proofs.Alike.{lowered_fits}
use Rattle.gsl_lower_law_asking.proofs.laws.lowered_modules_fit_alike.Goals as goal

pub returns : goal.returns
returns c = lowered_fits
