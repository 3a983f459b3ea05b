use Rattle.gsl_fits_law.proofs.Fits.{fit_alike}
use Rattle.gsl_fits_law.proofs.laws.modules_that_ask_alike_fit_alike.Goals as goal

pub returns : goal.returns
returns c = fit_alike
