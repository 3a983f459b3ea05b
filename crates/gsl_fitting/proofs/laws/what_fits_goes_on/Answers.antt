use Rattle.gsl_fitting.proofs.Ends.{none_due}
use Rattle.gsl_fitting.proofs.laws.what_fits_goes_on.Goals as goal

pub returns : goal.returns
returns c = λ m rank f code fits. none_due m rank f code fits
