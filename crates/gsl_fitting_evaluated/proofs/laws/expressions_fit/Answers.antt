use Rattle.gsl_fitting_evaluated.proofs.Whole.{expr_fits}
use Rattle.gsl_fitting_evaluated.proofs.laws.expressions_fit.Goals as goal

pub returns : goal.returns
returns c = expr_fits
