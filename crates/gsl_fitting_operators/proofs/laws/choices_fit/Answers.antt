use Rattle.gsl_fitting_operators.proofs.Pairs.{logical_fits, selected_fits}
use Rattle.gsl_fitting_operators.proofs.laws.choices_fit.Goals as goal

pub returns-clause-logical : goal.returns-clause-logical
returns-clause-logical c = logical_fits

pub returns-clause-selected : goal.returns-clause-selected
returns-clause-selected c = selected_fits
