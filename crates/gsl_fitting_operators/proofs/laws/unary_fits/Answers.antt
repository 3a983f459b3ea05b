use Rattle.gsl_fitting_operators.proofs.Operators.{unary_fits, unary_sorts}
use Rattle.gsl_fitting_operators.proofs.Pairs.{stepped_fits}
use Rattle.gsl_fitting_operators.proofs.laws.unary_fits.Goals as goal

pub returns-clause-sorts : goal.returns-clause-sorts
returns-clause-sorts c = unary_sorts

pub returns-clause-comes : goal.returns-clause-comes
returns-clause-comes c = unary_fits

pub returns-clause-steps : goal.returns-clause-steps
returns-clause-steps c = stepped_fits
