use Rattle.gsl_fitting_operators.proofs.Pairs.{binary_fits, binary_sorts}
use Rattle.gsl_fitting_operators.proofs.laws.binary_fits.Goals as goal

pub returns-clause-sorts : goal.returns-clause-sorts
returns-clause-sorts c = binary_sorts

pub returns-clause-comes : goal.returns-clause-comes
returns-clause-comes c = binary_fits
