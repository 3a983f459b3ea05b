use Rattle.gsl_fitting_operators.proofs.Operators.{converted_fits, converted_sorts, spread_fits}
use Rattle.gsl_fitting_operators.proofs.laws.conversions_fit.Goals as goal

pub returns-clause-sorts : goal.returns-clause-sorts
returns-clause-sorts c = converted_sorts

pub returns-clause-comes : goal.returns-clause-comes
returns-clause-comes c = converted_fits

pub returns-clause-spread : goal.returns-clause-spread
returns-clause-spread c = spread_fits
