use Rattle.gsl_fitting_builtins.proofs.Building.{built_fits, built_sorts}
use Rattle.gsl_fitting_builtins.proofs.laws.constructors_fit.Goals as goal

pub returns-clause-sorts : goal.returns-clause-sorts
returns-clause-sorts c = built_sorts

pub returns-clause-comes : goal.returns-clause-comes
returns-clause-comes c = built_fits
