use Rattle.gsl_fitting_builtins.proofs.Built.{called_fits, called_sorts}
use Rattle.gsl_fitting_builtins.proofs.laws.builtins_fit.Goals as goal

pub returns-clause-sorts : goal.returns-clause-sorts
returns-clause-sorts c = called_sorts

pub returns-clause-comes : goal.returns-clause-comes
returns-clause-comes c = called_fits
