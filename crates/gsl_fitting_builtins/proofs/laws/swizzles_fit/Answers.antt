use Rattle.gsl_fitting_builtins.proofs.Picking.{picked_fits, picked_sorts, replaced_fits}
use Rattle.gsl_fitting_builtins.proofs.laws.swizzles_fit.Goals as goal

pub returns-clause-sorts : goal.returns-clause-sorts
returns-clause-sorts c = picked_sorts

pub returns-clause-picked : goal.returns-clause-picked
returns-clause-picked c = picked_fits

pub returns-clause-replaced : goal.returns-clause-replaced
returns-clause-replaced c = replaced_fits
