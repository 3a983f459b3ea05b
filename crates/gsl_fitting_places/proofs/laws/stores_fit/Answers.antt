use Rattle.gsl_fitting_places.proofs.Storing.{stored_fits, stored_sorts}
use Rattle.gsl_fitting_places.proofs.laws.stores_fit.Goals as goal

pub returns-clause-sorts : goal.returns-clause-sorts
returns-clause-sorts c = stored_sorts

pub returns-clause-comes : goal.returns-clause-comes
returns-clause-comes c = stored_fits
