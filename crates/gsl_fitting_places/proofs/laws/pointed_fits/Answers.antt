use Rattle.gsl_fitting_places.proofs.Pointing.{pointed_comes, pointed_sorts}
use Rattle.gsl_fitting_places.proofs.laws.pointed_fits.Goals as goal

pub returns-clause-sorts : goal.returns-clause-sorts
returns-clause-sorts c = pointed_sorts

pub returns-clause-comes : goal.returns-clause-comes
returns-clause-comes c = pointed_comes
