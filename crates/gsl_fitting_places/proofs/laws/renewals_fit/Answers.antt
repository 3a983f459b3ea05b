use Rattle.gsl_fitting_places.proofs.Pointing.{renewed_comes, renewed_sorts}
use Rattle.gsl_fitting_places.proofs.laws.renewals_fit.Goals as goal

pub returns-clause-sorts : goal.returns-clause-sorts
returns-clause-sorts c = renewed_sorts

pub returns-clause-comes : goal.returns-clause-comes
returns-clause-comes c = renewed_comes
