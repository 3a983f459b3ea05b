use Rattle.gsl_fitting_leaves.proofs.Comparing.{equality_comes, equality_sorts}
use Rattle.gsl_fitting_leaves.proofs.laws.equality_fits.Goals as goal

pub returns-clause-sorts : goal.returns-clause-sorts
returns-clause-sorts c = equality_sorts

pub returns-clause-comes : goal.returns-clause-comes
returns-clause-comes c = equality_comes
