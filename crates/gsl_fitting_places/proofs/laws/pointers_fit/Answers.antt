use Rattle.gsl_fitting_places.proofs.Chains.{pointer_comes, pointer_sorts}
use Rattle.gsl_fitting_places.proofs.laws.pointers_fit.Goals as goal

pub returns-clause-sorts : goal.returns-clause-sorts
returns-clause-sorts c = pointer_sorts

pub returns-clause-comes : goal.returns-clause-comes
returns-clause-comes c = pointer_comes
