use Rattle.gsl_fitting_places.proofs.Components.{component_comes, component_sorts}
use Rattle.gsl_fitting_places.proofs.laws.components_fit.Goals as goal

pub returns-clause-sorts : goal.returns-clause-sorts
returns-clause-sorts c = component_sorts

pub returns-clause-comes : goal.returns-clause-comes
returns-clause-comes c = component_comes
