use Rattle.gsl_fitting_types.proofs.Knowing.{one_type}
use Rattle.gsl_fitting_types.proofs.Types.{type_comes, type_sorts}
use Rattle.gsl_fitting_types.proofs.laws.types_fit.Goals as goal

pub returns-clause-sorts : goal.returns-clause-sorts
returns-clause-sorts c = type_sorts

pub returns-clause-comes : goal.returns-clause-comes
returns-clause-comes c = type_comes

pub returns-clause-one : goal.returns-clause-one
returns-clause-one c = one_type
