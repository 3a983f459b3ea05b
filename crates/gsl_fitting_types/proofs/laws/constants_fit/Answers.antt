use Rattle.gsl_fitting_types.proofs.Types.{constant_value, filled_constant_comes, scalar_constant_comes, vector_constant_comes}
use Rattle.gsl_fitting_types.proofs.laws.constants_fit.Goals as goal

pub returns-clause-scalar : goal.returns-clause-scalar
returns-clause-scalar c = scalar_constant_comes

pub returns-clause-filled : goal.returns-clause-filled
returns-clause-filled c = filled_constant_comes

pub returns-clause-vector : goal.returns-clause-vector
returns-clause-vector c = vector_constant_comes

pub returns-clause-values : goal.returns-clause-values
returns-clause-values c = constant_value
