use Rattle.gsl_lower_law.proofs.Constants.{filled_stands, scalar_stands, vector_stands}
use Rattle.gsl_lower_law.proofs.laws.constants_stand.Goals as goal

pub returns-clause-scalar : goal.returns-clause-scalar
returns-clause-scalar c = scalar_stands

pub returns-clause-filled : goal.returns-clause-filled
returns-clause-filled c = filled_stands

pub returns-clause-vector : goal.returns-clause-vector
returns-clause-vector c = vector_stands
