use Rattle.gsl_fitting_shapes.proofs.Arms.{one_arm, two_arms}
use Rattle.gsl_fitting_shapes.proofs.laws.selections_fit.Goals as goal

pub returns-clause-two : goal.returns-clause-two
returns-clause-two c = two_arms

pub returns-clause-one : goal.returns-clause-one
returns-clause-one c = one_arm
