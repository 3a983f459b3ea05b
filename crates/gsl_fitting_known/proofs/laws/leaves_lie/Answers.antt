use Rattle.gsl_fitting_known.proofs.Leaves.{leaves_given, leaves_there}
use Rattle.gsl_fitting_known.proofs.laws.leaves_lie.Goals as goal

pub returns-clause-in_variables : goal.returns-clause-in_variables
returns-clause-in_variables c = leaves_there

pub returns-clause-in_values : goal.returns-clause-in_values
returns-clause-in_values c = leaves_given
