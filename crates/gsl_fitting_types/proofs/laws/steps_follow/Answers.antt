use Rattle.gsl_fitting_types.proofs.Sorting.{sorts_then}
use Rattle.gsl_fitting_types.proofs.laws.steps_follow.Goals as goal

pub returns : goal.returns
returns c before built next first more = sorts_then before built next first more
