use Rattle.gsl_fitting_kinds.proofs.Evaluated.{counted_evaluates, length_evaluates}
use Rattle.gsl_fitting_kinds.proofs.laws.lengths_evaluate.Goals as goal

pub returns-clause-in_blocks : goal.returns-clause-in_blocks
returns-clause-in_blocks c = length_evaluates

pub returns-clause-counted : goal.returns-clause-counted
returns-clause-counted c = counted_evaluates
