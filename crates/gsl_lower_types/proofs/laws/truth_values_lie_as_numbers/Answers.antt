use Rattle.gsl_lower_types.proofs.Standing.{truths_lie}
use Rattle.gsl_lower_types.proofs.laws.truth_values_lie_as_numbers.Goals as goal

pub returns : goal.returns
returns c = truths_lie
