use Rattle.gsl_lower_law_zeros.proofs.Said.{nulls_said}
use Rattle.gsl_lower_law_zeros.proofs.laws.nulls_are_said.Goals as goal

pub returns : goal.returns
returns c = nulls_said
