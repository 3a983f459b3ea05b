use Rattle.gsl_lower_law_inputs.proofs.Given.{stages_typed}
use Rattle.gsl_lower_law_inputs.proofs.laws.built_in_values_are_typed.Goals as goal

pub returns : goal.returns
returns c = stages_typed
