use Rattle.gsl_lower_law_inputs.proofs.Typed.{variables_typed}
use Rattle.gsl_lower_law_inputs.proofs.laws.variables_have_their_types.Goals as goal

pub returns : goal.returns
returns c = variables_typed
