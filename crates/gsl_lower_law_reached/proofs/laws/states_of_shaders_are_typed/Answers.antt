use Rattle.gsl_lower_law_reached.proofs.Typed.{good_typed}
use Rattle.gsl_lower_law_reached.proofs.laws.states_of_shaders_are_typed.Goals as goal

pub returns : goal.returns
returns c = good_typed
