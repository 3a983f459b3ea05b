use Rattle.gsl_sound_types.proofs.Reached.{reached_typed}
use Rattle.gsl_sound_types.proofs.laws.reached_states_are_typed.Goals as goal

pub returns : goal.returns
returns c m input count state valid ranges fit is = reached_typed m input count state valid ranges fit is
