use Rattle.gsl_sound_types.proofs.Reached.{kept_typed}
use Rattle.gsl_sound_types.proofs.laws.steps_keep_states_typed.Goals as goal

pub returns : goal.returns
returns c m input state next valid good typed is = kept_typed m input state next valid good typed is
