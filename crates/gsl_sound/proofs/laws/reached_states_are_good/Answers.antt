use Rattle.gsl_sound.proofs.Never.{reached_good}
use Rattle.gsl_sound.proofs.laws.reached_states_are_good.Goals as goal

pub returns : goal.returns
returns c m input count state valid fit is = reached_good m input count state valid fit is
