use Rattle.gsl_sound_code.proofs.Looks.{kept}
use Rattle.gsl_sound.proofs.Steps.{fine_step}
use Rattle.gsl_sound.proofs.laws.steps_keep_states_good.Goals as goal

pub returns : goal.returns
returns c m input state valid good = fine_step m (kept m valid) input state good
