use Rattle.gsl_sound_code.proofs.Looks.{kept}
use Rattle.gsl_sound_ids.proofs.Globals.{globals_agree}
use Rattle.gsl_sound_ids.proofs.laws.what_lasts_agrees.Goals as goal

pub returns : goal.returns
returns c m count valid room = globals_agree m (kept m valid) count room
