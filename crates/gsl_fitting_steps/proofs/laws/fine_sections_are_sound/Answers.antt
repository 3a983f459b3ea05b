use Rattle.gsl_fitting_steps.proofs.Fine.{sound_of}
use Rattle.gsl_fitting_steps.proofs.laws.fine_sections_are_sound.Goals as goal

pub returns : goal.returns
returns c = sound_of
