use Rattle.gsl_sound.proofs.Never.{never_stuck}
use Rattle.gsl_sound.proofs.laws.valid_modules_are_never_stuck.Goals as goal

pub returns : goal.returns
returns c = never_stuck
