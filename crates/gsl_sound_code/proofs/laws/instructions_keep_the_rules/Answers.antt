use Rattle.gsl_sound_code.proofs.Looks.{kept}
use Rattle.gsl_sound_code.proofs.laws.instructions_keep_the_rules.Goals as goal

pub returns : goal.returns
returns c m valid = (kept m valid).all
