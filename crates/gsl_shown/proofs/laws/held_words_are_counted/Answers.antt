use Rattle.gsl_sound_code.proofs.Looks.{kept}
use Rattle.gsl_shown.proofs.Counted.{held_counted}
use Rattle.gsl_shown.proofs.laws.held_words_are_counted.Goals as goal

pub returns : goal.returns
returns c m types type held valid of = held_counted m (kept m valid) types type held of
