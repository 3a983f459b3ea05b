use Rattle.gsl_sound_code.proofs.Looks.{kept}
use Rattle.gsl_sound_values.proofs.Constants.{zeros_shaped}
use Rattle.gsl_sound_values.proofs.laws.zeros_have_their_shape.Goals as goal

pub returns : goal.returns
returns c m type valid is = zeros_shaped m (kept m valid) type is
