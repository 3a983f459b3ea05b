use Rattle.gsl_sound_code.proofs.Looks.{kept}
use Rattle.gsl_sound_values.proofs.Constants.{constant_shaped}
use Rattle.gsl_sound_values.proofs.laws.constants_have_their_shapes.Goals as goal

pub returns : goal.returns
returns c m id type value valid is = constant_shaped m (kept m valid) id type value is
