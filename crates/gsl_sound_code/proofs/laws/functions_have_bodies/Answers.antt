use Rattle.gsl_sound_code.proofs.Functions.{body_of}
use Rattle.gsl_sound_code.proofs.Looks.{kept}
use Rattle.gsl_sound_code.proofs.laws.functions_have_bodies.Goals as goal

pub returns : goal.returns
returns c m id returned own function_type valid is = body_of m (kept m valid) id returned own function_type is
