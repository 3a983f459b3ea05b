use Rattle.gsl_sound_code.proofs.Looks.{kept}
use Rattle.gsl_lower_text.proofs.Lasting.{function_lasts}
use Rattle.gsl_lower_text.proofs.laws.functions_last.Goals as goal

pub returns : goal.returns
returns c = λ m id returned own function_type body held count valid is found. function_lasts m (kept m valid) id returned own function_type body held count is found
