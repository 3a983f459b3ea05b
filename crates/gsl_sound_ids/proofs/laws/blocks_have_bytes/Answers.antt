use Rattle.gsl_sound_code.proofs.Looks.{kept}
use Rattle.gsl_sound_ids.proofs.Given.{bytes_fit}
use Rattle.gsl_sound_ids.proofs.laws.blocks_have_bytes.Goals as goal

pub returns : goal.returns
returns c m input valid fit = bytes_fit m (kept m valid) input fit
