use Rattle.gsl_lower_frames.proofs.Texts.{text_begun}
use Rattle.gsl_lower_frames.proofs.laws.functions_text.Goals as goal

pub returns : goal.returns
returns c = λ m sections id code valid written s held count. text_begun m sections id code valid written s held count
