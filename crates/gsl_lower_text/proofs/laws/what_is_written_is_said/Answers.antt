use Rattle.gsl_lower_text.proofs.Texts.{text_said}
use Rattle.gsl_lower_text.proofs.laws.what_is_written_is_said.Goals as goal

pub returns : goal.returns
returns c = λ m s own valid written lasts. text_said m s own valid written lasts
