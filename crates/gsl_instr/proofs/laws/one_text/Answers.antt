use Rattle.gsl_instr.proofs.Fittings.{text_gives}
use Rattle.gsl_instr.proofs.Utf8.{utf8_bytes}
use Rattle.gsl_instr.proofs.laws.one_text.Goals as goal

pub returns : goal.returns
returns c = λ text more is. text_gives text more is.1 (utf8_bytes text is.0)
