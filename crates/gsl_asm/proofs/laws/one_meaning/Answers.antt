use Rattle.gsl_text.specs.Lines.{lines_of}
use Rattle.gsl_asm.proofs.Lined.{one_module, one_place}
use Rattle.gsl_asm.proofs.laws.one_meaning.Goals as goal

pub returns : goal.returns
returns c = record { one = λ bytes. one_module (lines_of bytes); one_line = one_place; never_both = λ lines m n are is. is.0 m are }
