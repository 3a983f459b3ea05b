use Rattle.gsl_asm.proofs.Displayed.{shown_text, read_back}
use Rattle.gsl_asm.proofs.laws.shown_and_read.Goals as goal

pub returns : goal.returns
returns c = record { text = shown_text; back = read_back }
