use Rattle.std.proofs.Common.{◌≡◌, length}
use Rattle.gsl_instr.specs.Texts.{onto, text_at}
use Rattle.gsl_instr.proofs.fitting.text_at.Given as goal

abbrev pub invariant-loop-rest : goal.invariant-loop-rest
invariant-loop-rest l = onto l.bytes (text_at l.rest) ≡ text_at l.words

abbrev pub decreases-loop-rest : goal.decreases-loop-rest
decreases-loop-rest l = length l.rest
