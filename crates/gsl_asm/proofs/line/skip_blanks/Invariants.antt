use Rattle.std.proofs.Common.{◌≡◌, ◌≤◌, length}
use Rattle.gsl_asm.specs.Splitting.{words_of}
use Rattle.gsl_asm.proofs.line.skip_blanks.Given as goal

abbrev pub invariant-loop-rest : goal.invariant-loop-rest
invariant-loop-rest l = (words_of l.rest ≡ words_of l.bytes) × (length l.rest ≤ length l.bytes)

abbrev pub decreases-loop-rest : goal.decreases-loop-rest
decreases-loop-rest l = length l.rest
