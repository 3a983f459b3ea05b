use Rattle.std.proofs.Common.{◌≡◌, length}
use Rattle.gsl_macros.specs.Hiding.{among}
use Rattle.gsl_macros.proofs.chunk.has.Given as goal

abbrev pub invariant-loop-numbers : goal.invariant-loop-numbers
invariant-loop-numbers l = among l.number l.numbers ≡ among l.number l.initial.numbers

abbrev pub decreases-loop-numbers : goal.decreases-loop-numbers
decreases-loop-numbers l = length l.numbers
