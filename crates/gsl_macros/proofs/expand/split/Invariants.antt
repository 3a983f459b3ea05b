use Rattle.std.proofs.Common.{◌≡◌, [], length}
use Rattle.gsl_macros.specs.Expanding.{split}
use Rattle.gsl_macros.specs.Steps.{front}
use Rattle.gsl_macros.proofs.expand.split.Given as goal

abbrev pub invariant-loop-token : goal.invariant-loop-token
invariant-loop-token l = front l.args l.arg (split l.stream l.inner l.left) ≡ front [] [] (split l.initial.stream 0 l.initial.left)

abbrev pub decreases-loop-token : goal.decreases-loop-token
decreases-loop-token l = length l.stream
