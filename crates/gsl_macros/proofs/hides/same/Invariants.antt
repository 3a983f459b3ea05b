use Rattle.std.proofs.Common.{◌≡◌, length}
use Rattle.gsl_macros.specs.Hiding.{same}
use Rattle.gsl_macros.proofs.hides.same.Given as goal

abbrev pub invariant-loop-a : goal.invariant-loop-a
invariant-loop-a l = same l.a l.b ≡ same l.initial.a l.initial.b

abbrev pub decreases-loop-a : goal.decreases-loop-a
decreases-loop-a l = length l.a
