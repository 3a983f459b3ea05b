use Rattle.std.proofs.Common.{◌≡◌, length}
use Rattle.gsl_macros.specs.Hiding.{greatest}
use Rattle.gsl_macros.proofs.chunk.greatest.Given as goal

abbrev pub invariant-loop-rest : goal.invariant-loop-rest
invariant-loop-rest l = greatest l.high l.rest ≡ greatest l.initial.high l.initial.rest

abbrev pub decreases-loop-rest : goal.decreases-loop-rest
decreases-loop-rest l = length l.rest
