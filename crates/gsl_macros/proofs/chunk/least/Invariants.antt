use Rattle.std.proofs.Common.{◌≡◌, length}
use Rattle.gsl_macros.specs.Hiding.{least}
use Rattle.gsl_macros.proofs.chunk.least.Given as goal

abbrev pub invariant-loop-rest : goal.invariant-loop-rest
invariant-loop-rest l = least l.low l.rest ≡ least l.initial.low l.initial.rest

abbrev pub decreases-loop-rest : goal.decreases-loop-rest
decreases-loop-rest l = length l.rest
