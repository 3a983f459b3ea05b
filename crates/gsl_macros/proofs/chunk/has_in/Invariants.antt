use Rattle.std.proofs.Common.{◌≡◌, length}
use Rattle.gsl_macros.specs.Hiding.{in_any}
use Rattle.gsl_macros.proofs.chunk.has_in.Given as goal

abbrev pub invariant-loop-rest : goal.invariant-loop-rest
invariant-loop-rest l = in_any l.number l.rest ≡ in_any l.number l.initial.rest

abbrev pub decreases-loop-rest : goal.decreases-loop-rest
decreases-loop-rest l = length l.rest
