use Rattle.std.proofs.Common.{◌≡◌, ◌++◌, length}
use Rattle.gsl_macros.proofs.chunk.add_again.Given as goal

abbrev pub invariant-loop-rest : goal.invariant-loop-rest
invariant-loop-rest l = l.list ++ l.rest ≡ l.initial.list ++ l.initial.rest

abbrev pub decreases-loop-rest : goal.decreases-loop-rest
decreases-loop-rest l = length l.rest
