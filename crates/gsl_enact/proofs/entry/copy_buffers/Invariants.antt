use Rattle.std.proofs.Common.{◌≡◌, ◌++◌, length}
use Rattle.gsl_enact.proofs.entry.copy_buffers.Given as goal

abbrev pub invariant-loop-rest : goal.invariant-loop-rest
invariant-loop-rest l = l.all ++ l.rest ≡ l.buffers

abbrev pub decreases-loop-rest : goal.decreases-loop-rest
decreases-loop-rest l = length l.rest
