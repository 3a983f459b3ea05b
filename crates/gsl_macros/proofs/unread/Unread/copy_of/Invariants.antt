use Rattle.std.proofs.Common.{◌≡◌, ◌++◌, length}
use Rattle.gsl_macros.proofs.unread.Unread.copy_of.Given as goal

abbrev pub invariant-loop-rest : goal.invariant-loop-rest
invariant-loop-rest l = l.list ++ l.rest ≡ l.fn.raws

abbrev pub decreases-loop-rest : goal.decreases-loop-rest
decreases-loop-rest l = length l.rest
