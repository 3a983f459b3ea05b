use Rattle.std.proofs.Common.{◌≡◌, [], length}
use Rattle.gsl_ids.specs.Once.{once_from}
use Rattle.gsl_ids.proofs.once.first_again.Given as goal

abbrev pub invariant-loop-place : goal.invariant-loop-place
invariant-loop-place l = once_from l.fn.bound l.ids.keys l.each ≡ once_from l.fn.bound [] l.fn.each

abbrev pub decreases-loop-place : goal.decreases-loop-place
decreases-loop-place l = length l.each
