use Rattle.std.proofs.Common.{◌≡◌, length}
use Rattle.gsl_conditions.specs.Conditions.{counted}
use Rattle.gsl_conditions.proofs.condition.count.Given as goal

abbrev pub invariant-loop-rest : goal.invariant-loop-rest
invariant-loop-rest l = counted l.rest l.left ≡ counted l.initial.rest l.initial.left

abbrev pub decreases-loop-rest : goal.decreases-loop-rest
decreases-loop-rest l = length l.rest
