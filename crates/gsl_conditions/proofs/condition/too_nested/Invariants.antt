use Rattle.std.proofs.Common.{◌≡◌, length}
use Rattle.gsl_conditions.specs.Conditions.{too_nested}
use Rattle.gsl_conditions.proofs.condition.too_nested.Given as goal

abbrev pub invariant-loop-rest : goal.invariant-loop-rest
invariant-loop-rest l = too_nested l.left l.rest ≡ too_nested l.initial.left l.initial.rest

abbrev pub decreases-loop-rest : goal.decreases-loop-rest
decreases-loop-rest l = length l.rest
