use Rattle.std.proofs.Common.{◌≡◌, ◌++◌, length}
use Rattle.gsl_conditions.specs.Conditions.{unasked}
use Rattle.gsl_conditions.proofs.defined.unasked.Given as goal

abbrev pub invariant-loop-rest : goal.invariant-loop-rest
invariant-loop-rest l = l.list ++ unasked l.table l.rest 0 ≡ unasked l.table l.initial.rest 0

abbrev pub decreases-loop-rest : goal.decreases-loop-rest
decreases-loop-rest l = length l.rest
