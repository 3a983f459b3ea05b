use Rattle.std.proofs.Common.{◌≡◌, ◌∷◌, ◌++◌, drop}
use Rattle.gsl_lower_expr.specs.Calls as spec
use Rattle.gsl_lower_expr.proofs.calls.pointers.Given as goal

abbrev pub invariant-loop-k : goal.invariant-loop-k
invariant-loop-k l = l.ids ++ spec.pointers (drop l.k l.passed) ≡ l.function ∷ spec.pointers l.passed
