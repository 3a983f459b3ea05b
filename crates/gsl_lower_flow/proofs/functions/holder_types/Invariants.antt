use Rattle.std.proofs.Common.{◌≡◌, ◌++◌, drop}
use Rattle.gsl_lower_flow.specs.Functions as spec
use Rattle.gsl_lower_flow.proofs.functions.holder_types.Given as goal

abbrev pub invariant-loop-k : goal.invariant-loop-k
invariant-loop-k l = l.types ++ spec.holder_types (drop l.k l.asked) ≡ spec.holder_types l.asked
