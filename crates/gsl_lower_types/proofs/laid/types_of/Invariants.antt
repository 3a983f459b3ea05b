use Rattle.std.proofs.Common.{◌≡◌, ◌++◌, drop}
use Rattle.gsl_lower_types.specs.Laid as spec
use Rattle.gsl_lower_types.proofs.laid.types_of.Given as goal

abbrev pub invariant-loop-k : goal.invariant-loop-k
invariant-loop-k l = l.all ++ spec.types_of (drop l.k l.members) ≡ spec.types_of l.members
