use Rattle.std.proofs.Common.{◌≡◌, ◌++◌, drop}
use Rattle.gsl_lower_values.specs.Constructors as spec
use Rattle.gsl_lower_values.proofs.constructors.shares.Given as goal

abbrev pub invariant-loop-k : goal.invariant-loop-k
invariant-loop-k l = l.all ++ spec.shares l.wanted (drop l.k l.args) ≡ spec.shares l.count l.args
