use Rattle.std.proofs.Common.{◌≡◌, drop}
use Rattle.gsl_lower_values.specs.Constructors as spec
use Rattle.gsl_lower_values.proofs.constructors.place_among.Given as goal

abbrev pub invariant-loop-k : goal.invariant-loop-k
invariant-loop-k l = spec.place_among l.position (drop l.k l.positions) l.k ≡ spec.place_among l.position l.positions 0
