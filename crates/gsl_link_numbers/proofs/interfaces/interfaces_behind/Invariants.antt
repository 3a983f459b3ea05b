use Rattle.std.proofs.Common.{◌≡◌, drop}
use Rattle.gsl_link_numbers.specs.Joining as spec
use Rattle.gsl_link_numbers.proofs.interfaces.interfaces_behind.Given as goal

abbrev pub invariant-loop-k : goal.invariant-loop-k
invariant-loop-k l = (l.names.keys ≡ spec.interface_names l.all) × (spec.interfaces_behind l.all (drop l.k l.sides) ≡ spec.interfaces_behind l.initial.all l.sides)
