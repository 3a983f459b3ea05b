use Rattle.std.proofs.Common.{◌≡◌, drop}
use Rattle.gsl_link_numbers.specs.Joining as spec
use Rattle.gsl_link_numbers.proofs.heads.heads_behind.Given as goal

abbrev pub invariant-loop-k : goal.invariant-loop-k
invariant-loop-k l = (l.keys.keys ≡ spec.head_keys l.all) × (spec.heads_behind l.all (drop l.k l.sides) ≡ spec.heads_behind l.initial.all l.sides)
