use Rattle.std.proofs.Common.{◌≡◌, take}
use Rattle.gsl_link_numbers.specs.Joining as spec
use Rattle.gsl_link_numbers.proofs.heads.head_numbers.Given as goal

abbrev pub invariant-loop-k : goal.invariant-loop-k
invariant-loop-k l = l.all ≡ spec.head_places l.keys.keys (take l.k l.heads)
