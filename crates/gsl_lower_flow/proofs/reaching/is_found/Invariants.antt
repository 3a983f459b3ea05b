use Rattle.std.proofs.Common.{◌≡◌, drop}
use Rattle.std.specs.Prelude.{nat_eq}
use Rattle.std.specs.List.{list_any}
use Rattle.gsl_lower_flow.proofs.reaching.is_found.Given as goal

abbrev pub invariant-loop-at : goal.invariant-loop-at
invariant-loop-at l = list_any (nat_eq l.head) (drop l.at l.found.keys) ≡ list_any (nat_eq l.head) l.found.keys
