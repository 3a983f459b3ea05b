use Rattle.std.proofs.Common.{◌≡◌, drop}
use Rattle.indexmap.specs.IndexSet.{insert_all}
use Rattle.gsl_link_numbers.specs.Standing as spec
use Rattle.gsl_link_numbers.proofs.spots.put_all_standing.Given as goal

abbrev pub invariant-loop-k : goal.invariant-loop-k
invariant-loop-k l = insert_all spec.site_eq l.sites.keys (spec.standing_all l.spots.entries l.k (drop l.k l.sides)) ≡ insert_all spec.site_eq l.initial.sites.keys (spec.standing_all l.spots.entries 0 l.sides)
