use Rattle.std.proofs.Common.{◌≡◌, drop}
use Rattle.indexmap.specs.IndexSet.{insert_all}
use Rattle.gsl_link_numbers.specs.Standing as spec
use Rattle.gsl_link_numbers.proofs.spots.put_standing.Given as goal

abbrev pub invariant-loop-k : goal.invariant-loop-k
invariant-loop-k l = insert_all spec.site_eq l.sites.keys (spec.standing_from l.spots.entries l.unit l.k (drop l.k l.globals)) ≡ insert_all spec.site_eq l.initial.sites.keys (spec.standing_from l.spots.entries l.unit 0 l.globals)
