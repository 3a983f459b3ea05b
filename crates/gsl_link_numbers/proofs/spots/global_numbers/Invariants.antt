use Rattle.std.proofs.Common.{◌≡◌, [], drop}
use Rattle.gsl_link_numbers.specs.Standing as spec
use Rattle.gsl_link_numbers.proofs.spots.global_numbers.Given as goal

abbrev pub invariant-loop-k : goal.invariant-loop-k
invariant-loop-k l = spec.places_behind l.all l.spots.entries l.sites.keys l.unit l.k (drop l.k l.globals) ≡ spec.places_behind [] l.spots.entries l.sites.keys l.unit 0 l.globals
