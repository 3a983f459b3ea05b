use Rattle.std.proofs.Common.{◌≡◌, drop}
use Rattle.gsl_link_numbers.specs.Standing as spec
use Rattle.gsl_link_numbers.proofs.spots.note_each.Given as goal

abbrev pub invariant-loop-k : goal.invariant-loop-k
invariant-loop-k l = spec.noted_from l.spots.entries l.unit l.k (drop l.k l.globals) ≡ spec.noted_from l.initial.spots.entries l.unit 0 l.globals
