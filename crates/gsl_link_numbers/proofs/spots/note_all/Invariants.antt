use Rattle.std.proofs.Common.{◌≡◌, drop}
use Rattle.gsl_link_numbers.specs.Standing as spec
use Rattle.gsl_link_numbers.proofs.spots.note_all.Given as goal

abbrev pub invariant-loop-k : goal.invariant-loop-k
invariant-loop-k l = spec.noted_all l.spots.entries l.k (drop l.k l.sides) ≡ spec.noted_all l.initial.spots.entries 0 l.sides
