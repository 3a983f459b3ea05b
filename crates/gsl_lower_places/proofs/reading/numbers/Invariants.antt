use Rattle.std.proofs.Common.{◌≡◌, ◌∷◌, ◌++◌, drop, map}
use Rattle.gsl_lower_places.specs.Reading as spec
use Rattle.gsl_lower_places.proofs.reading.numbers.Given as goal

abbrev pub invariant-loop-k : goal.invariant-loop-k
invariant-loop-k l = l.all ++ map spec.number_in (drop l.k l.parts) ≡ l.id ∷ map spec.number_in l.parts
