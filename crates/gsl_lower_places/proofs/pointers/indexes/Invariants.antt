use Rattle.std.proofs.Common.{◌≡◌, drop}
use Rattle.gsl_lower_values.specs.Building.{in_order, with_front}
use Rattle.gsl_lower_places.specs.Reading as spec
use Rattle.gsl_lower_places.proofs.pointers.indexes.Given as goal

abbrev pub invariant-loop-k : goal.invariant-loop-k
invariant-loop-k l = with_front l.ids (in_order spec.index (drop l.k l.parts) l.b) ≡ in_order spec.index l.parts l.initial.b
