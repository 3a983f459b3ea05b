use Rattle.std.proofs.Common.{◌≡◌, drop, map, take}
use Rattle.gsl_values.specs.Operators.{unary_word}
use Rattle.gsl_region.specs.Showing.{with_words}
use Rattle.gsl_lanes.proofs.lanes.unary_lanes.Given as goal

abbrev pub invariant-loop-k : goal.invariant-loop-k
invariant-loop-k l = l.slots ≡ with_words l.initial.slots l.at (map (unary_word l.op) (take l.k (take l.count (drop l.a l.initial.slots))))
