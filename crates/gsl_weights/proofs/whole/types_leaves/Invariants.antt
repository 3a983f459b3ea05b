use Rattle.std.proofs.Common.{◌≡◌, drop}
use Rattle.gsl_weights.specs.Telling.{in_turn}
use Rattle.gsl_weights.specs.Weighing.{type_leaves}
use Rattle.gsl_weights.proofs.whole.types_leaves.Given as goal

abbrev pub invariant-loop-k : goal.invariant-loop-k
invariant-loop-k l = in_turn (type_leaves l.structs) l.total (drop l.k l.types) ≡ in_turn (type_leaves l.structs) l.fn.so_far l.types
