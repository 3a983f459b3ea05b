use Rattle.std.proofs.Common.{◌≡◌, drop}
use Rattle.gsl_weights.specs.Telling.{in_turn}
use Rattle.gsl_weights.specs.Weighing.{struct_weighed}
use Rattle.gsl_weights.proofs.declarations.structs_weighed.Given as goal

abbrev pub invariant-loop-k : goal.invariant-loop-k
invariant-loop-k l = in_turn struct_weighed l.total (drop l.k l.structs) ≡ in_turn struct_weighed l.fn.so_far l.structs
