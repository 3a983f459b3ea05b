use Rattle.std.proofs.Common.{◌≡◌, drop}
use Rattle.gsl_weights.specs.Telling.{in_turn}
use Rattle.gsl_weights.specs.Weighing.{param_leaves}
use Rattle.gsl_weights.proofs.whole.params_leaves.Given as goal

abbrev pub invariant-loop-k : goal.invariant-loop-k
invariant-loop-k l = in_turn (param_leaves l.structs) l.total (drop l.k l.params) ≡ in_turn (param_leaves l.structs) l.fn.so_far l.params
