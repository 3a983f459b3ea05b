use Rattle.std.proofs.Common.{◌≡◌, drop}
use Rattle.gsl_weights.specs.Telling.{in_turn}
use Rattle.gsl_weights.specs.Weighing.{param_weighed}
use Rattle.gsl_weights.proofs.declarations.params_weighed.Given as goal

abbrev pub invariant-loop-k : goal.invariant-loop-k
invariant-loop-k l = in_turn param_weighed l.total (drop l.k l.params) ≡ in_turn param_weighed l.fn.so_far l.params
