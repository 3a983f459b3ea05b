use Rattle.std.proofs.Common.{◌≡◌, drop}
use Rattle.gsl_weights.specs.Telling.{in_turn}
use Rattle.gsl_weights.specs.Weighing.{prototype_weighed}
use Rattle.gsl_weights.proofs.declarations.prototypes_weighed.Given as goal

abbrev pub invariant-loop-k : goal.invariant-loop-k
invariant-loop-k l = in_turn prototype_weighed l.total (drop l.k l.prototypes) ≡ in_turn prototype_weighed l.fn.so_far l.prototypes
