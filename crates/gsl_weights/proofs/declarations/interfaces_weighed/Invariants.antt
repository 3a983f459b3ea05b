use Rattle.std.proofs.Common.{◌≡◌, drop}
use Rattle.gsl_weights.specs.Telling.{in_turn}
use Rattle.gsl_weights.specs.Weighing.{interface_weighed}
use Rattle.gsl_weights.proofs.declarations.interfaces_weighed.Given as goal

abbrev pub invariant-loop-k : goal.invariant-loop-k
invariant-loop-k l = in_turn interface_weighed l.total (drop l.k l.interfaces) ≡ in_turn interface_weighed l.fn.so_far l.interfaces
