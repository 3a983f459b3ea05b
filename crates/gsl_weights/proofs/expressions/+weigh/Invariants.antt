use Rattle.std.proofs.Common.{◌≡◌, drop}
use Rattle.gsl_weights.specs.Telling.{in_turn}
use Rattle.gsl_weights.specs.Weighing.{read_weighed}
use Rattle.gsl_weights.proofs.expressions.+weigh.Given as goal

abbrev pub invariant-all_weighed-loop-k : goal.invariant-all_weighed-loop-k
invariant-all_weighed-loop-k l = in_turn (read_weighed l.structs) l.total (drop l.k l.es) ≡ in_turn (read_weighed l.structs) l.fn.so_far l.es
