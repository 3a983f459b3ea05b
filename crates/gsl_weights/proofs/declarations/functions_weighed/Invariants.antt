use Rattle.std.proofs.Common.{◌≡◌, drop}
use Rattle.gsl_weights.specs.Telling.{in_turn}
use Rattle.gsl_weights.specs.Weighing.{function_weighed}
use Rattle.gsl_weights.proofs.declarations.functions_weighed.Given as goal

abbrev pub invariant-loop-k : goal.invariant-loop-k
invariant-loop-k l = in_turn (function_weighed l.structs) l.total (drop l.k l.functions) ≡ in_turn (function_weighed l.structs) l.fn.so_far l.functions
