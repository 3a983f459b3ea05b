use Rattle.std.proofs.Common.{◌≡◌, drop}
use Rattle.gsl_weights.specs.Telling.{in_turn}
use Rattle.gsl_weights.specs.Weighing.{global_weighed}
use Rattle.gsl_weights.proofs.declarations.globals_weighed.Given as goal

abbrev pub invariant-loop-k : goal.invariant-loop-k
invariant-loop-k l = in_turn (global_weighed l.structs) l.total (drop l.k l.globals) ≡ in_turn (global_weighed l.structs) l.fn.so_far l.globals
