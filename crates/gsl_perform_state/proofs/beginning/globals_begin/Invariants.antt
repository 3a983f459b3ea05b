use Rattle.std.proofs.Common.{◌≡◌, ◌++◌, drop, map}
use Rattle.gsl_perform_state.specs.Beginning as words
use Rattle.gsl_perform_state.proofs.beginning.globals_begin.Given as goal

abbrev pub invariant-loop-k : goal.invariant-loop-k
invariant-loop-k l = l.all ++ map (words.global_begun l.shapes) (drop l.k l.globals) ≡ map (words.global_begun l.shapes) l.globals
