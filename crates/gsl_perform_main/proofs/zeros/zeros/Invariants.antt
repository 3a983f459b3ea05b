use Rattle.std.proofs.Common.{◌≡◌, ◌++◌, drop, map}
use Rattle.gsl_tree.specs.Values.{zero_value}
use Rattle.gsl_perform_main.proofs.zeros.zeros.Given as goal

abbrev pub invariant-loop-k : goal.invariant-loop-k
invariant-loop-k l = l.all ++ map (zero_value l.frame.program.structs) (drop l.k l.types) ≡ map (zero_value l.frame.program.structs) l.types
