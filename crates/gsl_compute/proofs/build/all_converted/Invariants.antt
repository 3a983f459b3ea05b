use Rattle.std.proofs.Common.{◌≡◌, map, drop, ◌++◌}
use Rattle.gsl_tree.specs.Operations.{converted}
use Rattle.gsl_compute.proofs.build.all_converted.Given as goal

abbrev pub invariant-loop-k : goal.invariant-loop-k
invariant-loop-k l = l.given ++ map (converted l.scalar) (drop l.k l.words) ≡ map (converted l.scalar) l.words
