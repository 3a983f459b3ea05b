use Rattle.std.proofs.Common.{◌≡◌, drop, ◌++◌}
use Rattle.gsl_shapes.proofs.shapes.+copy.Given as goal

abbrev pub invariant-copy_all-loop-k : goal.invariant-copy_all-loop-k
invariant-copy_all-loop-k l = l.all ++ drop l.k l.shapes ≡ l.shapes
