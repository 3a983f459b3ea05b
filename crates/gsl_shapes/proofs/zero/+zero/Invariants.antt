use Rattle.std.proofs.Common.{◌≡◌, drop, ◌++◌, map}
use Rattle.gsl_shapes.specs.Shaping.{zero_of}
use Rattle.gsl_shapes.proofs.zero.+zero.Given as goal

abbrev pub invariant-zeros-loop-k : goal.invariant-zeros-loop-k
invariant-zeros-loop-k l = l.all ++ map zero_of (drop l.k l.shapes) ≡ map zero_of l.shapes
