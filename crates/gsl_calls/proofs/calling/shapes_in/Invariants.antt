use Rattle.std.proofs.Common.{◌≡◌, drop, map, ◌++◌}
use Rattle.gsl_tree.specs.Expressions.{shapes_of}
use Rattle.gsl_makers.proofs.Loops.{shapes_behind}
use Rattle.gsl_calls.proofs.calling.shapes_in.Given as goal

abbrev pub invariant-loop-k : goal.invariant-loop-k
invariant-loop-k l = shapes_behind l.shapes (shapes_of (drop l.k l.fn.args)) ≡ shapes_of l.fn.args
