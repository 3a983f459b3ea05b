use Rattle.std.proofs.Common.{◌≡◌, drop, ◌++◌, length}
use Rattle.gsl_tree.specs.Expressions.{supplies}
use Rattle.gsl_makers.proofs.supplies.supplies.Given as goal

abbrev pub invariant-loop-k : goal.invariant-loop-k
invariant-loop-k l = supplies l.left (drop l.k l.fn.shapes) ≡ supplies l.fn.wanted l.fn.shapes
