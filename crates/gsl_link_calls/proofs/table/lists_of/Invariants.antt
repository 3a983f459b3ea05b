use Rattle.std.proofs.Common.{◌≡◌, ◌++◌, map, drop}
use Rattle.gsl_tree.specs.Weights.{calls_of}
use Rattle.gsl_link_calls.specs.Table as spec
use Rattle.gsl_link_calls.proofs.table.lists_of.Given as goal

abbrev pub invariant-loop-k : goal.invariant-loop-k
invariant-loop-k l = l.lists ++ map calls_of (drop l.k l.functions) ≡ spec.lists_of l.functions
