use Rattle.std.proofs.Common.{◌≡◌, ◌++◌, drop, map}
use Rattle.gsl_lower_leaves.specs.Leaves.{within as part}
use Rattle.gsl_lower_leaves.proofs.leaves.put_within.Given as goal

abbrev pub invariant-loop-k : goal.invariant-loop-k
invariant-loop-k l = l.all ++ map (part l.number) (drop l.k l.leaves) ≡ l.initial.all ++ map (part l.number) l.leaves
