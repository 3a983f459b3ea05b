use Rattle.std.proofs.Common.{◌≡◌, ◌++◌, drop, map}
use Rattle.gsl_lower_leaves.specs.Shaped as shaped
use Rattle.gsl_lower_leaves.proofs.leaves.+leaves.Given as goal

abbrev pub invariant-members_leaves-loop-k : goal.invariant-members_leaves-loop-k
invariant-members_leaves-loop-k l = l.all ++ shaped.members_from l.k (map shaped.leaves_by (drop l.k l.members)) ≡ shaped.members_from 0 (map shaped.leaves_by l.members)
