use Rattle.std.proofs.Common.{◌≡◌, ◌+◌, ◌≤◌, min, drop}
use Rattle.gsl_types.specs.Leaves.{counting, leaves_together, most_leaves}
use Rattle.gsl_types.specs.Structs.{members_meaning}
use Rattle.gsl_types.proofs.declare.leaves_of_all.Given as goal

abbrev pub invariant-loop-k : goal.invariant-loop-k
invariant-loop-k l = (l.total ≤ most_leaves)
    × (min (l.total + leaves_together (members_meaning counting l.structs (drop l.k l.members))) most_leaves
    ≡ min (leaves_together (members_meaning counting l.structs l.members)) most_leaves)
