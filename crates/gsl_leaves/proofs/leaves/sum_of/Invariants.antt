use Rattle.std.proofs.Common.{◌≡◌, get_or, take}
use Rattle.std.specs.List.{sum_by}
use Rattle.gsl_leaves.specs.Table.{told}
use Rattle.gsl_leaves.proofs.leaves.sum_of.Given as goal

abbrev pub invariant-loop-k : goal.invariant-loop-k
invariant-loop-k l = l.all ≡ told (sum_by (λ id. get_or l.rows.items id 0) (take l.k l.types))
