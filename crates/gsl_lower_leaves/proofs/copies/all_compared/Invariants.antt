use Rattle.std.proofs.Common.{◌≡◌, drop}
use Rattle.gsl_lower_leaves.specs.Copies as spec
use Rattle.gsl_lower_leaves.proofs.copies.all_compared.Given as goal

abbrev pub invariant-loop-k : goal.invariant-loop-k
invariant-loop-k l = spec.all_compared l.which l.left l.right l.so_far (drop l.k l.leaves) l.b ≡ spec.all_compared l.which l.left l.right l.first (drop 1 l.leaves) l.initial.b
