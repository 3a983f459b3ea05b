use Rattle.std.proofs.Common.{◌≡◌, map, drop, length}
use Rattle.gsl_tree.specs.Values.{all_pass, same_value}
use Rattle.gsl_compute.proofs.Sizes.{size}
use Rattle.gsl_compute.proofs.equality.+same_value.Given as goal

abbrev pub invariant-loop-k : goal.invariant-loop-k
invariant-loop-k l = (length l.xs ≡ length l.ys) × (all_pass (map same_value (drop l.k l.xs)) (drop l.k l.ys) ≡ all_pass (map same_value l.xs) l.ys)

abbrev pub decreases-same_value : goal.decreases-same_value
decreases-same_value l = size l.a.now
