use Rattle.std.proofs.Common.{◌≡◌, ◌-◌, ◌++◌}
use Rattle.std.specs.List.{flat_map, range_with_len}
use Rattle.gsl_lower_leaves.specs.Leaves.{element_leaves}
use Rattle.gsl_lower_leaves.specs.Shaped as shaped
use Rattle.gsl_lower_leaves.proofs.leaves.elements.Given as goal

abbrev pub invariant-loop-k : goal.invariant-loop-k
invariant-loop-k l = l.all ++ flat_map (element_leaves l.element) (range_with_len l.k (l.count - l.k)) ≡ shaped.elements l.count l.element
