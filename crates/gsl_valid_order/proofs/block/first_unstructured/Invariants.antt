use Rattle.std.proofs.Common.{◌≡◌, ◌+◌, length}
use Rattle.gsl_ids.specs.Pass.{first_failed}
use Rattle.gsl_valid_order.specs.Nested.{passes, behind}
use Rattle.gsl_valid_order.proofs.block.first_unstructured.Given as goal

abbrev pub invariant-loop-place : goal.invariant-loop-place
invariant-loop-place l =
    (first_failed passes behind l.of l.at l.each ≡ first_failed passes behind l.of 0 l.fn.each) × (l.at + length l.each ≡ length l.of.instrs)

abbrev pub decreases-loop-place : goal.decreases-loop-place
decreases-loop-place l = length l.each
