use Rattle.std.proofs.Common.{◌≡◌, ◌+◌, length}
use Rattle.gsl_ids.specs.Pass.{first_failed}
use Rattle.gsl_valid_calls.specs.Limits.{passes, behind, at_first}
use Rattle.gsl_valid_calls.proofs.limit.first_beyond.Given as goal

abbrev pub invariant-loop-place : goal.invariant-loop-place
invariant-loop-place l =
    (first_failed passes behind (record { of = l.of; heights = l.heights.items }) l.at l.each ≡ first_failed passes behind (at_first l.of) 0 l.fn.each)
    × (l.at + length l.each ≡ length l.of.instrs)

abbrev pub decreases-loop-place : goal.decreases-loop-place
decreases-loop-place l = length l.each
