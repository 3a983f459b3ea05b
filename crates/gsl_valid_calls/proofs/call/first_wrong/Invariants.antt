use Rattle.std.proofs.Common.{◌≡◌, ◌+◌, None, length}
use Rattle.gsl_ids.specs.Pass.{first_failed}
use Rattle.gsl_valid_calls.specs.Calls.{passes, behind}
use Rattle.gsl_valid_calls.proofs.call.first_wrong.Given as goal

abbrev pub invariant-loop-place : goal.invariant-loop-place
invariant-loop-place l =
    (first_failed passes behind (record { of = l.graph; caller = l.caller; body = l.body }) l.at l.each
    ≡ first_failed passes behind (record { of = l.graph; caller = None; body = 0 }) 0 l.fn.each)
    × (l.at + length l.each ≡ length l.graph.instrs)

abbrev pub decreases-loop-place : goal.decreases-loop-place
decreases-loop-place l = length l.each
