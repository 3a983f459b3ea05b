use Rattle.std.proofs.Common.{◌≡◌, ◌+◌, length}
use Rattle.gsl_valid.specs.Placed.{placed}
use Rattle.gsl_ids.specs.Pass.{first_failed, kept}
use Rattle.gsl_ids.proofs.pass.first_failed.Given as goal

abbrev pub invariant-loop-place : goal.invariant-loop-place
invariant-loop-place g l =
    (first_failed g.T.Test.passes g.T.Test.behind l.test l.at l.each ≡ first_failed g.T.Test.passes g.T.Test.behind l.fn.test 0 (placed l.fn.of))
    × (kept g.T.Test.passes g.T.Test.behind l.test l.at l.each ≡ kept g.T.Test.passes g.T.Test.behind l.fn.test 0 (placed l.fn.of))
    × (l.at + length l.each ≡ length l.fn.of.instrs)

abbrev pub decreases-loop-place : goal.decreases-loop-place
decreases-loop-place g l = length l.each
