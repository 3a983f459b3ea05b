use Rattle.std.proofs.Common.{◌-◌, ◌≤◌}
use Rattle.gsl_chains.specs.Chains.{Tells, words_in}
use Rattle.gsl_chains.proofs.chains.in_chains.Given as goal

abbrev pub invariant-loop-left : goal.invariant-loop-left
invariant-loop-left l = (l.left ≤ 65) × Tells l.rows.items l.frames (words_in l.fn.row) (65 - l.left)

abbrev pub decreases-loop-left : goal.decreases-loop-left
decreases-loop-left l = l.left
