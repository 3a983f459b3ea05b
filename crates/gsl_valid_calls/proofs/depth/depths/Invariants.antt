use Rattle.std.proofs.Common.{◌≡◌}
use Rattle.gsl_valid_calls.specs.Depths.{deepened}
use Rattle.gsl_valid_calls.proofs.depth.depths.Given as goal

abbrev pub invariant-loop-left : goal.invariant-loop-left
invariant-loop-left l = deepened l.left l.of.instrs l.rows.items ≡ deepened 65 l.of.instrs l.initial.rows.items

abbrev pub decreases-loop-left : goal.decreases-loop-left
decreases-loop-left l = l.left
