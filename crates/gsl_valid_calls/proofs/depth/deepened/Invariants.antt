use Rattle.std.proofs.Common.{◌≡◌, ◌≤◌, length, drop}
use Rattle.gsl_valid_calls.specs.Depths.{swept}
use Rattle.gsl_valid_calls.proofs.depth.deepened.Given as goal

abbrev pub invariant-loop-at : goal.invariant-loop-at
invariant-loop-at l =
    ((swept l.old (drop l.at l.of.instrs)).rows ≡ l.rows.items) × ((swept l.old (drop l.at l.of.instrs)).depth ≡ l.depth) × (l.at ≤ length l.of.instrs)

abbrev pub decreases-loop-at : goal.decreases-loop-at
decreases-loop-at l = l.at
