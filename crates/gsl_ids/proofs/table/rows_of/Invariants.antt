use Rattle.std.proofs.Common.{◌≡◌, ◌≤◌, length, drop}
use Rattle.std.specs.Prelude.{vec_len}
use Rattle.gsl_ids.specs.Table.{Tells}
use Rattle.gsl_ids.proofs.table.rows_of.Given as goal

abbrev pub invariant-loop-at : goal.invariant-loop-at
invariant-loop-at l = (vec_len l.rows ≡ l.of.bound) × (l.at ≤ length l.of.instrs) × Tells l.rows.items l.at (drop l.at l.of.instrs)

abbrev pub decreases-loop-at : goal.decreases-loop-at
decreases-loop-at l = l.at
