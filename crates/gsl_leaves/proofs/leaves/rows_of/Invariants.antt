use Rattle.std.proofs.Common.{◌≡◌, ◌-◌, ◌≤◌, length}
use Rattle.std.specs.Prelude.{vec_len}
use Rattle.gsl_kinds.specs.Runtimes.{front}
use Rattle.gsl_leaves.specs.Table.{Tells}
use Rattle.gsl_leaves.proofs.leaves.rows_of.Given as goal

abbrev pub invariant-loop-at : goal.invariant-loop-at
invariant-loop-at l = (vec_len l.rows ≡ l.definitions.bound) × (l.at ≤ length l.definitions.instrs) × Tells l.rows.items l.definitions (front l.definitions l.at)

abbrev pub decreases-loop-at : goal.decreases-loop-at
decreases-loop-at l = length l.definitions.instrs - l.at
