use Rattle.std.proofs.Common.{◌≡◌, ◌-◌, ◌≤◌, length}
use Rattle.std.specs.Prelude.{vec_len}
use Rattle.gsl_kinds.specs.Runtimes.{front}
use Rattle.gsl_frames.specs.Frames.{Tells, taken_in, told_taken}
use Rattle.gsl_frames.proofs.frames.rows_of.Given as goal

abbrev pub invariant-loop-at : goal.invariant-loop-at
invariant-loop-at l = (vec_len l.rows ≡ l.leaves.bound) × (l.at ≤ length l.leaves.instrs) × Tells l.rows.items l.leaves (front l.leaves l.at) × (l.taken ≡ told_taken (taken_in l.leaves (front l.leaves l.at)))

abbrev pub decreases-loop-at : goal.decreases-loop-at
decreases-loop-at l = length l.leaves.instrs - l.at
