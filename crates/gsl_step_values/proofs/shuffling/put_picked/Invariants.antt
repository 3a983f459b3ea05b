use Rattle.std.proofs.Common.{◌≡◌, ◌+◌, ◌≤◌, length, map, take}
use Rattle.std.specs.Prelude.{slice_index}
use Rattle.gsl_leaves.specs.Table.{most}
use Rattle.gsl_region.specs.Showing.{with_words}
use Rattle.gsl_step_values.proofs.Picked.{Rows}
use Rattle.gsl_step_values.proofs.shuffling.put_picked.Given as goal

abbrev pub invariant-loop-k : goal.invariant-loop-k
invariant-loop-k l =
    l.fn.first.place + l.fn.first.count ≤ l.fn.at → l.fn.second.place + l.fn.second.count ≤ l.fn.at → l.fn.at + length l.positions ≤ length l.initial.slots → length l.initial.slots ≤ most
    → l.slots ≡ with_words l.initial.slots l.fn.at (map (slice_index (Rows l.initial.slots l.fn.first.place l.fn.first.count l.fn.second.place l.fn.second.count)) (take l.k l.positions))
