use Rattle.std.proofs.Common.{◌≡◌, ◌-◌, ◌≤◌, map}
use Rattle.std.specs.List.{range_with_len}
use Rattle.gsl_frames.specs.Frames.{frame}
use Rattle.gsl_leaves.specs.Table.{told}
use Rattle.gsl_chains.specs.Chains.{body_of, words_in}
use Rattle.gsl_chains.proofs.chains.own_rows.Given as goal

abbrev pub invariant-loop-id : goal.invariant-loop-id
invariant-loop-id l =
    (l.bound ≡ l.frames.bound) × (l.id ≤ l.bound) × (l.rows.items ≡ map (λ id. told (words_in l.row (frame l.frames (body_of l.frames id)))) (range_with_len 0 l.id))

abbrev pub decreases-loop-id : goal.decreases-loop-id
decreases-loop-id l = l.bound - l.id
