use Rattle.std.proofs.Common.{◌≡◌, ◌-◌, ◌≤◌, map}
use Rattle.std.specs.List.{range_with_len}
use Rattle.std.specs.Prelude.{slice_index}
use Rattle.gsl_frames.specs.Frames.{plus_told}
use Rattle.gsl_chains.specs.Chains.{body_of, calls_of, greatest}
use Rattle.gsl_chains.proofs.chains.longer.Given as goal

abbrev pub invariant-loop-id : goal.invariant-loop-id
invariant-loop-id l =
    (l.bound ≡ l.frames.bound) × (l.id ≤ l.bound)
    × (l.next.items ≡ map (λ id. plus_told (slice_index l.own id) (greatest (slice_index l.rows) (calls_of (body_of l.frames id)))) (range_with_len 0 l.id))

abbrev pub decreases-loop-id : goal.decreases-loop-id
decreases-loop-id l = l.bound - l.id
