use Rattle.std.proofs.Common.{◌≡◌, max, map, drop}
use Rattle.std.specs.Prelude.{slice_index, fold}
use Rattle.gsl_valid_calls.proofs.heights.highest_of.Given as goal

abbrev pub invariant-loop-id : goal.invariant-loop-id
invariant-loop-id l = fold max l.highest (map (slice_index l.heights) (drop l.id-index l.ids)) ≡ fold max 0 (map (slice_index l.heights) l.ids)
