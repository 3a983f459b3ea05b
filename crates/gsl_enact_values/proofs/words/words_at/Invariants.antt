use Rattle.std.proofs.Common.{◌≡◌, map, drop, ◌++◌}
use Rattle.std.specs.Prelude.{slice_index}
use Rattle.gsl_enact_values.proofs.words.words_at.Given as goal

abbrev pub invariant-loop-k : goal.invariant-loop-k
invariant-loop-k l = l.chosen ++ map (slice_index l.words) (drop l.k l.positions) ≡ map (slice_index l.words) l.positions
