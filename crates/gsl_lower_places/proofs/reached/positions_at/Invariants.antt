use Rattle.std.proofs.Common.{◌≡◌, ◌++◌, drop, map}
use Rattle.std.specs.Prelude.{slice_index}
use Rattle.gsl_lower_places.proofs.reached.positions_at.Given as goal

abbrev pub invariant-loop-k : goal.invariant-loop-k
invariant-loop-k l = l.all ++ map (slice_index l.before) (drop l.k l.positions) ≡ map (slice_index l.before) l.positions
