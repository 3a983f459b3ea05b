use Rattle.std.proofs.Common.{◌≡◌, map, drop, ◌++◌}
use Rattle.std.specs.Prelude.{slice_index}
use Rattle.gsl_compute.proofs.parts.picks.Given as goal

abbrev pub invariant-loop-position : goal.invariant-loop-position
invariant-loop-position l = l.given ++ map (slice_index l.words) (drop l.position-index l.positions) ≡ map (slice_index l.words) l.positions
