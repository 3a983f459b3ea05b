use Rattle.std.proofs.Common.{◌≡◌, ◌≤◌, drop}
use Rattle.gsl_link.specs.Sides as spec
use Rattle.gsl_link.proofs.variables.first_beyond.Given as goal

abbrev pub invariant-loop-k : goal.invariant-loop-k
invariant-loop-k l = (l.leaves ≤ 65536) × (spec.first_beyond l.leaves (drop l.k l.counted) ≡ spec.first_beyond 0 l.counted)
