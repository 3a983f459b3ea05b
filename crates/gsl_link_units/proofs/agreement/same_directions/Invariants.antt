use Rattle.std.proofs.Common.{◌≡◌, drop, length}
use Rattle.gsl_link_units.specs.Agreement as spec
use Rattle.gsl_link_units.proofs.agreement.same_directions.Given as goal

abbrev pub invariant-loop-k : goal.invariant-loop-k
invariant-loop-k l = (length l.fn.a ≡ length l.fn.b) × (spec.same_directions (drop l.k l.fn.a) (drop l.k l.fn.b) ≡ spec.same_directions l.fn.a l.fn.b)
