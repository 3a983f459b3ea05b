use Rattle.std.proofs.Common.{◌≡◌, drop}
use Rattle.gsl_lower_places.specs.Writing as spec
use Rattle.gsl_lower_places.proofs.writing.each_at.Given as goal

abbrev pub invariant-loop-k : goal.invariant-loop-k
invariant-loop-k l = spec.each_from l.id l.class l.parts l.of l.k (drop l.k l.positions) l.b ≡ spec.each_at l.id l.class l.fn.shape l.positions l.parts l.v l.initial.b
