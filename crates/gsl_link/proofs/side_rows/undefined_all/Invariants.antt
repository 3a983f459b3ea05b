use Rattle.std.proofs.Common.{◌≡◌, drop, length}
use Rattle.gsl_link.specs.Sides as spec
use Rattle.gsl_link.proofs.side_rows.undefined_all.Given as goal

abbrev pub invariant-loop-k : goal.invariant-loop-k
invariant-loop-k l = (length l.numbers ≡ length l.sides) × (spec.undefined_all l.defined.keys l.places (drop l.k l.numbers) (drop l.k l.sides) ≡ spec.undefined_all l.defined.keys l.initial.places l.numbers l.sides)
