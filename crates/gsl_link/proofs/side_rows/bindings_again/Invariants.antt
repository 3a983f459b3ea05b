use Rattle.std.proofs.Common.{◌≡◌, drop}
use Rattle.gsl_link.specs.Sides as spec
use Rattle.gsl_link.proofs.side_rows.bindings_again.Given as goal

abbrev pub invariant-loop-k : goal.invariant-loop-k
invariant-loop-k l = spec.bindings_again l.slots.keys l.places (drop l.k l.blocks) ≡ spec.bindings_again l.initial.slots.keys l.initial.places l.blocks
