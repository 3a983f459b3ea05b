use Rattle.std.proofs.Common.{◌≡◌, drop}
use Rattle.gsl_link.specs.Sides as spec
use Rattle.gsl_link.proofs.side_rows.undefined_behind.Given as goal

abbrev pub invariant-loop-k : goal.invariant-loop-k
invariant-loop-k l = spec.undefined_behind l.defined.keys l.heads l.places (drop l.k l.calls) ≡ spec.undefined_behind l.defined.keys l.heads l.initial.places l.calls
