use Rattle.std.proofs.Common.{◌≡◌, max, drop}
use Rattle.gsl_link_calls.specs.Depths as spec
use Rattle.gsl_link_calls.proofs.depth.deepest.Given as goal

abbrev pub invariant-loop-k : goal.invariant-loop-k
invariant-loop-k l = max l.depth (spec.deepest l.old (drop l.k l.heads)) ≡ spec.deepest l.old l.heads
