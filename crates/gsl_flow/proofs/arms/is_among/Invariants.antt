use Rattle.std.proofs.Common.{◌≡◌, drop}
use Rattle.gsl_flow.specs.Arms as spec
use Rattle.gsl_flow.proofs.arms.is_among.Given as goal

abbrev pub invariant-loop-k : goal.invariant-loop-k
invariant-loop-k l = spec.is_among l.word (drop l.k l.labels) ≡ spec.is_among l.word l.labels
