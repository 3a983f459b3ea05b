use Rattle.std.proofs.Common.{◌≡◌, drop}
use Rattle.gsl_flow.specs.Arms as spec
use Rattle.gsl_flow.proofs.arms.default_arm.Given as goal

abbrev pub invariant-loop-k : goal.invariant-loop-k
invariant-loop-k l = spec.from_default (drop l.k l.arms) ≡ spec.from_default l.arms
