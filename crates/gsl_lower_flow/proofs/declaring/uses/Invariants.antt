use Rattle.std.proofs.Common.{◌≡◌, drop}
use Rattle.gsl_lower_flow.specs.Programs as spec
use Rattle.gsl_lower_flow.proofs.declaring.uses.Given as goal

abbrev pub invariant-loop-k : goal.invariant-loop-k
invariant-loop-k l = spec.uses (drop l.k l.asked) l.var ≡ spec.uses l.asked l.var
