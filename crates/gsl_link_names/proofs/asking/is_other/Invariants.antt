use Rattle.std.proofs.Common.{◌≡◌, drop}
use Rattle.gsl_link_names.specs.Against as spec
use Rattle.gsl_link_names.proofs.asking.is_other.Given as goal

abbrev pub invariant-loop-k : goal.invariant-loop-k
invariant-loop-k l = spec.is_other l.x (drop l.k l.row) ≡ spec.is_other l.x l.row
