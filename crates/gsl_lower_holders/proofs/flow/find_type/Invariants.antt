use Rattle.std.proofs.Common.{◌≡◌, drop}
use Rattle.gsl_lower_holders.specs.Flow as spec
use Rattle.gsl_lower_holders.proofs.flow.find_type.Given as goal

abbrev pub invariant-loop-k : goal.invariant-loop-k
invariant-loop-k l = spec.find_type l.ty (drop l.k l.composites) ≡ spec.find_type l.ty l.composites
