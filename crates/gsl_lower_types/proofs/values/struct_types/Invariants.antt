use Rattle.std.proofs.Common.{◌≡◌, drop}
use Rattle.gsl_lower_types.specs.Values.{struct_types}
use Rattle.gsl_lower_types.proofs.values.struct_types.Given as goal

abbrev pub invariant-loop-k : goal.invariant-loop-k
invariant-loop-k l = struct_types l.k (drop l.k l.structs) l.known l.b ≡ struct_types 0 l.structs l.initial.known l.initial.b
