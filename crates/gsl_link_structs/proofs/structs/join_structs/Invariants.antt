use Rattle.std.proofs.Common.{◌≡◌, drop, []}
use Rattle.gsl_link_units.specs.Structs as spec
use Rattle.gsl_link_structs.proofs.structs.join_structs.Given as goal

abbrev pub invariant-loop-k : goal.invariant-loop-k
invariant-loop-k l = spec.with_structs l.joined l.numbers (drop l.k l.fn.structs) ≡ spec.with_structs l.fn.joined [] l.fn.structs
