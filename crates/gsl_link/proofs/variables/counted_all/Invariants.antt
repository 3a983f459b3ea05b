use Rattle.std.proofs.Common.{◌≡◌, drop}
use Rattle.gsl_types.specs.Known.{AreStructs}
use Rattle.gsl_link.specs.Sides as spec
use Rattle.gsl_link.proofs.variables.counted_all.Given as goal

abbrev pub invariant-loop-k : goal.invariant-loop-k
invariant-loop-k l =
    AreStructs l.structs × (spec.counted_all l.structs l.names.keys l.all (drop l.k l.sides) ≡ spec.counted_all l.structs l.initial.names.keys l.initial.all l.sides)
