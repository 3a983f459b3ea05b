use Rattle.std.proofs.Common.{◌≡◌, drop}
use Rattle.gsl_types.specs.Known.{AreStructs}
use Rattle.gsl_link.specs.Sides as spec
use Rattle.gsl_link.proofs.variables.counted_behind.Given as goal

abbrev pub invariant-loop-k : goal.invariant-loop-k
invariant-loop-k l =
    AreStructs l.structs
    × (spec.names_behind l.names.keys (drop l.k l.globals) ≡ spec.names_behind l.initial.names.keys l.globals)
    × (spec.counted_behind l.structs l.names.keys l.all (drop l.k l.globals) ≡ spec.counted_behind l.structs l.initial.names.keys l.initial.all l.globals)
