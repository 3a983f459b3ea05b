use Rattle.std.proofs.Common.{◌≡◌, drop, map}
use Rattle.gsl_lower_types.specs.Globals as spec
use Rattle.gsl_lower_types.specs.Known.{with_front}
use Rattle.gsl_lower_types.proofs.globals.+constant.Given as goal

abbrev pub invariant-parts_put-loop-k : goal.invariant-parts_put-loop-k
invariant-parts_put-loop-k l =
    with_front l.ids (spec.parts_put l.structs l.ty l.k (map (spec.constant_of l.structs) (drop l.k l.parts)) l.known l.b)
    ≡ spec.parts_put l.structs l.ty 0 (map (spec.constant_of l.structs) l.parts) l.initial.known l.initial.b
