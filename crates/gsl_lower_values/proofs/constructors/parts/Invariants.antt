use Rattle.std.proofs.Common.{◌≡◌, drop}
use Rattle.gsl_lower_values.specs.Building.{in_order, with_front}
use Rattle.gsl_lower_values.specs.Constructors as spec
use Rattle.gsl_lower_values.proofs.constructors.parts.Given as goal

abbrev pub invariant-loop-k : goal.invariant-loop-k
invariant-loop-k l = with_front l.ids (in_order (spec.share l.s) (drop l.k l.all) l.b) ≡ in_order (spec.share l.s) l.all l.initial.b
