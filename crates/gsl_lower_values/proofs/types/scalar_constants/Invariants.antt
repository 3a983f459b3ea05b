use Rattle.std.proofs.Common.{◌≡◌, drop}
use Rattle.gsl_lower_values.specs.Building.{in_order, with_front}
use Rattle.gsl_lower_values.specs.Types as spec
use Rattle.gsl_lower_values.proofs.types.scalar_constants.Given as goal

abbrev pub invariant-loop-k : goal.invariant-loop-k
invariant-loop-k l = with_front l.parts (in_order (spec.scalar_constant l.s) (drop l.k l.words) l.b) ≡ in_order (spec.scalar_constant l.s) l.words l.initial.b
