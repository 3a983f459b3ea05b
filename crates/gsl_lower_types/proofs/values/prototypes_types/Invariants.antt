use Rattle.std.proofs.Common.{◌≡◌, drop}
use Rattle.gsl_lower_types.specs.Known.{all}
use Rattle.gsl_lower_types.specs.Values.{prototype_types}
use Rattle.gsl_lower_types.proofs.values.prototypes_types.Given as goal

abbrev pub invariant-loop-k : goal.invariant-loop-k
invariant-loop-k l = all prototype_types (drop l.k l.prototypes) l.known l.b ≡ all prototype_types l.prototypes l.initial.known l.initial.b
