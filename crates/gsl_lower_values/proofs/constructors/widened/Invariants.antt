use Rattle.std.proofs.Common.{◌≡◌, ◌-◌, ◌++◌, map}
use Rattle.std.specs.List.{range_with_len}
use Rattle.gsl_lower_values.specs.Constructors as spec
use Rattle.gsl_lower_values.proofs.constructors.widened.Given as goal

abbrev pub invariant-loop-position : goal.invariant-loop-position
invariant-loop-position l = l.all ++ map (spec.own_or_first l.few) (range_with_len l.position (l.count - l.position)) ≡ spec.widened l.count l.few
