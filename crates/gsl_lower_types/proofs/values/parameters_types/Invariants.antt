use Rattle.std.proofs.Common.{◌≡◌, drop}
use Rattle.gsl_lower_types.specs.Known.{all}
use Rattle.gsl_lower_types.specs.Values.{parameter_type}
use Rattle.gsl_lower_types.proofs.values.parameters_types.Given as goal

abbrev pub invariant-loop-k : goal.invariant-loop-k
invariant-loop-k l = all parameter_type (drop l.k l.params) l.known l.b ≡ all parameter_type l.params l.initial.known l.initial.b
