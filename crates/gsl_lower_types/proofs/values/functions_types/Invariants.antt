use Rattle.std.proofs.Common.{◌≡◌, drop}
use Rattle.gsl_lower_types.specs.Known.{all}
use Rattle.gsl_lower_types.specs.Values.{function_types}
use Rattle.gsl_lower_types.proofs.values.functions_types.Given as goal

abbrev pub invariant-loop-k : goal.invariant-loop-k
invariant-loop-k l = all function_types (drop l.k l.functions) l.known l.b ≡ all function_types l.functions l.initial.known l.initial.b
