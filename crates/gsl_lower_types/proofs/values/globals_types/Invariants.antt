use Rattle.std.proofs.Common.{◌≡◌, drop}
use Rattle.gsl_lower_types.specs.Known.{all}
use Rattle.gsl_lower_types.specs.Values.{global_type}
use Rattle.gsl_lower_types.proofs.values.globals_types.Given as goal

abbrev pub invariant-loop-k : goal.invariant-loop-k
invariant-loop-k l = all global_type (drop l.k l.globals) l.known l.b ≡ all global_type l.globals l.initial.known l.initial.b
