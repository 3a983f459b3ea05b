use Rattle.std.proofs.Common.{◌≡◌, drop}
use Rattle.gsl_lower_types.specs.Known.{all}
use Rattle.gsl_lower_types.specs.Values.{local_type}
use Rattle.gsl_lower_types.proofs.values.locals_types.Given as goal

abbrev pub invariant-loop-k : goal.invariant-loop-k
invariant-loop-k l = all local_type (drop l.k l.locals) l.known l.b ≡ all local_type l.locals l.initial.known l.initial.b
