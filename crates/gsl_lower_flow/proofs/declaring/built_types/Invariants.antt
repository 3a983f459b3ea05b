use Rattle.std.proofs.Common.{◌≡◌, drop}
use Rattle.gsl_lower_types.specs.Known.{all}
use Rattle.gsl_lower_flow.specs.Programs.{built_type}
use Rattle.gsl_lower_flow.proofs.declaring.built_types.Given as goal

abbrev pub invariant-loop-k : goal.invariant-loop-k
invariant-loop-k l = all built_type (drop l.k l.asked) l.known l.b ≡ all built_type l.asked l.initial.known l.initial.b
