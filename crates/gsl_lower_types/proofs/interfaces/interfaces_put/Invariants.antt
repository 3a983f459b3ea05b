use Rattle.std.proofs.Common.{◌≡◌, drop}
use Rattle.gsl_lower_types.specs.Interfaces.{interface_put}
use Rattle.gsl_lower_types.specs.Known.{each, with_front}
use Rattle.gsl_lower_types.proofs.interfaces.interfaces_put.Given as goal

abbrev pub invariant-loop-k : goal.invariant-loop-k
invariant-loop-k l = with_front l.ids (each interface_put (drop l.k l.interfaces) l.known l.b) ≡ each interface_put l.interfaces l.initial.known l.initial.b
