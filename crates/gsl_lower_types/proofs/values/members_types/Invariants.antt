use Rattle.std.proofs.Common.{◌≡◌, drop}
use Rattle.gsl_lower_types.specs.Known.{each, with_front}
use Rattle.gsl_lower_types.specs.Values.{member_type}
use Rattle.gsl_lower_types.proofs.values.members_types.Given as goal

abbrev pub invariant-loop-k : goal.invariant-loop-k
invariant-loop-k l = with_front l.ids (each member_type (drop l.k l.members) l.known l.b) ≡ each member_type l.members l.initial.known l.initial.b
