use Rattle.std.proofs.Common.{◌≡◌, drop}
use Rattle.gsl_lower_types.specs.Known.{all}
use Rattle.gsl_lower_types.specs.Values.{block_member_type}
use Rattle.gsl_lower_types.proofs.values.block_members_types.Given as goal

abbrev pub invariant-loop-k : goal.invariant-loop-k
invariant-loop-k l = all block_member_type (drop l.k l.members) l.known l.b ≡ all block_member_type l.members l.initial.known l.initial.b
