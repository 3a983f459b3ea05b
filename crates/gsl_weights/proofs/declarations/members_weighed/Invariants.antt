use Rattle.std.proofs.Common.{◌≡◌, drop}
use Rattle.gsl_weights.specs.Telling.{in_turn}
use Rattle.gsl_weights.specs.Weighing.{member_weighed}
use Rattle.gsl_weights.proofs.declarations.members_weighed.Given as goal

abbrev pub invariant-loop-k : goal.invariant-loop-k
invariant-loop-k l = in_turn member_weighed l.total (drop l.k l.members) ≡ in_turn member_weighed l.fn.so_far l.members
