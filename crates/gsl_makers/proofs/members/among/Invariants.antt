use Rattle.std.proofs.Common.{◌≡◌, drop, ◌++◌, length}
use Rattle.gsl_makers.specs.Members.{member_from}
use Rattle.gsl_makers.proofs.members.among.Given as goal

abbrev pub invariant-loop-k : goal.invariant-loop-k
invariant-loop-k l = member_from 0 l.fn.members l.fn.name ≡ member_from l.k (drop l.k l.fn.members) l.fn.name
