use Rattle.std.proofs.Common.{◌≡◌, drop, ◌++◌, length}
use Rattle.gsl_makers.specs.Constructors.{as_members}
use Rattle.gsl_makers.proofs.constructors.as_members.Given as goal

abbrev pub invariant-loop-k : goal.invariant-loop-k
invariant-loop-k l = l.given ++ as_members (drop l.k l.fn.members) l.left ≡ as_members l.fn.members l.fn.args
