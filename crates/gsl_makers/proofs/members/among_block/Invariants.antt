use Rattle.std.proofs.Common.{◌≡◌, drop, ◌++◌, length}
use Rattle.gsl_makers.specs.Members.{block_member_from}
use Rattle.gsl_makers.proofs.members.among_block.Given as goal

abbrev pub invariant-loop-k : goal.invariant-loop-k
invariant-loop-k l = block_member_from 0 l.fn.members l.fn.name ≡ block_member_from l.k (drop l.k l.fn.members) l.fn.name
