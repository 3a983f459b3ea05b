use Rattle.std.proofs.Common.{◌≡◌, ◌++◌, drop}
use Rattle.gsl_lower_types.specs.Blocks.{member_types_of}
use Rattle.gsl_lower_types.proofs.blocks.member_types.Given as goal

abbrev pub invariant-loop-k : goal.invariant-loop-k
invariant-loop-k l = l.all ++ member_types_of (drop l.k l.members) ≡ member_types_of l.members
