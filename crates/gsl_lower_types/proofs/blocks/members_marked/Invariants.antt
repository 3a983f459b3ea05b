use Rattle.std.proofs.Common.{◌≡◌, drop}
use Rattle.gsl_lower_types.specs.Blocks as spec
use Rattle.gsl_lower_types.proofs.blocks.members_marked.Given as goal

abbrev pub invariant-loop-k : goal.invariant-loop-k
invariant-loop-k l = spec.members_marked l.id l.k (drop l.k l.members) l.b ≡ spec.members_marked l.id 0 l.members l.initial.b
