use Rattle.std.proofs.Common.{◌≡◌, drop, ◌++◌, map}
use Rattle.gsl_shapes.specs.Shaping.{member_shape}
use Rattle.gsl_shapes.proofs.shapes.members_shapes.Given as goal

abbrev pub invariant-loop-k : goal.invariant-loop-k
invariant-loop-k l = l.all ++ map (member_shape l.table) (drop l.k l.members) ≡ map (member_shape l.table) l.members
