use Rattle.std.proofs.Common.{◌≡◌, drop, ◌++◌, map}
use Rattle.gsl_shapes.specs.Shaping.{told_of, side_by_side}
use Rattle.gsl_shapes.proofs.told.+told.Given as goal

abbrev pub invariant-each_told-loop-k : goal.invariant-each_told-loop-k
invariant-each_told-loop-k l = l.all ++ map (told_of l.element) (drop l.k l.parts) ≡ map (told_of l.element) l.parts

abbrev pub invariant-members_told-loop-k : goal.invariant-members_told-loop-k
invariant-members_told-loop-k l = l.all ++ side_by_side (map told_of (drop l.k l.members)) (drop l.k l.parts) ≡ side_by_side (map told_of l.members) l.parts
