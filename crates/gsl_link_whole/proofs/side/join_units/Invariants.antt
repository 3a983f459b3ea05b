use Rattle.std.proofs.Common.{◌≡◌, ◌++◌, drop}
use Rattle.gsl_link_units.specs.Declarations.{sides_by, sides_of}
use Rattle.gsl_link_units.specs.Structs.{with_units, joined_structs, numbers_behind}
use Rattle.gsl_link_whole.proofs.side.join_units.Given as goal

abbrev pub invariant-loop-k : goal.invariant-loop-k
invariant-loop-k l =
    (drop l.k l.all.items ≡ drop l.k l.fn.units)
    × (with_units l.each (drop l.k l.fn.units) ≡ joined_structs l.fn.units)
    × (l.sides ++ sides_by (numbers_behind l.each (drop l.k l.fn.units)) (drop l.k l.fn.units) ≡ sides_of l.fn.units)
