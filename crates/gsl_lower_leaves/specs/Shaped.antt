-- The leaves of a type whose structs are written out.
use Rattle.std.specs.Prelude.{ℕ, ◌+◌, List, [], ◌∷◌, ◌++◌, map}
use Rattle.std.specs.List.{flat_map, range_with_len}
use Rattle.gsl_shapes.specs.declared.shape.Shape.{Shape}
use Rattle.gsl_shapes.specs.declared.shape.Shape.TheOpen.{Shape-F}
use Rattle.gsl_shapes.specs.declared.shape.Shape.TheFolds.{fold-Shape}
use Rattle.gsl_lower_leaves.specs.Leaves.{element_leaves, leaf, within}
use Rattle.gsl_lower_leaves.specs.declared.leaf.Leaf.{Leaf}

abbrev pub elements : ℕ → List Leaf → List Leaf
elements count element = flat_map (element_leaves element) (range_with_len 0 count)

-- those of members, numbered from one on
abbrev pub members_from : ℕ → List (List Leaf) → List Leaf
members_from number [] = []
members_from number (member ∷ members) = map (within number) member ++ members_from (number + 1) members

abbrev pub leaves_layer : Shape-F (List Leaf) → List Leaf
leaves_layer Shape-F.Void = []
leaves_layer (Shape-F.One s) = leaf (s, 1)
leaves_layer (Shape-F.Vector s n) = leaf (s, n)
leaves_layer (Shape-F.Array element n) = elements n element
leaves_layer (Shape-F.Runtime element) = []
leaves_layer (Shape-F.Struct members) = members_from 0 members

abbrev pub leaves_by : Shape → List Leaf
leaves_by = fold-Shape (List Leaf) leaves_layer
