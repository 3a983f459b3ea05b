-- The scalars and vectors that a type is made of.
use Rattle.std.specs.Prelude.{ℕ, ◌+◌, List, [], ◌∷◌, ◌++◌, map}
use Rattle.std.specs.List.{flat_map, range_with_len}
use Rattle.gsl_types.specs.Structs.{Meaning, meaning}
use Rattle.gsl_types.specs.declared.ty.StructType.{StructType}
use Rattle.gsl_types.specs.declared.ty.Ty.{Ty}
use Rattle.gsl_types.specs.declared.ty.Ty.TheOpen.{Ty-F}
use Rattle.gsl_tree.specs.Shapes.{Shape}
use Rattle.gsl_lower_places.specs.declared.reached.Part.TheVariants.{Fixed}
use Rattle.gsl_lower_leaves.specs.declared.leaf.Leaf.{Leaf}

abbrev pub leaf : Shape → List Leaf
leaf shape = record { path = []; shape = shape } ∷ []

-- a leaf of the part of a number
abbrev pub within : ℕ → Leaf → Leaf
within number one = record one { path = Fixed number ∷ one.path }

abbrev pub element_leaves : List Leaf → ℕ → List Leaf
element_leaves element number = map (within number) element

-- those of members, numbered from one on
abbrev pub member_leaves : ℕ → List (List ℕ × List Leaf) → List Leaf
member_leaves number [] = []
member_leaves number (member ∷ members) = map (within number) member.1 ++ member_leaves (number + 1) members

abbrev pub leaves_kind : Ty-F (List Leaf) → List Leaf
leaves_kind Ty-F.Void = []
leaves_kind (Ty-F.One s) = leaf (s, 1)
leaves_kind (Ty-F.Vector s n) = leaf (s, n)
leaves_kind (Ty-F.Array element n) = flat_map (element_leaves element) (range_with_len 0 n)
leaves_kind (Ty-F.Runtime element) = []
leaves_kind (Ty-F.Struct number) = []

abbrev pub leaves_meaning : Meaning (List Leaf)
leaves_meaning = record { kind = leaves_kind; struct = λ name members. member_leaves 0 members; none = [] }

-- The scalars and vectors of a type in their order, each with the numbers of members and elements that lead to it. A runtime array has none
-- that its type tells.
abbrev pub leaves_of : List StructType → Ty → List Leaf
leaves_of structs ty = meaning leaves_meaning structs ty
