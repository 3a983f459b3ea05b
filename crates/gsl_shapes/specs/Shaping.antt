-- Types whose structs are written out, and what they say of values.
use Rattle.std.specs.Prelude.{ℕ, List, [], ◌∷◌, map, replicate, get_or}
use Rattle.gsl_types.specs.declared.ty.Ty.TheOpen.{Ty-F}
use Rattle.gsl_types.specs.declared.ty.Member.{Member}
use Rattle.gsl_types.specs.Structs.{Meaning, over}
use Rattle.gsl_values.specs.declared.value.Value.{Value}
use Rattle.gsl_values.specs.declared.value.Value.TheVariants.{Word, Many}
use Rattle.gsl_tree.specs.Values.{parts_in}
use Rattle.gsl_meaning.specs.Accesses.{told_scalar}
use Rattle.gsl_shapes.specs.declared.shape.Shape.{Shape}
use Rattle.gsl_shapes.specs.declared.shape.Shape.TheOpen.{Shape-F}
use Rattle.gsl_shapes.specs.declared.shape.Shape.TheFolds.{fold-Shape}
use Rattle.gsl_shapes.specs.declared.shape.Shape.TheVariants as shape

abbrev pub shape_kind : Ty-F Shape → Shape
shape_kind Ty-F.Void = shape.Void
shape_kind (Ty-F.One s) = shape.One s
shape_kind (Ty-F.Vector s n) = shape.Vector s n
shape_kind (Ty-F.Array element n) = shape.Array element n
shape_kind (Ty-F.Runtime element) = shape.Runtime element
shape_kind (Ty-F.Struct number) = shape.Void

abbrev pub shapes_of : List (List ℕ × Shape) → List Shape
shapes_of [] = []
shapes_of (member ∷ members) = member.1 ∷ shapes_of members

-- the shape of a type; a struct that is not there has none
abbrev pub shaping : Meaning Shape
shaping = record { kind = shape_kind; struct = λ name members. shape.Struct (shapes_of members); none = shape.Void }

-- the shape of a struct by its number
abbrev pub known : List Shape → ℕ → Shape
known table number = get_or table number shape.Void

abbrev pub member_shape : List Shape → Member → Shape
member_shape table member = over shaping (known table) member.ty

-- ---- what shapes say of values

abbrev pub zero_layer : Shape-F Value → Value
zero_layer Shape-F.Void = Many []
zero_layer (Shape-F.One s) = Word 0
zero_layer (Shape-F.Vector s n) = Many (replicate n (Word 0))
zero_layer (Shape-F.Array element n) = Many (replicate n element)
zero_layer (Shape-F.Runtime element) = Many []
zero_layer (Shape-F.Struct members) = Many members

-- the value whose leaves are all zero
abbrev pub zero_of : Shape → Value
zero_of = fold-Shape Value zero_layer

-- what each makes of the value beside it
abbrev pub side_by_side : List (Value → Value) → List Value → List Value
side_by_side (f ∷ fs) (v ∷ vs) = f v ∷ side_by_side fs vs
side_by_side _ _ = []

abbrev pub told_layer : Shape-F (Value → Value) → Value → Value
told_layer Shape-F.Void v = v
told_layer (Shape-F.One s) v = told_scalar s v
told_layer (Shape-F.Vector s n) v = Many (map (told_scalar s) (parts_in v))
told_layer (Shape-F.Array element n) v = Many (map element (parts_in v))
told_layer (Shape-F.Runtime element) v = Many (map element (parts_in v))
told_layer (Shape-F.Struct members) v = Many (side_by_side members (parts_in v))

-- the value that words tell: a word of a `bool` that is not 0 is true
abbrev pub told_of : Shape → Value → Value
told_of = fold-Shape (Value → Value) told_layer
