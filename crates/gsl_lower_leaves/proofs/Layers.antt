-- The leaves of the shape of a type are those of the type.
use Rattle.std.proofs.Common.{◌≡◌, refl, sym, ap, ◌∙◌, ℕ, ◌+◌, List, [], ◌∷◌, ◌++◌, map}
use Rattle.gsl_types.specs.declared.ty.Scalar.{Scalar}
use Rattle.gsl_types.specs.declared.ty.StructType.{StructType}
use Rattle.gsl_types.specs.declared.ty.Ty.{Ty}
use Rattle.gsl_types.specs.Structs.{meaning, table_from}
use Rattle.gsl_shapes.specs.Shaping.{shapes_of, shaping}
use Rattle.gsl_shapes.specs.declared.shape.Shape.{Shape}
use Rattle.gsl_shapes.specs.declared.shape.Shape.TheFolds.{fold-roll-Shape}
use Rattle.gsl_shapes.specs.declared.shape.Shape.TheOpen.{Shape-F}
use Rattle.gsl_shapes.specs.declared.shape.Shape.TheVariants as shape
use Rattle.gsl_shapes.specs.declared.shape.Shape.TheVariants.{rolls-Void, rolls-One, rolls-Vector, rolls-Array, rolls-Runtime, rolls-Struct}
use Rattle.gsl_shapes.proofs.Shaped.{shaped}
use Rattle.gsl_lower_leaves.specs.declared.leaf.Leaf.{Leaf}
use Rattle.gsl_lower_leaves.specs.Leaves.{leaf, leaves_meaning, leaves_of, member_leaves, within}
use Rattle.gsl_lower_leaves.specs.Shaped.{elements, leaves_by, leaves_layer, members_from}

pub of_void : leaves_by shape.Void ≡ []
of_void = ap leaves_by (sym rolls-Void) ∙ fold-roll-Shape (List Leaf) leaves_layer Shape-F.Void

pub of_one : (s : Scalar) → leaves_by (shape.One s) ≡ leaf (s, 1)
of_one s = ap leaves_by (sym (rolls-One s)) ∙ fold-roll-Shape (List Leaf) leaves_layer (Shape-F.One s)

pub of_vector : (s : Scalar) (n : ℕ) → leaves_by (shape.Vector s n) ≡ leaf (s, n)
of_vector s n = ap leaves_by (sym (rolls-Vector s n)) ∙ fold-roll-Shape (List Leaf) leaves_layer (Shape-F.Vector s n)

pub of_array : (e : Shape) (n : ℕ) → leaves_by (shape.Array e n) ≡ elements n (leaves_by e)
of_array e n = ap leaves_by (sym (rolls-Array e n)) ∙ fold-roll-Shape (List Leaf) leaves_layer (Shape-F.Array e n)

pub of_runtime : (e : Shape) → leaves_by (shape.Runtime e) ≡ []
of_runtime e = ap leaves_by (sym (rolls-Runtime e)) ∙ fold-roll-Shape (List Leaf) leaves_layer (Shape-F.Runtime e)

pub of_struct : (es : List Shape) → leaves_by (shape.Struct es) ≡ members_from 0 (map leaves_by es)
of_struct es = ap leaves_by (sym (rolls-Struct es)) ∙ fold-roll-Shape (List Leaf) leaves_layer (Shape-F.Struct es)

members_same : (number : ℕ) (members : List (List ℕ × Shape)) → members_from number (map leaves_by (shapes_of members)) ≡ member_leaves number (map (λ (e : List ℕ × Shape). (e.0, leaves_by e.1)) members)
members_same number [] = refl
members_same number (e ∷ members) = ap (λ l. map (within number) (leaves_by e.1) ++ l) (members_same (number + 1) members)

pub leaves_shaped : (structs : List StructType) (ty : Ty) → leaves_by (meaning shaping structs ty) ≡ leaves_of structs ty
leaves_shaped structs ty =
    shaped leaves_meaning leaves_by of_void of_void of_one of_vector of_array of_runtime (λ name members. of_struct (shapes_of members) ∙ members_same 0 members) structs (table_from shaping [] structs) ty refl
