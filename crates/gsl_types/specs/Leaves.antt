-- The leaves of a type: its scalar components.
use Rattle.std.specs.Prelude.{ℕ, ◌+◌, ◌*◌, ◌^◌, List, [], ◌∷◌, min}
use Rattle.gsl_types.specs.declared.ty.Ty.{Ty}
use Rattle.gsl_types.specs.declared.ty.Ty.TheOpen.{Ty-F}
use Rattle.gsl_types.specs.declared.ty.StructType.{StructType}
use Rattle.gsl_types.specs.Structs.{Meaning, meaning}

-- the leaves of members together
abbrev pub leaves_together : List (List ℕ × ℕ) → ℕ
leaves_together [] = 0
leaves_together (member ∷ members) = member.1 + leaves_together members

-- the leaves of a type by its kind; a runtime array counts none
abbrev pub leaves_of_kind : Ty-F ℕ → ℕ
leaves_of_kind Ty-F.Void = 0
leaves_of_kind (Ty-F.One s) = 1
leaves_of_kind (Ty-F.Vector s n) = n
leaves_of_kind (Ty-F.Array leaves n) = n * leaves
leaves_of_kind (Ty-F.Runtime leaves) = 0
leaves_of_kind (Ty-F.Struct number) = 0

abbrev pub counting : Meaning ℕ
counting = record { kind = leaves_of_kind; struct = λ name members. leaves_together members; none = 0 }

-- the count of leaves
abbrev pub leaves_of : List StructType → Ty → ℕ
leaves_of structs ty = meaning counting structs ty

-- no count is told beyond this
abbrev pub most_leaves : ℕ
most_leaves = 2 ^ 40

-- the count of leaves as it is told
abbrev pub told_leaves : List StructType → Ty → ℕ
told_leaves structs ty = min (leaves_of structs ty) most_leaves
