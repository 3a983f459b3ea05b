-- How many parts a type has when it is written out.
use Rattle.std.proofs.Common.{◌≡◌, ap, ◌∙◌, ℕ, ◌+◌, ◌*◌, ◌<◌, ◌≤◌, zero, suc, List, [], ◌∷◌, slice_get, Some, arith}
use Rattle.std.proofs.lemmas.Option.{none-some}
use Rattle.gsl_types.specs.declared.ty.Member.{Member}
use Rattle.gsl_types.specs.Known.{AreStructs}
use Rattle.gsl_types.proofs.Structs.{numbered_is, member_or}
use Rattle.gsl_types.specs.declared.ty.Ty.{Ty}
use Rattle.gsl_types.specs.declared.ty.Ty.TheOpen.{Ty-F}
use Rattle.gsl_types.specs.declared.ty.Ty.TheVariants as ty
use Rattle.gsl_types.specs.declared.ty.StructType.{StructType}
use Rattle.gsl_types.specs.Leaves.{leaves_together}
use Rattle.gsl_types.specs.Structs.{Meaning, meaning, members_meaning, numbered}
use Rattle.gsl_types.proofs.Layers.{over_array, over_runtime, over_struct}

abbrev size_of_kind : Ty-F ℕ → ℕ
size_of_kind (Ty-F.Array size n) = size + 1
size_of_kind (Ty-F.Runtime size) = size + 1
size_of_kind _ = 1

abbrev pub sizing : Meaning ℕ
sizing = record { kind = size_of_kind; struct = λ name members. leaves_together members + 1; none = 1 }

-- the count of parts
abbrev pub size : List StructType → Ty → ℕ
size structs ty = meaning sizing structs ty

pub size_array : (structs : List StructType) (e : Ty) (n : ℕ) → size structs (ty.Array e n) ≡ size structs e + 1
size_array structs e n = over_array sizing (numbered sizing structs) e n

pub size_runtime : (structs : List StructType) (e : Ty) → size structs (ty.Runtime e) ≡ size structs e + 1
size_runtime structs e = over_runtime sizing (numbered sizing structs) e

module _ (structs : List StructType) where
  -- a member has no more parts than all members
  pub member_le : (members : List Member) (k : ℕ) (x : Member) → slice_get members k ≡ Some x → size structs x.ty ≤ leaves_together (members_meaning sizing structs members)
  member_le [] k x found = let absent : ⊥ = none-some _ found in elim absent [ ]
  member_le (y ∷ members) zero x found = omega (arith, ap (λ z. size structs z.ty) (ap (member_or y) found))
  member_le (y ∷ members) (suc k) x found = omega (arith, member_le members k x found)

  -- a struct has one part more than its members
  pub struct_size : AreStructs structs → (i : ℕ) (s : StructType) → slice_get structs i ≡ Some s → size structs (ty.Struct i) ≡ leaves_together (members_meaning sizing structs s.members) + 1
  struct_size known i s at = over_struct sizing (numbered sizing structs) i ∙ numbered_is sizing structs i s at (known i s at).earlier

  -- a member of a struct has fewer parts than the struct
  pub member_smaller : AreStructs structs → (i : ℕ) (s : StructType) → slice_get structs i ≡ Some s → (k : ℕ) (x : Member) → slice_get s.members k ≡ Some x
      → 2 * size structs x.ty + 1 < 2 * size structs (ty.Struct i)
  member_smaller known i s at k x found =
      let is : size structs (ty.Struct i) ≡ leaves_together (members_meaning sizing structs s.members) + 1
      = over_struct sizing (numbered sizing structs) i ∙ numbered_is sizing structs i s at (known i s at).earlier in
      omega (arith, is, member_le s.members k x found)
