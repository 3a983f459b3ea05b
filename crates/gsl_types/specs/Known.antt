-- Which types and lists of structs are well formed.
use Rattle.std.specs.Prelude.{◌≡◌, ℕ, ◌<◌, ◌^◌, Bool, true, false, ◌&&◌, IsTrue, nat_le, nat_lt, List, length, slice_get, Some}
use Rattle.std.specs.List.{AllByRecursion}
use Rattle.gsl_types.specs.declared.ty.Ty.{Ty}
use Rattle.gsl_types.specs.declared.ty.Ty.TheOpen.{Ty-F}
use Rattle.gsl_types.specs.declared.ty.Ty.TheFolds.{fold-Ty}
use Rattle.gsl_types.specs.declared.ty.Ty.TheVariants as ty
use Rattle.gsl_types.specs.declared.ty.Member.{Member}
use Rattle.gsl_types.specs.declared.ty.StructType.{StructType}
use Rattle.gsl_types.specs.Leaves.{told_leaves}

-- one layer of a type over so many structs
abbrev pub sound_kind : ℕ → Ty-F Bool → Bool
sound_kind count Ty-F.Void = true
sound_kind count (Ty-F.One s) = true
sound_kind count (Ty-F.Vector s n) = nat_le 2 n && nat_le n 4
sound_kind count (Ty-F.Array element n) = (nat_le 1 n && nat_lt n (2 ^ 32)) && element
sound_kind count (Ty-F.Runtime element) = element
sound_kind count (Ty-F.Struct number) = nat_lt number count

-- Vectors have two to four components and arrays an element and fewer than 2^32, and struct numbers are below the count.
abbrev pub sound : ℕ → Ty → Bool
sound count = fold-Ty Bool (sound_kind count)

abbrev pub IsSound : ℕ → Ty → Type 0
IsSound count ty = IsTrue (sound count ty)

-- no `void` and no runtime array stands in a type
abbrev pub is_plain_kind : Ty-F Bool → Bool
is_plain_kind Ty-F.Void = false
is_plain_kind (Ty-F.One s) = true
is_plain_kind (Ty-F.Vector s n) = true
is_plain_kind (Ty-F.Array element n) = element
is_plain_kind (Ty-F.Runtime element) = false
is_plain_kind (Ty-F.Struct number) = true

abbrev pub is_plain : Ty → Bool
is_plain = fold-Ty Bool is_plain_kind

-- A struct names structs before it alone, has a member, and tells its leaves.
pub record IsStruct (structs : List StructType) (number : ℕ) (struct : StructType) : Type 0 where
  pub some : 0 < length struct.members
  pub earlier : AllByRecursion (λ (member : Member). IsSound number member.ty) struct.members
  pub told : struct.leaves ≡ told_leaves structs (ty.Struct number)

-- Each struct of a list is as it should be.
abbrev pub AreStructs : List StructType → Type 0
AreStructs structs = (number : ℕ) (struct : StructType) → slice_get structs number ≡ Some struct → IsStruct structs number struct
