-- Structs whose values are made of values alone.
use Rattle.std.specs.Prelude.{◌≡◌, ℕ, IsTrue, List, slice_get, Some}
use Rattle.std.specs.List.{AllByRecursion}
use Rattle.gsl_types.specs.declared.ty.Member.{Member}
use Rattle.gsl_types.specs.declared.ty.StructType.{StructType}
use Rattle.gsl_types.specs.Known.{is_plain}

-- no `void` and no runtime array stands in the types of members
abbrev pub ArePlain : List StructType → Type 0
ArePlain structs = (number : ℕ) (struct : StructType) → slice_get structs number ≡ Some struct → AllByRecursion (λ (member : Member). IsTrue (is_plain member.ty)) struct.members
