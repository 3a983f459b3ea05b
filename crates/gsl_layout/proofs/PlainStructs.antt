-- Lists of plain structs with one more.
use Rattle.std.proofs.Common.{◌≡◌, ◌⊎◌, ◌<◌, inl, inr, ℕ, List, length, IsTrue, subst, slice_get, Some, ◌++◌, ◌∷◌, []}
use Rattle.std.specs.List.{AllByRecursion}
use Rattle.gsl_types.specs.declared.ty.Member.{Member}
use Rattle.gsl_types.specs.declared.ty.StructType.{StructType}
use Rattle.gsl_types.proofs.Longer.{pushed}
use Rattle.gsl_layout.specs.Extents.{ArePlain, plain}

abbrev pub AllPlain : StructType → Type 0
AllPlain struct = AllByRecursion (λ (member : Member). IsTrue (plain member.ty)) struct.members

pub longer : (structs : List StructType) (s : StructType) → ArePlain structs → AllPlain s → ArePlain (structs ++ s ∷ [])
longer structs s are is k t found = by_place k t (pushed structs s k t found)
  where
    by_place : (k : ℕ) (t : StructType) → ((k < length structs) × (slice_get structs k ≡ Some t)) ⊎ ((k ≡ length structs) × (s ≡ t)) → AllPlain t
    by_place k t (inl there) = are k t there.1
    by_place k t (inr last) = subst AllPlain last.1 is
