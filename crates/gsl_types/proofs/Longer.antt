-- Lists of structs with one more at their end.
use Rattle.std.proofs.Common.{◌≡◌, refl, sym, ap, subst, ◌∙◌, ℕ, ◌+◌, ◌<◌, ◌⊎◌, inl, inr, List, [], ◌∷◌, ◌++◌, length, slice_get, Some, get_or, min, arith, length-append}
use Rattle.std.specs.List.{AllByRecursion}
use Rattle.std.proofs.lemmas.Bool.{cases_lt}
use Rattle.std.proofs.lemmas.List.{get_or_append_left, get_or_push}
use Rattle.std.proofs.lemmas.Option.{slice_get_within, get_or_from_slice_get, slice_get-get_or}
use Rattle.gsl_types.specs.declared.ty.Ty.TheVariants as ty
use Rattle.gsl_types.specs.declared.ty.Member.{Member}
use Rattle.gsl_types.specs.declared.ty.StructType.{StructType}
use Rattle.gsl_types.specs.Known.{AreStructs, IsStruct, IsSound}
use Rattle.gsl_types.specs.Leaves.{told_leaves, leaves_of, leaves_together, counting, most_leaves}
use Rattle.gsl_types.specs.Structs.{Meaning, struct_over, table_from, numbered, members_meaning}
use Rattle.gsl_types.proofs.Layers.{over_struct}
use Rattle.gsl_types.proofs.Structs.{numbered_is, members_agree}

module _ {A : Type 0} (m : Meaning A) where
  abbrev next_of : List A → StructType → A
  next_of table struct = struct_over m (λ number. get_or table number m.none) struct

  table_length : (structs : List StructType) (before : List A) → length (table_from m before structs) ≡ length before + length structs
  table_length [] before = omega arith
  table_length (struct ∷ structs) before = omega (arith, table_length structs (before ++ next_of before struct ∷ []), length-append before (next_of before struct ∷ []))

  table_push : (structs : List StructType) (before : List A) (s : StructType) → table_from m before (structs ++ s ∷ []) ≡ table_from m before structs ++ next_of (table_from m before structs) s ∷ []
  table_push [] before s = refl
  table_push (struct ∷ structs) before s = table_push structs (before ++ next_of before struct ∷ []) s

  pub numbered_push : (structs : List StructType) (s : StructType) (k : ℕ) → k < length structs → numbered m structs k ≡ numbered m (structs ++ s ∷ []) k
  numbered_push structs s k below = sym (ap (λ t. get_or t k m.none) (table_push structs [] s)
      ∙ get_or_append_left (table_from m [] structs) _ m.none k (omega (arith, table_length structs [], below)))

-- what stands in a list with one more
pub pushed : {X : Type 0} (xs : List X) (y : X) (k : ℕ) (x : X) → slice_get (xs ++ y ∷ []) k ≡ Some x → ((k < length xs) × (slice_get xs k ≡ Some x)) ⊎ ((k ≡ length xs) × (y ≡ x))
pushed xs y k x found =
    let within = slice_get_within (xs ++ y ∷ []) k x found in
    let is = get_or_from_slice_get (xs ++ y ∷ []) k x x found in
    elim (cases_lt k (length xs)) as (λ _. ((k < length xs) × (slice_get xs k ≡ Some x)) ⊎ ((k ≡ length xs) × (y ≡ x))) [
      | inl below ↦ inl (below, slice_get-get_or xs k x below ∙ ap Some (sym (get_or_append_left xs (y ∷ []) x k below) ∙ is))
      | inr above ↦ let last : k ≡ length xs = omega (arith, length-append xs (y ∷ []), within, above) in inr (last, sym (get_or_push xs y x k (sym last)) ∙ is)
    ]

module _ (structs : List StructType) (known : AreStructs structs) (s : StructType) (some : 0 < length s.members)
    (earlier : AllByRecursion (λ (member : Member). IsSound (length structs) member.ty) s.members)
    (told : s.leaves ≡ min (leaves_together (members_meaning counting structs s.members)) most_leaves) where
  abbrev longer : List StructType
  longer = structs ++ s ∷ []

  counted : (k : ℕ) → k < length structs → leaves_of structs (ty.Struct k) ≡ leaves_of longer (ty.Struct k)
  counted k below = over_struct counting (numbered counting structs) k ∙ numbered_push counting structs s k below ∙ sym (over_struct counting (numbered counting longer) k)

  last_told : slice_get longer (length structs) ≡ Some s → s.leaves ≡ told_leaves longer (ty.Struct (length structs))
  last_told found = told ∙ ap (λ n. min n most_leaves)
      (ap leaves_together (members_agree counting (length structs) (numbered counting structs) (numbered counting longer) (numbered_push counting structs s) s.members earlier)
      ∙ sym (over_struct counting (numbered counting longer) (length structs) ∙ numbered_is counting longer (length structs) s found earlier))

  by_place : (k : ℕ) (t : StructType) → slice_get longer k ≡ Some t → ((k < length structs) × (slice_get structs k ≡ Some t)) ⊎ ((k ≡ length structs) × (s ≡ t)) → IsStruct longer k t
  by_place k t found (inl (below, there)) =
      let is = known k t there in
      record { some = is.some; earlier = is.earlier; told = is.told ∙ ap (λ n. min n most_leaves) (counted k below) }
  by_place k t found (inr (last, is)) = subst (λ u. IsStruct longer k u) is
      (subst (λ n. IsStruct longer n s) (sym last) (record {
        some = some;
        earlier = earlier;
        told = last_told (subst (λ n. slice_get longer n ≡ Some s) last (found ∙ ap Some (sym is)));
      }))

  pub longer_known : AreStructs longer
  longer_known k t found = by_place k t found (pushed structs s k t found)
