-- The meaning of a struct is that of its members.
use Rattle.std.proofs.Common.{◌≡◌, refl, sym, ap, subst, ◌∙◌, ℕ, ◌+◌, ◌<◌, List, [], ◌∷◌, ◌++◌, length, get_or, IsTrue, arith, Some, zero, suc, None, Option, length-append, nat_lt, ◌^◌}
use Rattle.std.specs.Prelude.{Bool, slice_get, nat_le, ◌&&◌}
use Rattle.std.specs.List.{AllByRecursion}
use Rattle.std.proofs.lemmas.Bool.{and_parts, ltb-true}
use Rattle.std.proofs.lemmas.Option.{none-some}
use Rattle.std.proofs.lemmas.List.{get_or_at, get_or_append_left}
use Rattle.gsl_types.specs.declared.ty.Ty.{Ty}
use Rattle.gsl_types.specs.declared.ty.Ty.TheOpen.{Ty-F}
use Rattle.gsl_types.specs.declared.ty.Ty.TheViews.{roll-Ty}
use Rattle.gsl_types.specs.declared.ty.Ty.TheFolds.{fold-roll-Ty, ind-Ty, map-Ty}
use Rattle.gsl_types.specs.declared.ty.Member.{Member}
use Rattle.gsl_types.specs.declared.ty.StructType.{StructType}
use Rattle.gsl_types.specs.Structs.{Meaning, layer, over, members_over, struct_over, table_from, numbered}
use Rattle.gsl_types.specs.Known.{IsSound, sound, sound_kind}

-- types over so many structs have one meaning, whatever stands behind those
module _ {A : Type 0} (m : Meaning A) (count : ℕ) (f g : ℕ → A) (agree : (k : ℕ) → k < count → f k ≡ g k) where
  abbrev Agrees : Ty → Type 0
  Agrees ty = IsSound count ty → over m f ty ≡ over m g ty

  layer_agree : (y : Ty-F ((ty : Ty) × Agrees ty)) → Agrees (roll-Ty (map-Ty _ _ (λ e. e.0) y))
  layer_agree Ty-F.Void s = fold-roll-Ty A (layer m f) _ ∙ sym (fold-roll-Ty A (layer m g) _)
  layer_agree (Ty-F.One x) s = fold-roll-Ty A (layer m f) _ ∙ sym (fold-roll-Ty A (layer m g) _)
  layer_agree (Ty-F.Vector x n) s = fold-roll-Ty A (layer m f) _ ∙ sym (fold-roll-Ty A (layer m g) _)
  layer_agree (Ty-F.Array e n) s =
      let is : IsTrue ((nat_le 1 n && nat_lt n (2 ^ 32)) && sound count e.0) = sym (fold-roll-Ty Bool (sound_kind count) (Ty-F.Array e.0 n)) ∙ s in
      fold-roll-Ty A (layer m f) (Ty-F.Array e.0 n) ∙ ap (λ a. m.kind (Ty-F.Array a n)) (e.1 (and_parts _ _ is).1) ∙ sym (fold-roll-Ty A (layer m g) (Ty-F.Array e.0 n))
  layer_agree (Ty-F.Runtime e) s =
      let is = sym (fold-roll-Ty Bool (sound_kind count) (Ty-F.Runtime e.0)) ∙ s in
      fold-roll-Ty A (layer m f) (Ty-F.Runtime e.0) ∙ ap (λ a. m.kind (Ty-F.Runtime a)) (e.1 is) ∙ sym (fold-roll-Ty A (layer m g) (Ty-F.Runtime e.0))
  layer_agree (Ty-F.Struct k) s =
      let is = sym (fold-roll-Ty Bool (sound_kind count) (Ty-F.Struct k)) ∙ s in
      fold-roll-Ty A (layer m f) (Ty-F.Struct k) ∙ agree k (ltb-true _ _ is) ∙ sym (fold-roll-Ty A (layer m g) (Ty-F.Struct k))

  pub over_agree : (ty : Ty) → IsSound count ty → over m f ty ≡ over m g ty
  over_agree = ind-Ty Agrees (λ x y is. subst (λ z. Agrees (roll-Ty z)) is (layer_agree y))

  pub members_agree : (members : List Member) → AllByRecursion (λ (member : Member). IsSound count member.ty) members → members_over m f members ≡ members_over m g members
  members_agree [] all = refl
  members_agree (member ∷ members) all = ap (λ x. (member.name, x) ∷ members_over m f members) (over_agree member.ty all.0)
      ∙ ap (λ xs. (member.name, over m g member.ty) ∷ xs) (members_agree members all.1)

abbrev item_or : StructType → Option StructType → StructType
item_or s (Some t) = t
item_or s None = s

module _ {A : Type 0} (m : Meaning A) where
  -- the list with the next struct's meaning
  abbrev with_next : List A → StructType → List A
  with_next before struct = before ++ struct_over m (λ number. get_or before number m.none) struct ∷ []

  -- a table keeps what stands first in it
  table_keeps : (structs : List StructType) (before : List A) (k : ℕ) (d : A) → k < length before → get_or (table_from m before structs) k d ≡ get_or before k d
  table_keeps [] before k d below = refl
  table_keeps (struct ∷ structs) before k d below = table_keeps structs (with_next before struct) k d (omega (arith, length-append before (struct_over m (λ number. get_or before number m.none) struct ∷ []), below))
      ∙ get_or_append_left before _ d k below

  -- each struct has the meaning that its members give, where it names structs before it alone
  abbrev IsOf : List A → ℕ → StructType → Type 0
  IsOf table k struct = get_or table k m.none ≡ struct_over m (λ number. get_or table number m.none) struct

  table_is : (structs : List StructType) (before : List A) (i k : ℕ) (struct : StructType) → length before + i ≡ k → slice_get structs i ≡ Some struct
      → AllByRecursion (λ (member : Member). IsSound k member.ty) struct.members → IsOf (table_from m before structs) k struct
  table_is [] before i k struct at found earlier = elim (none-some _ found) [ ]
  table_is (s ∷ structs) before zero k struct at found earlier =
      let is : s ≡ struct = ap (item_or s) found in
      let counted = length-append before (struct_over m (λ number. get_or before number m.none) s ∷ []) in
      let kept = λ (j : ℕ) (below : j < length (with_next before s)). table_keeps structs (with_next before s) j m.none below in
      kept k (omega (arith, counted, at)) ∙ get_or_at before _ [] m.none k (omega (arith, at))
      ∙ ap (struct_over m (λ number. get_or before number m.none)) is
      ∙ ap (m.struct struct.name) (members_agree m k (λ number. get_or before number m.none) (λ number. get_or (table_from m before (s ∷ structs)) number m.none)
      (λ j below. sym (kept j (omega (arith, counted, at, below)) ∙ get_or_append_left before _ m.none j (omega (arith, at, below)))) struct.members earlier)
  table_is (s ∷ structs) before (suc i) k struct at found earlier =
      table_is structs (with_next before s) i k struct (omega (arith, at, length-append before (struct_over m (λ number. get_or before number m.none) s ∷ []))) found earlier

  pub numbered_is : (structs : List StructType) (k : ℕ) (struct : StructType) → slice_get structs k ≡ Some struct
      → AllByRecursion (λ (member : Member). IsSound k member.ty) struct.members → numbered m structs k ≡ struct_over m (numbered m structs) struct
  numbered_is structs k struct found earlier = table_is structs [] k k struct (omega arith) found earlier

abbrev pub member_or : Member → Option Member → Member
member_or y (Some x) = x
member_or y None = y

-- a member of a list of sound ones is so
pub member_sound : (count : ℕ) (members : List Member) → AllByRecursion (λ (member : Member). IsSound count member.ty) members → (k : ℕ) (x : Member) → slice_get members k ≡ Some x → IsSound count x.ty
member_sound count [] all k x found = let absent : ⊥ = none-some _ found in elim absent [ ]
member_sound count (y ∷ members) all zero x found = subst (λ z. IsSound count z.ty) (ap (member_or y) found) all.0
member_sound count (y ∷ members) all (suc k) x found = member_sound count members all.1 k x found
