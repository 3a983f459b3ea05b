-- What new numbers of structs leave of a type as it was.
use Rattle.std.proofs.Common.{◌≡◌, refl, sym, ap, ◌∙◌, subst, ℕ, ◌<◌, Bool, ◌&&◌, IsTrue, List, [], ◌∷◌, map, nat_lt, ◌^◌}
use Rattle.std.specs.Prelude.{nat_le}
use Rattle.std.specs.List.{AllByRecursion}
use Rattle.std.proofs.lemmas.Bool.{and_parts, and_from, ltb-true, lt-ltb}
use Rattle.gsl_types.specs.declared.ty.Member.{Member}
use Rattle.gsl_types.specs.declared.ty.Ty.{Ty}
use Rattle.gsl_types.specs.declared.ty.Ty.TheOpen.{Ty-F}
use Rattle.gsl_types.specs.declared.ty.Ty.TheViews.{roll-Ty}
use Rattle.gsl_types.specs.declared.ty.Ty.TheVariants as ty
use Rattle.gsl_types.specs.declared.ty.Ty.TheFolds.{fold-roll-Ty, ind-Ty, map-Ty}
use Rattle.gsl_types.specs.Structs.{Meaning, layer, over, members_over, struct_over}
use Rattle.gsl_types.specs.Known.{IsSound, is_plain, is_plain_kind, sound, sound_kind}
use Rattle.gsl_types.proofs.Layers.{over_array, over_runtime, over_void, over_one, over_vector, over_struct}
use Rattle.gsl_types.specs.declared.ty.StructType.{StructType}
use Rattle.gsl_link_units.specs.Types.{new_number, retyped, retyped_layer}
use Rattle.gsl_link_units.specs.Structs.{retyped_member, retyped_struct}
use Rattle.gsl_link_units.proofs.Folds as at

-- ---- meanings

module _ {A : Type 0} (m : Meaning A) (numbers : List ℕ) (count : ℕ) (f g : ℕ → A) (agree : (k : ℕ) → k < count → f k ≡ g (new_number numbers k)) where
  abbrev Agrees : Ty → Type 0
  Agrees t = IsSound count t → over m f t ≡ over m g (retyped numbers t)

  -- a type that is one layer
  meant : (x : Ty-F Ty) → over m g (retyped numbers (roll-Ty x)) ≡ over m g (retyped_layer numbers (map-Ty _ _ (retyped numbers) x))
  meant x = ap (over m g) (fold-roll-Ty Ty (retyped_layer numbers) x)

  layer_agree : (y : Ty-F ((t : Ty) × Agrees t)) → Agrees (roll-Ty (map-Ty _ _ (λ e. e.0) y))
  layer_agree Ty-F.Void s = fold-roll-Ty A (layer m f) Ty-F.Void ∙ sym (meant Ty-F.Void ∙ over_void m g)
  layer_agree (Ty-F.One x) s = fold-roll-Ty A (layer m f) (Ty-F.One x) ∙ sym (meant (Ty-F.One x) ∙ over_one m g x)
  layer_agree (Ty-F.Vector x n) s = fold-roll-Ty A (layer m f) (Ty-F.Vector x n) ∙ sym (meant (Ty-F.Vector x n) ∙ over_vector m g x n)
  layer_agree (Ty-F.Array e n) s =
      let is : IsTrue ((nat_le 1 n && nat_lt n (2 ^ 32)) && sound count e.0) = sym (fold-roll-Ty Bool (sound_kind count) (Ty-F.Array e.0 n)) ∙ s in
      fold-roll-Ty A (layer m f) (Ty-F.Array e.0 n) ∙ ap (λ a. m.kind (Ty-F.Array a n)) (e.1 (and_parts _ _ is).1)
      ∙ sym (meant (Ty-F.Array e.0 n) ∙ over_array m g (retyped numbers e.0) n)
  layer_agree (Ty-F.Runtime e) s =
      let is = sym (fold-roll-Ty Bool (sound_kind count) (Ty-F.Runtime e.0)) ∙ s in
      fold-roll-Ty A (layer m f) (Ty-F.Runtime e.0) ∙ ap (λ a. m.kind (Ty-F.Runtime a)) (e.1 is)
      ∙ sym (meant (Ty-F.Runtime e.0) ∙ over_runtime m g (retyped numbers e.0))
  layer_agree (Ty-F.Struct k) s =
      let is = sym (fold-roll-Ty Bool (sound_kind count) (Ty-F.Struct k)) ∙ s in
      fold-roll-Ty A (layer m f) (Ty-F.Struct k) ∙ agree k (ltb-true _ _ is) ∙ sym (meant (Ty-F.Struct k) ∙ over_struct m g (new_number numbers k))

  -- a type with new numbers means over the new meanings what it meant over the old ones
  pub retyped_agrees : (t : Ty) → Agrees t
  retyped_agrees = ind-Ty Agrees (λ x y is. subst (λ z. Agrees (roll-Ty z)) is (layer_agree y))

  pub retyped_members_agree : (members : List Member) → AllByRecursion (λ (member : Member). IsSound count member.ty) members
      → members_over m f members ≡ members_over m g (map (retyped_member numbers) members)
  retyped_members_agree [] all = refl
  retyped_members_agree (member ∷ members) all = ap (λ x. (member.name, x) ∷ members_over m f members) (retyped_agrees member.ty all.0)
      ∙ ap (λ xs. (member.name, over m g (retyped numbers member.ty)) ∷ xs) (retyped_members_agree members all.1)

  pub retyped_struct_agrees : (s : StructType) → AllByRecursion (λ (member : Member). IsSound count member.ty) s.members
      → struct_over m f s ≡ struct_over m g (retyped_struct numbers s)
  retyped_struct_agrees s all = ap (m.struct s.name) (retyped_members_agree s.members all)

-- ---- sound types

module _ (numbers : List ℕ) (count bound : ℕ) (within : (k : ℕ) → k < count → new_number numbers k < bound) where
  abbrev Stays : Ty → Type 0
  Stays t = IsSound count t → IsSound bound (retyped numbers t)

  -- whether a type that is one layer is sound
  judged : (x : Ty-F Ty) → sound bound (retyped numbers (roll-Ty x)) ≡ sound bound (retyped_layer numbers (map-Ty _ _ (retyped numbers) x))
  judged x = ap (sound bound) (fold-roll-Ty Ty (retyped_layer numbers) x)

  layer_stays : (y : Ty-F ((t : Ty) × Stays t)) → Stays (roll-Ty (map-Ty _ _ (λ e. e.0) y))
  layer_stays Ty-F.Void s = judged Ty-F.Void ∙ at.at-Void Bool (sound_kind bound)
  layer_stays (Ty-F.One x) s = judged (Ty-F.One x) ∙ at.at-One Bool (sound_kind bound) x
  layer_stays (Ty-F.Vector x n) s = judged (Ty-F.Vector x n) ∙ at.at-Vector Bool (sound_kind bound) x n ∙ sym (fold-roll-Ty Bool (sound_kind count) (Ty-F.Vector x n)) ∙ s
  layer_stays (Ty-F.Array e n) s =
      let is : IsTrue ((nat_le 1 n && nat_lt n (2 ^ 32)) && sound count e.0) = sym (fold-roll-Ty Bool (sound_kind count) (Ty-F.Array e.0 n)) ∙ s in
      let p = and_parts _ _ is in
      judged (Ty-F.Array e.0 n) ∙ at.at-Array Bool (sound_kind bound) (retyped numbers e.0) n ∙ and_from _ _ p.0 (e.1 p.1)
  layer_stays (Ty-F.Runtime e) s =
      judged (Ty-F.Runtime e.0) ∙ at.at-Runtime Bool (sound_kind bound) (retyped numbers e.0) ∙ e.1 (sym (fold-roll-Ty Bool (sound_kind count) (Ty-F.Runtime e.0)) ∙ s)
  layer_stays (Ty-F.Struct k) s =
      let below = ltb-true k count (sym (fold-roll-Ty Bool (sound_kind count) (Ty-F.Struct k)) ∙ s) in
      judged (Ty-F.Struct k) ∙ at.at-Struct Bool (sound_kind bound) (new_number numbers k) ∙ lt-ltb _ _ (within k below)

  -- a sound type with new numbers is sound over as many structs as these are below
  pub retyped_sound : (t : Ty) → Stays t
  retyped_sound = ind-Ty Stays (λ x y is. subst (λ z. Stays (roll-Ty z)) is (layer_stays y))

  pub retyped_members_sound : (members : List Member) → AllByRecursion (λ (member : Member). IsSound count member.ty) members
      → AllByRecursion (λ (member : Member). IsSound bound member.ty) (map (retyped_member numbers) members)
  retyped_members_sound [] all = tt
  retyped_members_sound (member ∷ members) all = (retyped_sound member.ty all.0, retyped_members_sound members all.1)

-- ---- numbers that are the same for the structs that a type names

module _ (a b : List ℕ) (count : ℕ) (alike : (k : ℕ) → k < count → new_number a k ≡ new_number b k) where
  abbrev Keeps : Ty → Type 0
  Keeps t = IsSound count t → retyped a t ≡ retyped b t

  layer_keeps : (y : Ty-F ((t : Ty) × Keeps t)) → Keeps (roll-Ty (map-Ty _ _ (λ e. e.0) y))
  layer_keeps Ty-F.Void s = fold-roll-Ty Ty (retyped_layer a) Ty-F.Void ∙ sym (fold-roll-Ty Ty (retyped_layer b) Ty-F.Void)
  layer_keeps (Ty-F.One x) s = fold-roll-Ty Ty (retyped_layer a) (Ty-F.One x) ∙ sym (fold-roll-Ty Ty (retyped_layer b) (Ty-F.One x))
  layer_keeps (Ty-F.Vector x n) s = fold-roll-Ty Ty (retyped_layer a) (Ty-F.Vector x n) ∙ sym (fold-roll-Ty Ty (retyped_layer b) (Ty-F.Vector x n))
  layer_keeps (Ty-F.Array e n) s =
      let is : IsTrue ((nat_le 1 n && nat_lt n (2 ^ 32)) && sound count e.0) = sym (fold-roll-Ty Bool (sound_kind count) (Ty-F.Array e.0 n)) ∙ s in
      fold-roll-Ty Ty (retyped_layer a) (Ty-F.Array e.0 n) ∙ ap (λ t. ty.Array t n) (e.1 (and_parts _ _ is).1) ∙ sym (fold-roll-Ty Ty (retyped_layer b) (Ty-F.Array e.0 n))
  layer_keeps (Ty-F.Runtime e) s =
      fold-roll-Ty Ty (retyped_layer a) (Ty-F.Runtime e.0) ∙ ap ty.Runtime (e.1 (sym (fold-roll-Ty Bool (sound_kind count) (Ty-F.Runtime e.0)) ∙ s))
      ∙ sym (fold-roll-Ty Ty (retyped_layer b) (Ty-F.Runtime e.0))
  layer_keeps (Ty-F.Struct k) s =
      let below = ltb-true k count (sym (fold-roll-Ty Bool (sound_kind count) (Ty-F.Struct k)) ∙ s) in
      fold-roll-Ty Ty (retyped_layer a) (Ty-F.Struct k) ∙ ap ty.Struct (alike k below) ∙ sym (fold-roll-Ty Ty (retyped_layer b) (Ty-F.Struct k))

  pub retyped_alike : (t : Ty) → Keeps t
  retyped_alike = ind-Ty Keeps (λ x y is. subst (λ z. Keeps (roll-Ty z)) is (layer_keeps y))

  abbrev with_type : List ℕ → Ty → Member
  with_type name t = record { name = name; ty = t }

  pub retyped_members_alike : (members : List Member) → AllByRecursion (λ (member : Member). IsSound count member.ty) members
      → map (retyped_member a) members ≡ map (retyped_member b) members
  retyped_members_alike [] all = refl
  retyped_members_alike (member ∷ members) all = ap (λ t. with_type member.name t ∷ map (retyped_member a) members) (retyped_alike member.ty all.0)
      ∙ ap (λ ms. retyped_member b member ∷ ms) (retyped_members_alike members all.1)

-- ---- plain types stay so

module _ (numbers : List ℕ) where
  abbrev AsPlain : Ty → Type 0
  AsPlain t = is_plain (retyped numbers t) ≡ is_plain t

  as_judged : (x : Ty-F Ty) → is_plain (retyped numbers (roll-Ty x)) ≡ is_plain (retyped_layer numbers (map-Ty _ _ (retyped numbers) x))
  as_judged x = ap is_plain (fold-roll-Ty Ty (retyped_layer numbers) x)

  layer_plain : (y : Ty-F ((t : Ty) × AsPlain t)) → AsPlain (roll-Ty (map-Ty _ _ (λ e. e.0) y))
  layer_plain Ty-F.Void = as_judged Ty-F.Void ∙ at.at-Void Bool is_plain_kind ∙ sym (fold-roll-Ty Bool is_plain_kind Ty-F.Void)
  layer_plain (Ty-F.One x) = as_judged (Ty-F.One x) ∙ at.at-One Bool is_plain_kind x ∙ sym (fold-roll-Ty Bool is_plain_kind (Ty-F.One x))
  layer_plain (Ty-F.Vector x n) = as_judged (Ty-F.Vector x n) ∙ at.at-Vector Bool is_plain_kind x n ∙ sym (fold-roll-Ty Bool is_plain_kind (Ty-F.Vector x n))
  layer_plain (Ty-F.Array e n) = as_judged (Ty-F.Array e.0 n) ∙ at.at-Array Bool is_plain_kind (retyped numbers e.0) n ∙ e.1 ∙ sym (fold-roll-Ty Bool is_plain_kind (Ty-F.Array e.0 n))
  layer_plain (Ty-F.Runtime e) = as_judged (Ty-F.Runtime e.0) ∙ at.at-Runtime Bool is_plain_kind (retyped numbers e.0) ∙ sym (fold-roll-Ty Bool is_plain_kind (Ty-F.Runtime e.0))
  layer_plain (Ty-F.Struct k) = as_judged (Ty-F.Struct k) ∙ at.at-Struct Bool is_plain_kind _ ∙ sym (fold-roll-Ty Bool is_plain_kind (Ty-F.Struct k))

  pub plain_stays : (t : Ty) → AsPlain t
  plain_stays = ind-Ty AsPlain (λ x y is. subst (λ z. AsPlain (roll-Ty z)) is (layer_plain y))
