-- Meanings of types, layer by layer.
use Rattle.std.proofs.Common.{◌≡◌, sym, ap, subst, ◌∙◌, ℕ, ◌≤◌, IsTrue, arith, ◌^◌}
use Rattle.std.specs.Prelude.{Bool, ◌&&◌, nat_le, nat_lt}
use Rattle.gsl_types.specs.declared.ty.Ty.{Ty}
use Rattle.gsl_types.specs.declared.ty.Ty.TheOpen.{Ty-F}
use Rattle.gsl_types.specs.declared.ty.Ty.TheViews.{roll-Ty}
use Rattle.gsl_types.specs.declared.ty.Ty.TheVariants as ty
use Rattle.gsl_types.specs.declared.ty.Ty.TheVariants.{rolls-Array, rolls-Runtime, rolls-Struct, rolls-Vector, rolls-One, rolls-Void}
use Rattle.gsl_types.specs.declared.ty.Ty.TheFolds.{fold-roll-Ty, ind-Ty, map-Ty}
use Rattle.std.proofs.lemmas.Bool.{and_parts, and_from, ltb-true, lt-ltb}
use Rattle.gsl_types.specs.declared.ty.Scalar.{Scalar}
use Rattle.gsl_types.specs.Structs.{Meaning, layer, over}
use Rattle.gsl_types.specs.Known.{IsSound, sound, sound_kind}

module _ {A : Type 0} (m : Meaning A) (known : ℕ → A) where
  pub over_array : (e : Ty) (n : ℕ) → over m known (ty.Array e n) ≡ m.kind (Ty-F.Array (over m known e) n)
  over_array e n = ap (over m known) (sym (rolls-Array e n)) ∙ fold-roll-Ty A (layer m known) (Ty-F.Array e n)

  pub over_runtime : (e : Ty) → over m known (ty.Runtime e) ≡ m.kind (Ty-F.Runtime (over m known e))
  over_runtime e = ap (over m known) (sym (rolls-Runtime e)) ∙ fold-roll-Ty A (layer m known) (Ty-F.Runtime e)

  pub over_void : over m known ty.Void ≡ m.kind Ty-F.Void
  over_void = ap (over m known) (sym rolls-Void) ∙ fold-roll-Ty A (layer m known) Ty-F.Void

  pub over_one : (s : Scalar) → over m known (ty.One s) ≡ m.kind (Ty-F.One s)
  over_one s = ap (over m known) (sym (rolls-One s)) ∙ fold-roll-Ty A (layer m known) (Ty-F.One s)

  pub over_vector : (s : Scalar) (n : ℕ) → over m known (ty.Vector s n) ≡ m.kind (Ty-F.Vector s n)
  over_vector s n = ap (over m known) (sym (rolls-Vector s n)) ∙ fold-roll-Ty A (layer m known) (Ty-F.Vector s n)

  pub over_struct : (k : ℕ) → over m known (ty.Struct k) ≡ known k
  over_struct k = ap (over m known) (sym (rolls-Struct k)) ∙ fold-roll-Ty A (layer m known) (Ty-F.Struct k)

pub sound_array : (count : ℕ) (e : Ty) (n : ℕ) → sound count (ty.Array e n) ≡ ((nat_le 1 n && nat_lt n (2 ^ 32)) && sound count e)
sound_array count e n = ap (sound count) (sym (rolls-Array e n)) ∙ fold-roll-Ty Bool (sound_kind count) (Ty-F.Array e n)

pub sound_struct : (count : ℕ) (k : ℕ) → sound count (ty.Struct k) ≡ nat_lt k count
sound_struct count k = ap (sound count) (sym (rolls-Struct k)) ∙ fold-roll-Ty Bool (sound_kind count) (Ty-F.Struct k)

-- what is sound over some structs is so over more
module _ (few many : ℕ) (le : few ≤ many) where
  abbrev Stays : Ty → Type 0
  Stays t = IsSound few t → IsSound many t

  stays_layer : (y : Ty-F ((t : Ty) × Stays t)) → Stays (roll-Ty (map-Ty _ _ (λ e. e.0) y))
  stays_layer Ty-F.Void s = fold-roll-Ty Bool (sound_kind many) Ty-F.Void
  stays_layer (Ty-F.One x) s = fold-roll-Ty Bool (sound_kind many) (Ty-F.One x)
  stays_layer (Ty-F.Vector x n) s = fold-roll-Ty Bool (sound_kind many) (Ty-F.Vector x n) ∙ sym (fold-roll-Ty Bool (sound_kind few) (Ty-F.Vector x n)) ∙ s
  stays_layer (Ty-F.Array e n) s =
      let is : IsTrue ((nat_le 1 n && nat_lt n (2 ^ 32)) && sound few e.0) = sym (fold-roll-Ty Bool (sound_kind few) (Ty-F.Array e.0 n)) ∙ s in
      let parts = and_parts _ _ is in
      fold-roll-Ty Bool (sound_kind many) (Ty-F.Array e.0 n) ∙ and_from _ _ parts.0 (e.1 parts.1)
  stays_layer (Ty-F.Runtime e) s = fold-roll-Ty Bool (sound_kind many) (Ty-F.Runtime e.0) ∙ e.1 (sym (fold-roll-Ty Bool (sound_kind few) (Ty-F.Runtime e.0)) ∙ s)
  stays_layer (Ty-F.Struct k) s =
      let below = ltb-true k few (sym (fold-roll-Ty Bool (sound_kind few) (Ty-F.Struct k)) ∙ s) in
      fold-roll-Ty Bool (sound_kind many) (Ty-F.Struct k) ∙ lt-ltb k many (omega (arith, below, le))

  pub sound_stays : (t : Ty) → Stays t
  sound_stays = ind-Ty Stays (λ x y is. subst (λ z. Stays (roll-Ty z)) is (stays_layer y))
