-- What puts each kind of type of values.
use Rattle.std.proofs.Common.{◌≡◌, sym, ap, subst, ◌∙◌, ℕ}
use Rattle.gsl_types.specs.declared.ty.Scalar.{Scalar}
use Rattle.gsl_types.specs.declared.ty.Ty.{Ty}
use Rattle.gsl_types.specs.declared.ty.Ty.TheFolds.{fold-Ty, fold-roll-Ty, ind-Ty, map-Ty}
use Rattle.gsl_types.specs.declared.ty.Ty.TheOpen.{Ty-F}
use Rattle.gsl_types.specs.declared.ty.Ty.TheViews.{roll-Ty}
use Rattle.gsl_types.specs.declared.ty.Ty.TheVariants as ty
use Rattle.gsl_types.specs.declared.ty.Ty.TheVariants.{rolls-Array, rolls-Runtime, rolls-Struct, rolls-Vector, rolls-One, rolls-Void}
use Rattle.gsl_spv.specs.Calls as call
use Rattle.gsl_spv.specs.Sections.{Sections}
use Rattle.gsl_spv.specs.declared.plain.PlainType.TheVariants as plain
use Rattle.gsl_lower_values.specs.Building.{id_by}
use Rattle.gsl_lower_values.specs.Types.{scalar_type, type_of}
use Rattle.gsl_lower_types.specs.Known.{Known, aside, known_type, once}
use Rattle.gsl_lower_types.specs.Values.{Typing, arrayed, value_layer, value_type}

abbrev typing : Ty → Typing
typing = fold-Ty Typing value_layer

-- ---- a type beside what puts it is that type

abbrev Same : Ty → Type 0
Same t = (typing t).0 ≡ t

by_layer : (y : Ty-F ((t : Ty) × Same t)) → Same (roll-Ty (map-Ty _ _ (λ e. e.0) y))
by_layer Ty-F.Void = ap (λ (r : Typing). r.0) (fold-roll-Ty Typing value_layer Ty-F.Void) ∙ sym rolls-Void
by_layer (Ty-F.One s) = ap (λ (r : Typing). r.0) (fold-roll-Ty Typing value_layer (Ty-F.One s)) ∙ sym (rolls-One s)
by_layer (Ty-F.Vector s n) = ap (λ (r : Typing). r.0) (fold-roll-Ty Typing value_layer (Ty-F.Vector s n)) ∙ sym (rolls-Vector s n)
by_layer (Ty-F.Array e n) = ap (λ (r : Typing). r.0) (fold-roll-Ty Typing value_layer (Ty-F.Array e.0 n)) ∙ ap (λ t. ty.Array t n) e.1 ∙ sym (rolls-Array e.0 n)
by_layer (Ty-F.Runtime e) = ap (λ (r : Typing). r.0) (fold-roll-Ty Typing value_layer (Ty-F.Runtime e.0)) ∙ ap ty.Runtime e.1 ∙ sym (rolls-Runtime e.0)
by_layer (Ty-F.Struct k) = ap (λ (r : Typing). r.0) (fold-roll-Ty Typing value_layer (Ty-F.Struct k)) ∙ sym (rolls-Struct k)

same : (t : Ty) → Same t
same = ind-Ty Same (λ x y is. subst (λ z. Same (roll-Ty z)) is (by_layer y))

-- ---- each kind

module _ (known : Known) (s : Sections) where
  pub value-Void : value_type ty.Void known s ≡ aside (id_by (call.plain_type plain.Void)) known s
  unfolding value_type
  value-Void = ap (λ (r : Typing). r.1 known s) (ap typing (sym rolls-Void) ∙ fold-roll-Ty Typing value_layer Ty-F.Void)

  pub value-One : (x : Scalar) → value_type (ty.One x) known s ≡ aside (scalar_type x) known s
  unfolding value_type
  value-One x = ap (λ (r : Typing). r.1 known s) (ap typing (sym (rolls-One x)) ∙ fold-roll-Ty Typing value_layer (Ty-F.One x))

  pub value-Vector : (x : Scalar) (n : ℕ) → value_type (ty.Vector x n) known s ≡ aside (type_of (x, n)) known s
  unfolding value_type
  value-Vector x n = ap (λ (r : Typing). r.1 known s) (ap typing (sym (rolls-Vector x n)) ∙ fold-roll-Ty Typing value_layer (Ty-F.Vector x n))

  pub value-Array : (e : Ty) (n : ℕ) → value_type (ty.Array e n) known s ≡ once (ty.Array e n) (arrayed (value_type e) n) known s
  unfolding value_type
  value-Array e n =
      ap (λ (r : Typing). r.1 known s) (ap typing (sym (rolls-Array e n)) ∙ fold-roll-Ty Typing value_layer (Ty-F.Array e n))
      ∙ ap (λ t. once (ty.Array t n) (arrayed (typing e).1 n) known s) (same e)

  pub value-Runtime : (e : Ty) → value_type (ty.Runtime e) known s ≡ value_type e known s
  unfolding value_type
  value-Runtime e = ap (λ (r : Typing). r.1 known s) (ap typing (sym (rolls-Runtime e)) ∙ fold-roll-Ty Typing value_layer (Ty-F.Runtime e))

  pub value-Struct : (k : ℕ) → value_type (ty.Struct k) known s ≡ known_type (ty.Struct k) known s
  unfolding value_type
  value-Struct k = ap (λ (r : Typing). r.1 known s) (ap typing (sym (rolls-Struct k)) ∙ fold-roll-Ty Typing value_layer (Ty-F.Struct k))

pub ruleset value_step = (value-Void, value-One, value-Vector, value-Array, value-Runtime, value-Struct)
