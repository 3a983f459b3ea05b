-- Scalars and vectors by their shapes.
use Rattle.std.proofs.Common.{◌≡◌, ◌≢◌, refl, sym, ap, ◌∙◌, inl, inr, ◌⊎◌, ℕ, ◌<◌, ◌≤◌, Bool, true, false, Some, None, if◌then◌else◌, arith}
use Rattle.std.specs.Prelude.{nat_eq, Option}
use Rattle.std.proofs.lemmas.Bool.{cases_lt, eqb-true}
use Rattle.gsl_types.specs.declared.ty.Scalar.{Scalar}
use Rattle.gsl_types.specs.declared.ty.Ty.{Ty}
use Rattle.gsl_types.specs.declared.ty.Ty.TheVariants as ty
use Rattle.gsl_types.specs.declared.ty.Ty.TheVariants.{outs-One, outs-Struct, outs-Vector}
use Rattle.gsl_tree.specs.Expressions.{element_kind, element_of}
use Rattle.gsl_tree.specs.Operations.{length_kind, length_of}
use Rattle.gsl_tree.specs.Shapes.{Shape, of_shape, shape_kind, shape_of}
use Rattle.gsl_typed_law.proofs.Components.{some_same}

pub shape_back : (s : Scalar) (n : ℕ) → shape_of (of_shape (s, n)) ≡ Some (s, n)
shape_back s n = by (nat_eq n 1) refl
  where
    by : (b : Bool) → nat_eq n 1 ≡ b → shape_of (if b then ty.One s else ty.Vector s n) ≡ Some (s, n)
    by true e = ap shape_kind (outs-One s) ∙ ap (λ k. Some (s, k)) (sym (eqb-true n 1 e))
    by false e = ap shape_kind (outs-Vector s n)

pub no_shape : (s : Scalar) (n k : ℕ) → of_shape (s, n) ≡ ty.Struct k → ⊥
no_shape s n k e = absurd (let z : ◌≡◌ {A = Option Shape} (Some (s, n)) None = sym (shape_back s n) ∙ ap shape_of e ∙ ap shape_kind (outs-Struct k) in cc)

-- what has components is a vector
pub component_of : (s : Scalar) (n : ℕ) (t : Ty) → element_of (of_shape (s, n)) ≡ Some t → (ty.One s ≡ t) × (length_of (of_shape (s, n)) ≡ n) × (n ≢ 1)
component_of s n t = by (nat_eq n 1) refl
  where
    by : (b : Bool) → nat_eq n 1 ≡ b → element_of (if b then ty.One s else ty.Vector s n) ≡ Some t → (ty.One s ≡ t) × (length_of (if b then ty.One s else ty.Vector s n) ≡ n) × (n ≢ 1)
    by true is e = absurd (let z : None ≡ Some t = sym (ap element_kind (outs-One s)) ∙ e in cc)
    by false is e = (some_same (sym (ap element_kind (outs-Vector s n)) ∙ e), ap length_kind (outs-Vector s n), λ one. absurd (let z : true ≡ false = ap (λ k. nat_eq k 1) (sym one) ∙ is in cc))

pub at_least_two : (n : ℕ) → 1 ≤ n → n ≢ 1 → 2 ≤ n
at_least_two n some not_one = by (cases_lt n 2)
  where
    by : (n < 2) ⊎ (2 ≤ n) → 2 ≤ n
    by (inl less) = absurd (not_one (omega (arith, less, some)))
    by (inr many) = many
