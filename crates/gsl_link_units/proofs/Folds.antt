-- What the folds over types and values are, kind by kind.
use Rattle.std.proofs.Common.{◌≡◌, sym, ap, ◌∙◌, ℕ, Bool, List, map}
use Rattle.gsl_types.specs.declared.ty.Scalar.{Scalar}
use Rattle.gsl_types.specs.declared.ty.Ty.{Ty}
use Rattle.gsl_types.specs.declared.ty.Ty.TheOpen.{Ty-F}
use Rattle.gsl_types.specs.declared.ty.Ty.TheFolds.{fold-Ty, fold-roll-Ty}
use Rattle.gsl_types.specs.declared.ty.Ty.TheViews.{out-Ty}
use Rattle.gsl_types.specs.declared.ty.Ty.TheVariants as ty
use Rattle.gsl_types.specs.declared.ty.Ty.TheVariants.{rolls-Void, rolls-One, rolls-Vector, rolls-Array, rolls-Runtime, rolls-Struct}
use Rattle.gsl_values.specs.declared.value.Value.{Value}
use Rattle.gsl_values.specs.declared.value.Value.TheOpen.{Value-F}
use Rattle.gsl_values.specs.declared.value.Value.TheFolds.{fold-Value, fold-roll-Value}
use Rattle.gsl_values.specs.declared.value.Value.TheViews.{out-Value}
use Rattle.gsl_values.specs.declared.value.Value.TheVariants.{Word, Many, rolls-Word, rolls-Many}
use Rattle.gsl_base.specs.declared.fault.Place.{Place}
use Rattle.gsl_tree.specs.declared.expr.ExprKind.{ExprKind}
use Rattle.gsl_tree.specs.declared.expr.ExprKind.TheOpen.{ExprKind-F, Expr-F}
use Rattle.gsl_tree.specs.declared.expr.ExprKind.TheFolds.{fold-Expr, fold-ExprKind, fold-roll-Expr}
use Rattle.gsl_tree.specs.Trees.{typed}
use Rattle.gsl_tree.specs.Values.{same_value, same_value_layer}
use Rattle.gsl_link_units.specs.Types.{same_layer, same_type}

-- ---- any fold over types

module _ (A : Type 0) (step : Ty-F A → A) where
  abbrev into : Ty → A
  into = fold-Ty A step

  pub at-Void : fold-Ty A step ty.Void ≡ step Ty-F.Void
  at-Void = ap into (sym rolls-Void) ∙ fold-roll-Ty A step Ty-F.Void

  pub at-One : (s : Scalar) → fold-Ty A step (ty.One s) ≡ step (Ty-F.One s)
  at-One s = ap into (sym (rolls-One s)) ∙ fold-roll-Ty A step (Ty-F.One s)

  pub at-Vector : (s : Scalar) (n : ℕ) → fold-Ty A step (ty.Vector s n) ≡ step (Ty-F.Vector s n)
  at-Vector s n = ap into (sym (rolls-Vector s n)) ∙ fold-roll-Ty A step (Ty-F.Vector s n)

  pub at-Array : (e : Ty) (n : ℕ) → fold-Ty A step (ty.Array e n) ≡ step (Ty-F.Array (into e) n)
  at-Array e n = ap into (sym (rolls-Array e n)) ∙ fold-roll-Ty A step (Ty-F.Array e n)

  pub at-Runtime : (e : Ty) → fold-Ty A step (ty.Runtime e) ≡ step (Ty-F.Runtime (into e))
  at-Runtime e = ap into (sym (rolls-Runtime e)) ∙ fold-roll-Ty A step (Ty-F.Runtime e)

  pub at-Struct : (k : ℕ) → fold-Ty A step (ty.Struct k) ≡ step (Ty-F.Struct k)
  at-Struct k = ap into (sym (rolls-Struct k)) ∙ fold-roll-Ty A step (Ty-F.Struct k)

pub ruleset type_folds = (at-Void, at-One, at-Vector, at-Array, at-Runtime, at-Struct)

-- ---- whether two types are one

abbrev test : Ty-F (Ty → Bool) → Ty → Bool
test layer other = same_layer layer (out-Ty other)

abbrev on : Ty → (Ty → Bool) → Bool
on other passes = passes other

pub same-Void : (other : Ty) → same_type ty.Void other ≡ same_layer Ty-F.Void (out-Ty other)
same-Void other = ap (on other) (at-Void (Ty → Bool) test)

pub same-One : (s : Scalar) (other : Ty) → same_type (ty.One s) other ≡ same_layer (Ty-F.One s) (out-Ty other)
same-One s other = ap (on other) (at-One (Ty → Bool) test s)

pub same-Vector : (s : Scalar) (n : ℕ) (other : Ty) → same_type (ty.Vector s n) other ≡ same_layer (Ty-F.Vector s n) (out-Ty other)
same-Vector s n other = ap (on other) (at-Vector (Ty → Bool) test s n)

pub same-Array : (e : Ty) (n : ℕ) (other : Ty) → same_type (ty.Array e n) other ≡ same_layer (Ty-F.Array (same_type e) n) (out-Ty other)
same-Array e n other = ap (on other) (at-Array (Ty → Bool) test e n)

pub same-Runtime : (e : Ty) (other : Ty) → same_type (ty.Runtime e) other ≡ same_layer (Ty-F.Runtime (same_type e)) (out-Ty other)
same-Runtime e other = ap (on other) (at-Runtime (Ty → Bool) test e)

pub same-Struct : (k : ℕ) (other : Ty) → same_type (ty.Struct k) other ≡ same_layer (Ty-F.Struct k) (out-Ty other)
same-Struct k other = ap (on other) (at-Struct (Ty → Bool) test k)

pub ruleset same_types = (same-Void, same-One, same-Vector, same-Array, same-Runtime, same-Struct)

-- ---- whether two values are equal

abbrev value_test : Value-F (Value → Bool) → Value → Bool
value_test layer other = same_value_layer layer (out-Value other)

abbrev on_value : Value → (Value → Bool) → Bool
on_value other passes = passes other

pub same-Word : (word : ℕ) (other : Value) → same_value (Word word) other ≡ same_value_layer (Value-F.Word word) (out-Value other)
same-Word word other = ap (on_value other) (ap (fold-Value (Value → Bool) value_test) (sym (rolls-Word word)) ∙ fold-roll-Value (Value → Bool) value_test (Value-F.Word word))

pub same-Many : (parts : List Value) (other : Value) → same_value (Many parts) other ≡ same_value_layer (Value-F.Many (map same_value parts)) (out-Value other)
same-Many parts other = ap (on_value other) (ap (fold-Value (Value → Bool) value_test) (sym (rolls-Many parts)) ∙ fold-roll-Value (Value → Bool) value_test (Value-F.Many parts))

pub ruleset same_values = (same-Word, same-Many)

-- ---- any fold over expressions, by their fields

pub at-typed : (A A' : Type 0) (step : ExprKind-F A A' → A) (step' : Expr-F A A' → A') (place : Place) (t : Ty) (k : ExprKind) → fold-Expr A A' step step' (typed place t k) ≡ step' (record { ty = t; place = place; kind = fold-ExprKind A A' step step' k })
at-typed A A' step step' place t k = fold-roll-Expr A A' step step' (record { ty = t; place = place; kind = k })
