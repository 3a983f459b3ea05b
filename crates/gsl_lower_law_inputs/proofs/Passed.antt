-- The types of inputs and outputs.
use Rattle.std.proofs.Common.{◌≡◌, sym, ap, ◌∙◌, subst, ℕ, zero, suc, Bool, IsTrue, List, [], ◌∷◌, slice_get, Some}
use Rattle.std.specs.List.{AllByRecursion}
use Rattle.gsl_types.specs.Conversions.{components, components_open}
use Rattle.gsl_types.specs.declared.ty.Ty.{Ty}
use Rattle.gsl_types.specs.declared.ty.Ty.TheFolds.{fold-roll-Ty}
use Rattle.gsl_types.specs.declared.ty.Ty.TheOpen.{Ty-F}
use Rattle.gsl_types.specs.declared.ty.Ty.TheViews.{out-Ty, roll-Ty, roll-out-Ty}
use Rattle.gsl_tree.specs.Shapes.{Shape, shape_kind, shape_of}
use Rattle.gsl_types.specs.Known.{is_plain, is_plain_kind}

-- what holds of each item of a list holds of the one at a number
pub at_number : {A : Type 0} (P : A → Type 0) (items : List A) (number : ℕ) (a : A) → AllByRecursion P items → slice_get items number ≡ Some a → P a
at_number P [] zero a all at = absurd (cc)
at_number P [] (suc number) a all at = absurd (cc)
at_number P (b ∷ items) zero a all at = let same : b ≡ a = cc in subst P same all.0
at_number P (b ∷ items) (suc number) a all at = at_number P items number a all.1 at

-- what has a shape has as many components
pub components_are : (t : Ty) (shape : Shape) → shape_of t ≡ Some shape → components t ≡ shape.1
components_are t shape is = by (out-Ty t) is
  where
    size : (a b : Shape) → Some a ≡ Some b → a.1 ≡ b.1
    size a b is = let same : a ≡ b = cc in ap (λ (z : Shape). z.1) same

    by : (layer : Ty-F Ty) → shape_kind layer ≡ Some shape → components_open layer ≡ shape.1
    by Ty-F.Void is = absurd (cc)
    by (Ty-F.One s) is = size (s, 1) shape is
    by (Ty-F.Vector s n) is = size (s, n) shape is
    by (Ty-F.Array element n) is = absurd (cc)
    by (Ty-F.Runtime element) is = absurd (cc)
    by (Ty-F.Struct k) is = absurd (cc)

-- and is the type of a variable
pub shape_plain : (t : Ty) (shape : Shape) → shape_of t ≡ Some shape → IsTrue (is_plain t)
shape_plain t shape is = by (out-Ty t) (roll-out-Ty t) is
  where
    by : (layer : Ty-F Ty) → roll-Ty layer ≡ t → shape_kind layer ≡ Some shape → IsTrue (is_plain t)
    by Ty-F.Void e is = absurd (cc)
    by (Ty-F.One s) e is = ap is_plain (sym e) ∙ fold-roll-Ty Bool is_plain_kind (Ty-F.One s)
    by (Ty-F.Vector s n) e is = ap is_plain (sym e) ∙ fold-roll-Ty Bool is_plain_kind (Ty-F.Vector s n)
    by (Ty-F.Array element n) e is = absurd (cc)
    by (Ty-F.Runtime element) e is = absurd (cc)
    by (Ty-F.Struct k) e is = absurd (cc)
