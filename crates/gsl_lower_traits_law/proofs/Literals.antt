-- What is known for a literal is a constant, and so is an index that is in range.
use Rattle.std.proofs.Common.{◌≡◌, sym, ap, ◌∙◌, ◌<◌, true, false, [], ◌∷◌, Some}
use Rattle.std.proofs.lemmas.Bool.{ltb-true}
use Rattle.gsl_types.specs.declared.ty.Ty.{Ty}
use Rattle.gsl_types.specs.declared.ty.Ty.TheOpen.{Ty-F}
use Rattle.gsl_types.specs.declared.ty.Ty.TheViews.{out-Ty}
use Rattle.gsl_values.specs.declared.value.Value.{Value}
use Rattle.gsl_tree.specs.Around.{Around, consts_of}
use Rattle.gsl_tree.specs.Constants.{constant_of, gives, kind_gives, kind_standing, known_as, known_by}
use Rattle.gsl_tree.specs.Expressions.{element_kind, element_of, in_range_by, is_in_range, is_in_range_kind}
use Rattle.gsl_tree.specs.Operations.{has_fixed_length, is_fixed_kind, length_kind, length_of}
use Rattle.gsl_tree.specs.Trees.{form_of, type_of}
use Rattle.gsl_tree.specs.Values.{word_in}
use Rattle.gsl_tree.specs.declared.expr.Expr.{Expr}
use Rattle.gsl_tree.specs.declared.expr.ExprKind.TheOpen.{ExprKind-F}
use Rattle.gsl_tree.specs.declared.expr.ExprKind.TheVariants as kind
use Rattle.gsl_tree.specs.declared.expr.ExprKind.TheViews.{out-Expr, roll-ExprKind, roll-out-ExprKind}
use Rattle.gsl_tree.specs.declared.folded.Folded.TheVariants as folded
use Rattle.gsl_tree.proofs.Steps.{gives-Const, gives_opens, standing-Const, standing_opens}

-- an index that is known is in range, where the type tells a length
pub literal_below : (around : Around) (a i : Expr) (t : Ty) (v : Value) → form_of i ≡ ExprKind-F.Const v → element_of (type_of a) ≡ Some t → has_fixed_length (type_of a) ≡ true → is_in_range around a i ≡ true → word_in v < length_of (type_of a)
unfolding constant_of
literal_below around a i t v form element fixed range = by (out-Ty (type_of a)) element fixed (ap (λ c. in_range_by c (type_of a) (type_of i)) (sym constant) ∙ range)
  where
    kind_is : (out-Expr i).kind ≡ kind.Const v
    kind_is = sym (roll-out-ExprKind (out-Expr i).kind) ∙ ap roll-ExprKind form ∙ kind.rolls-Const v

    constant : constant_of (consts_of around.globals) i ≡ folded.Known v
    constant =
        ap (λ s. known_as s (gives (consts_of around.globals) i (0 ∷ []))) (standing_opens (consts_of around.globals) i ∙ ap (kind_standing (consts_of around.globals)) kind_is ∙ standing-Const (consts_of around.globals) v)
        ∙ ap known_by (gives_opens (consts_of around.globals) i (0 ∷ []) ∙ ap (λ k. kind_gives (consts_of around.globals) k (type_of i) (0 ∷ [])) kind_is ∙ gives-Const (consts_of around.globals) v (type_of i) (0 ∷ []))

    by : (layer : Ty-F Ty) → element_kind layer ≡ Some t → is_fixed_kind layer ≡ true → is_in_range_kind layer (out-Ty (type_of i)) (word_in v) ≡ true → word_in v < length_kind layer
    by (Ty-F.Vector s n) element fixed is = ltb-true (word_in v) n is
    by (Ty-F.Array a n) element fixed is = ltb-true (word_in v) n is
    by (Ty-F.Runtime a) element fixed is = absurd (let z : false ≡ true = fixed in cc)
    by Ty-F.Void element fixed is = absurd cc
    by (Ty-F.One s) element fixed is = absurd cc
    by (Ty-F.Struct k) element fixed is = absurd cc
