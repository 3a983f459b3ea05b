-- An index that is a literal is one of those that there are.
use Rattle.std.proofs.Common.{◌≡◌, ℕ, ◌<◌, true, [], ◌∷◌, Some, None, sym, ap, ◌∙◌, subst}
use Rattle.std.proofs.lemmas.Bool.{ltb-true}
use Rattle.gsl_types.specs.declared.ty.Ty.{Ty}
use Rattle.gsl_types.specs.declared.ty.Ty.TheOpen.{Ty-F}
use Rattle.gsl_types.specs.declared.ty.Ty.TheViews.{out-Ty}
use Rattle.gsl_values.specs.declared.value.Value.{Value}
use Rattle.gsl_tree.specs.Around.{Around, consts_of}
use Rattle.gsl_tree.specs.Constants.{constant_of, gives, kind_gives, kind_standing, known_as, known_by}
use Rattle.gsl_tree.specs.Expressions.{element_kind, element_of, in_range_by, is_in_range, is_in_range_kind}
use Rattle.gsl_tree.specs.Shapes.{Shape, shape_kind}
use Rattle.gsl_tree.specs.Trees.{form_of, type_of}
use Rattle.gsl_tree.specs.Values.{word_in}
use Rattle.gsl_tree.specs.declared.expr.Expr.{Expr}
use Rattle.gsl_tree.specs.declared.expr.ExprKind.TheOpen.{ExprKind-F}
use Rattle.gsl_tree.specs.declared.expr.ExprKind.TheVariants as kind
use Rattle.gsl_tree.specs.declared.expr.ExprKind.TheViews.{out-Expr, roll-ExprKind, roll-out-ExprKind}
use Rattle.gsl_tree.specs.declared.folded.Folded.TheVariants as folded
use Rattle.gsl_tree.proofs.Steps.{gives-Const, gives_opens, standing-Const, standing_opens}
use Rattle.gsl_lower_places.specs.declared.reached.Part.TheVariants.{Fixed}
use Rattle.gsl_lower_traits.specs.Traits.{literal_by}
use Rattle.gsl_fitting_led.proofs.Indexes.{InRange, fixed_number}
use Rattle.gsl_fitting_valued.proofs.OfFittingKnown.{some_is}

-- the word of a literal
pub literal_word : (layer : Ty-F Ty) (v : Value) (number : ℕ) → literal_by layer v ≡ Some number → word_in v ≡ number
literal_word (Ty-F.One s) v number e = some_is (word_in v) number e
literal_word Ty-F.Void v number e = absurd (let z : None ≡ Some number = e in cc)
literal_word (Ty-F.Vector s n) v number e = absurd (let z : None ≡ Some number = e in cc)
literal_word (Ty-F.Array a n) v number e = absurd (let z : None ≡ Some number = e in cc)
literal_word (Ty-F.Runtime a) v number e = absurd (let z : None ≡ Some number = e in cc)
literal_word (Ty-F.Struct k) v number e = absurd (let z : None ≡ Some number = e in cc)

pub literal_in_range : (around : Around) (a i : Expr) (t : Ty) (v : Value) → form_of i ≡ ExprKind-F.Const v → element_of (type_of a) ≡ Some t → is_in_range around a i ≡ true → InRange (type_of a) (Fixed (word_in v))
unfolding constant_of
literal_in_range around a i t v form element range = record {
  vector = λ shape shaped. by (out-Ty (type_of a)) shape element shaped there;
  array = λ inner n number layer same. subst (λ x. x < n) (ap fixed_number same) (ltb-true (word_in v) n (ap (λ of. is_in_range_kind of (out-Ty (type_of i)) (word_in v)) (sym layer) ∙ there));
}
  where
    kind_is : (out-Expr i).kind ≡ kind.Const v
    kind_is = sym (roll-out-ExprKind (out-Expr i).kind) ∙ ap roll-ExprKind form ∙ kind.rolls-Const v

    constant : constant_of (consts_of around.globals) i ≡ folded.Known v
    constant =
        ap (λ s. known_as s (gives (consts_of around.globals) i (0 ∷ []))) (standing_opens (consts_of around.globals) i ∙ ap (kind_standing (consts_of around.globals)) kind_is ∙ standing-Const (consts_of around.globals) v)
        ∙ ap known_by (gives_opens (consts_of around.globals) i (0 ∷ []) ∙ ap (λ k. kind_gives (consts_of around.globals) k (type_of i) (0 ∷ [])) kind_is ∙ gives-Const (consts_of around.globals) v (type_of i) (0 ∷ []))

    there : is_in_range_kind (out-Ty (type_of a)) (out-Ty (type_of i)) (word_in v) ≡ true
    there = ap (λ c. in_range_by c (type_of a) (type_of i)) (sym constant) ∙ range

    by : (layer : Ty-F Ty) (shape : Shape) → element_kind layer ≡ Some t → shape_kind layer ≡ Some shape → is_in_range_kind layer (out-Ty (type_of i)) (word_in v) ≡ true → word_in v < shape.1
    by (Ty-F.Vector s n) shape of is below = subst (λ (x : Shape). word_in v < x.1) (some_is (s, n) shape is) (ltb-true (word_in v) n below)
    by (Ty-F.One s) shape of is below = absurd (let z : None ≡ Some t = of in cc)
    by Ty-F.Void shape of is below = absurd (let z : None ≡ Some shape = is in cc)
    by (Ty-F.Array x n) shape of is below = absurd (let z : None ≡ Some shape = is in cc)
    by (Ty-F.Runtime x) shape of is below = absurd (let z : None ≡ Some shape = is in cc)
    by (Ty-F.Struct x) shape of is below = absurd (let z : None ≡ Some shape = is in cc)
