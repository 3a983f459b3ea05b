-- Conversions and steps keep values values of types.
use Rattle.std.proofs.Common.{[], ◌∷◌, zero, suc, ◌≡◌, refl, sym, ap, ap₂, ◌∙◌, subst, ℕ, Bool, true, ◌&&◌, List, IsTrue, length, replicate, Some}
use Rattle.std.specs.Prelude.{pos, ◌+ℤ◌, ◌-ℤ◌, nat_eq}
use Rattle.std.proofs.lemmas.Bool.{and_parts, eqb-true, false≢true}
use Rattle.gsl_types.specs.Conversions.{converts, converts_open, serves}
use Rattle.gsl_types.specs.Known.{IsSound}
use Rattle.gsl_types.specs.declared.ty.Scalar.{Scalar}
use Rattle.gsl_types.specs.declared.ty.Scalar.TheVariants.{Bool as Boolean, Int, Uint}
use Rattle.gsl_types.specs.declared.ty.StructType.{StructType}
use Rattle.gsl_types.specs.declared.ty.Ty.{Ty}
use Rattle.gsl_types.specs.declared.ty.Ty.TheOpen.{Ty-F}
use Rattle.gsl_types.specs.declared.ty.Ty.TheVariants.{rolls-One, rolls-Vector}
use Rattle.gsl_types.specs.declared.ty.Ty.TheViews.{out-Ty, roll-Ty, roll-out-Ty}
use Rattle.gsl_values.specs.declared.value.Value.{Value}
use Rattle.gsl_values.specs.declared.value.Value.TheOpen.{Value-F}
use Rattle.gsl_values.specs.declared.value.Value.TheViews.{out-Value}
use Rattle.gsl_tree.specs.declared.expr.StepOp.{StepOp}
use Rattle.gsl_tree.specs.declared.expr.StepOp.TheVariants.{PreUp, PreDown, PostUp, PostDown}
use Rattle.gsl_tree.specs.Operations.{step_value, step_word}
use Rattle.gsl_tree.specs.Shapes.{Shape, is_integer, shape_of}
use Rattle.gsl_tree.specs.Values.{all_pass, components_in, has_parts, has_parts_layer, is_scalar, is_scalar_layer, is_value_of, is_word_of}
use Rattle.gsl_tree.proofs.Nodes.{value_of_one, value_of_vector}
use Rattle.gsl_typed_law.proofs.Bounds.{integer_fits, word_of_below}
use Rattle.gsl_typed_law.proofs.Components.{components_fill, filled_typed, shape_again}
use Rattle.gsl_typed_law.proofs.Operators.{mapped}

-- ---- conversions

words_same : (from to : Scalar) → serves from to ≡ true → (word : ℕ) → is_word_of from word ≡ is_word_of to word
words_same Boolean Boolean is word = refl
words_same Int Int is word = refl
words_same Int Uint is word = refl
words_same Uint Uint is word = refl
words_same _ _ is word = absurd (false≢true is)

scalars_same : (from to : Scalar) → serves from to ≡ true → (v : Value) → is_scalar from v ≡ is_scalar to v
scalars_same from to is v = by (out-Value v)
  where
    by : (layer : Value-F Value) → is_scalar_layer from layer ≡ is_scalar_layer to layer
    by (Value-F.Word word) = words_same from to is word
    by (Value-F.Many parts) = refl

all_same : (f g : Value → Bool) → ((v : Value) → f v ≡ g v) → (n : ℕ) (vs : List Value) → all_pass (replicate n f) vs ≡ all_pass (replicate n g) vs
all_same f g same zero [] = refl
all_same f g same zero (v ∷ vs) = refl
all_same f g same (suc n) [] = refl
all_same f g same (suc n) (v ∷ vs) = ap₂ (λ a b. a && b) (same v) (all_same f g same n vs)

parts_same : (f g : Value → Bool) → ((v : Value) → f v ≡ g v) → (n : ℕ) (v : Value) → has_parts (replicate n f) v ≡ has_parts (replicate n g) v
parts_same f g same n v = by (out-Value v)
  where
    by : (layer : Value-F Value) → has_parts_layer (replicate n f) layer ≡ has_parts_layer (replicate n g) layer
    by (Value-F.Word word) = refl
    by (Value-F.Many parts) = all_same f g same n parts

-- a value of a type is one of the type to which it converts, and back
pub converted_same : (structs : List StructType) (from to : Ty) (v : Value) → IsTrue (converts from to) → is_value_of structs from v ≡ is_value_of structs to v
converted_same structs from to v is = by (out-Ty from) (out-Ty to) (roll-out-Ty from) (roll-out-Ty to) is
  where
    by : (x y : Ty-F Ty) → roll-Ty x ≡ from → roll-Ty y ≡ to → converts_open x y ≡ true → is_value_of structs from v ≡ is_value_of structs to v
    by (Ty-F.One s) (Ty-F.One t) e f same =
        ap (λ u. is_value_of structs u v) (sym e ∙ rolls-One s) ∙ value_of_one structs s v ∙ scalars_same s t same v ∙ sym (value_of_one structs t v) ∙ ap (λ u. is_value_of structs u v) (sym (rolls-One t) ∙ f)
    by (Ty-F.Vector s n) (Ty-F.Vector t m) e f same =
        let both = and_parts (nat_eq n m) (serves s t) same in
        ap (λ u. is_value_of structs u v) (sym e ∙ rolls-Vector s n) ∙ value_of_vector structs s n v ∙ parts_same (is_scalar s) (is_scalar t) (scalars_same s t both.1) n v
        ∙ ap (λ k. has_parts (replicate k (is_scalar t)) v) (eqb-true n m both.0) ∙ sym (value_of_vector structs t m v) ∙ ap (λ u. is_value_of structs u v) (sym (rolls-Vector t m) ∙ f)
    by _ _ e f same = absurd (false≢true same)

-- ---- steps

step_below : (op : StepOp) (s : Scalar) (word : ℕ) → is_integer s ≡ true → is_word_of s (step_word op word) ≡ true
step_below PreUp s word is = integer_fits s (step_word PreUp word) is (word_of_below (pos word +ℤ pos 1))
step_below PreDown s word is = integer_fits s (step_word PreDown word) is (word_of_below (pos word -ℤ pos 1))
step_below PostUp s word is = integer_fits s (step_word PostUp word) is (word_of_below (pos word +ℤ pos 1))
step_below PostDown s word is = integer_fits s (step_word PostDown word) is (word_of_below (pos word -ℤ pos 1))

-- what `++` and `--` make of a value of a type is one of the type
pub step_typed : (structs : List StructType) (op : StepOp) (t : Ty) (shape : Shape) (v : Value) → IsSound (length structs) t → shape_of t ≡ Some shape → IsTrue (is_integer shape.0) → is_value_of structs t v ≡ true → is_value_of structs t (step_value op v) ≡ true
step_typed structs op t shape v sound is integer fits =
    subst (λ u. is_value_of structs u (step_value op v) ≡ true) (shape_again (length structs) t shape sound is)
    (filled_typed structs shape.0 shape.1 _ (mapped (step_word op) shape.0 shape.1 (components_in v) (λ word. step_below op shape.0 word integer) (components_fill structs t shape v is fits).0))
