-- Scalars and vectors of arguments that have as many components.
use Rattle.std.proofs.Common.{◌≡◌, refl, sym, ap, ap₂, ◌∙◌, subst, inl, inr, ℕ, zero, suc, ◌+◌, ◌≤◌, ◌⊎◌, Bool, true, false, not, ◌&&◌, ◌==◌, List, [], ◌∷◌, ◌++◌, length, map, replicate, take, arith, if◌then◌else◌}
use Rattle.std.specs.Prelude.{nat_eq, nat_lt, slice_index}
use Rattle.std.proofs.lemmas.Bool.{ltb-true}
use Rattle.std.proofs.lemmas.List.{length-append, length-replicate}
use Rattle.gsl_types.specs.Known.{AreStructs}
use Rattle.gsl_types.specs.declared.ty.Scalar.{Scalar}
use Rattle.gsl_types.specs.declared.ty.Scalar.TheVariants.{Bool as Boolean, Int, Uint}
use Rattle.gsl_types.specs.declared.ty.StructType.{StructType}
use Rattle.gsl_types.specs.declared.ty.Ty.TheVariants as ty
use Rattle.gsl_types.specs.declared.ty.Ty.TheVariants.{outs-One, outs-Vector}
use Rattle.gsl_values.specs.Word.{word_of_bool}
use Rattle.gsl_values.specs.declared.value.Value.{Value}
use Rattle.gsl_values.specs.declared.value.Value.TheVariants.{Many, Word, outs-Many, outs-Word}
use Rattle.gsl_tree.specs.Operations.{all_components, build_kind, build_value, converted, filled}
use Rattle.gsl_tree.specs.Shapes.{Shape, of_shape}
use Rattle.gsl_tree.specs.Values.{all_pass, components_in, has_parts_layer, is_scalar, is_scalar_layer, is_value_of, is_word_of}
use Rattle.gsl_tree.specs.declared.program.Program.{Program}
use Rattle.gsl_tree.proofs.Nodes.{value_of_one, value_of_vector}
use Rattle.gsl_lower_law.specs.Values.{AreWords}
use Rattle.gsl_lower_law_constructors.proofs.Shares.{words_in}
use Rattle.gsl_lower_expr.specs.Parts.{Lower}
use Rattle.gsl_lower_law_expr.specs.Known.{AllTyped}
use Rattle.gsl_lower_law_expr.proofs.Shapes.{value_shape}
use Rattle.gsl_lower_law_built.specs.Arguments.{AreShaped, Constructs, components}

-- ---- words

-- a word of any scalar type is one of an `int`
word_small : (s : Scalar) (word : ℕ) → is_word_of s word ≡ true → is_word_of Int word ≡ true
word_small Boolean zero e = refl
word_small Boolean (suc zero) e = refl
word_small Boolean (suc (suc n)) e = absurd (let less = ltb-true (suc (suc n)) 2 e in omega (arith, less))
word_small Int word e = e
word_small Uint word e = e

-- as one of a scalar type it is of that type
converted_fits : (s : Scalar) (word : ℕ) → is_word_of Int word ≡ true → is_word_of s (converted s word) ≡ true
converted_fits Boolean word e = truth (not (word == 0))
  where
    truth : (b : Bool) → nat_lt (word_of_bool b) 2 ≡ true
    truth true = refl
    truth false = refl
converted_fits Int word e = e
converted_fits Uint word e = e

words_small : (s : Scalar) (words : List ℕ) → AreWords s words → AreWords Int words
words_small s [] fit = tt
words_small s (word ∷ words) fit = (word_small s word fit.0, words_small s words fit.1)

all_words : (first second : List ℕ) → AreWords Int first → AreWords Int second → AreWords Int (first ++ second)
all_words [] second fit others = others
all_words (word ∷ first) second fit others = (fit.0, all_words first second fit.1 others)

replicated_words : (n word : ℕ) → is_word_of Int word ≡ true → AreWords Int (replicate n word)
replicated_words zero word e = tt
replicated_words (suc n) word e = (e, replicated_words n word e)

-- the words of arguments: they have as many as their shapes say
pub record Supplied (count : ℕ) (words : List ℕ) : Type 0 where
  pub length_is : length words ≡ count
  pub small : AreWords Int words

supplied : (p : Program) (args : List Lower) (shapes : List Shape) (vs : List Value) → AreStructs p.structs → AreShaped p args shapes → AllTyped p args vs → Supplied (components shapes) (all_components vs)
supplied p [] [] [] are shaped fits = record { length_is = refl; small = tt }
supplied p [] [] (v ∷ vs) are shaped fits = absurd fits
supplied p [] (shape ∷ shapes) vs are shaped fits = absurd shaped
supplied p (e ∷ es) [] vs are shaped fits = absurd shaped
supplied p (e ∷ es) (shape ∷ shapes) [] are shaped fits = absurd fits
supplied p (e ∷ es) (shape ∷ shapes) (v ∷ vs) are shaped fits =
    let of = (value_shape p.structs e.ty shape v are shaped.0.0 shaped.0.1 fits.0).1 in
    let others = supplied p es shapes vs are shaped.1 fits.1 in
    record {
      length_is = length-append (components_in v) (all_components vs) ∙ ap₂ (λ a b. a + b) (ap length (words_in v of) ∙ of.count) others.length_is;
      small = all_words (components_in v) (all_components vs) (subst (AreWords Int) (sym (words_in v of)) (words_small shape.0 of.words of.fits)) others.small;
    }

-- ---- what constructors give

scalar_fits : (structs : List StructType) (s : Scalar) (words : List ℕ) → 1 ≤ length words → AreWords Int words → is_value_of structs (ty.One s) (Word (converted s (slice_index words 0))) ≡ true
scalar_fits structs s [] some small = absurd (omega (arith, some))
scalar_fits structs s (word ∷ words) some small = value_of_one structs s (Word (converted s word)) ∙ ap (is_scalar_layer s) (outs-Word (converted s word)) ∙ converted_fits s word small.0

row_fits : (s : Scalar) (n : ℕ) (words : List ℕ) → n ≤ length words → AreWords Int words → all_pass (replicate n (is_scalar s)) (map Word (map (converted s) (take n words))) ≡ true
row_fits s zero words enough small = refl
row_fits s (suc n) [] enough small = absurd (omega (arith, enough))
row_fits s (suc n) (word ∷ words) enough small = ap₂ (λ a b. a && b) (ap (is_scalar_layer s) (outs-Word (converted s word)) ∙ converted_fits s word small.0) (row_fits s n words (omega (arith, enough)) small.1)

filled_fits : (s : Scalar) (n : ℕ) (words : List ℕ) → 1 ≤ n → (n ≤ length words) ⊎ (length words ≡ 1) → AreWords Int words → all_pass (replicate n (is_scalar s)) (map Word (filled s n words)) ≡ true
filled_fits s n [] some (inl enough) small = absurd (omega (arith, some, enough))
filled_fits s n [] some (inr one) small = absurd (omega (arith, one))
filled_fits s n (word ∷ []) some enough small = row_fits s n (replicate n word) (omega (arith, length-replicate n word)) (replicated_words n word small.0)
filled_fits s n (word ∷ next ∷ words) some (inl enough) small = row_fits s n (word ∷ next ∷ words) enough small
filled_fits s n (word ∷ next ∷ words) some (inr one) small = absurd (omega (arith, one))

vector_fits : (structs : List StructType) (s : Scalar) (n : ℕ) (words : List ℕ) → 1 ≤ n → (n ≤ length words) ⊎ (length words ≡ 1) → AreWords Int words → is_value_of structs (ty.Vector s n) (Many (map Word (filled s n words))) ≡ true
vector_fits structs s n words some enough small = value_of_vector structs s n (Many (map Word (filled s n words))) ∙ ap (has_parts_layer (replicate n (is_scalar s))) (outs-Many (map Word (filled s n words))) ∙ filled_fits s n words some enough small

build_fits : (structs : List StructType) (s : Scalar) (n : ℕ) (one : Bool) (vs : List Value) → 1 ≤ n → (n ≤ length (all_components vs)) ⊎ (length (all_components vs) ≡ 1) → AreWords Int (all_components vs)
    → is_value_of structs (if one then ty.One s else ty.Vector s n) (build_value (if one then ty.One s else ty.Vector s n) vs) ≡ true
build_fits structs s n true vs some enough small = ap (λ layer. is_value_of structs (ty.One s) (build_kind layer vs)) (outs-One s) ∙ scalar_fits structs s (all_components vs) (by enough) small
  where
    by : (n ≤ length (all_components vs)) ⊎ (length (all_components vs) ≡ 1) → 1 ≤ length (all_components vs)
    by (inl enough) = omega (arith, some, enough)
    by (inr one) = omega (arith, one)
build_fits structs s n false vs some enough small = ap (λ layer. is_value_of structs (ty.Vector s n) (build_kind layer vs)) (outs-Vector s n) ∙ vector_fits structs s n (all_components vs) some enough small

-- Scalars and vectors that have as many components, or one that fills all of them.
pub shape_constructs : (p : Program) (args : List Lower) (shapes : List Shape) (shape : Shape) → AreStructs p.structs → AreShaped p args shapes → 1 ≤ shape.1 → (shape.1 ≤ components shapes) ⊎ (components shapes ≡ 1) → Constructs p args (of_shape shape)
shape_constructs p args shapes shape are shaped some enough = record {
  are = are;
  shapes = shapes;
  shaped = shaped;
  shape = shape;
  some = some;
  is = refl;
  enough = enough;
  gives = λ vs fits.
      let s = supplied p args shapes vs are shaped fits in
      build_fits p.structs shape.0 shape.1 (nat_eq shape.1 1) vs some (subst (λ n. (shape.1 ≤ n) ⊎ (n ≡ 1)) (sym s.length_is) enough) s.small;
}
