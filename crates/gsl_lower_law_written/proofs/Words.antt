-- The words of values as they lie in blocks.
use Rattle.std.proofs.Common.{◌≡◌, refl, sym, ap, ◌∙◌, subst, ℕ, ◌<◌, ◌^◌, Bool, true, List, [], ◌∷◌, length, map, arith, if◌then◌else◌}
use Rattle.std.specs.List.{AllByRecursion}
use Rattle.std.proofs.lemmas.Bool.{lt-ltb, ltb-true}
use Rattle.gsl_types.specs.declared.ty.Scalar.{Scalar}
use Rattle.gsl_types.specs.declared.ty.Scalar.TheVariants.{Bool as Boolean, Int, Uint}
use Rattle.gsl_values.specs.declared.value.Value.{Value}
use Rattle.gsl_tree.specs.Operations.{converted}
use Rattle.gsl_tree.specs.Shapes.{Shape}
use Rattle.gsl_tree.specs.Values.{components_in, is_word_of, of_components}
use Rattle.gsl_lower_places.specs.Reached.{is_block_class, stored_scalar, stored_shape}
use Rattle.gsl_lower_law.specs.Operands.{converted_value}
use Rattle.gsl_lower_law.specs.Values.{AreWords, IsOf}
use Rattle.gsl_lower_law.proofs.Components.{components_of}

-- words lie as they are: a truth value is a number
as_stored : (kind : Scalar) (words : List ℕ) → map (converted (stored_scalar kind)) words ≡ words
as_stored Boolean [] = refl
as_stored Int [] = refl
as_stored Uint [] = refl
as_stored Boolean (word ∷ words) = ap (λ l. word ∷ l) (as_stored Boolean words)
as_stored Int (word ∷ words) = ap (λ l. word ∷ l) (as_stored Int words)
as_stored Uint (word ∷ words) = ap (λ l. word ∷ l) (as_stored Uint words)

word_below : (kind : Scalar) (word : ℕ) → is_word_of kind word ≡ true → word < 2 ^ 32
word_below Boolean word is = let less = ltb-true word 2 is in omega (arith, less)
word_below Int word is = ltb-true word (2 ^ 32) is
word_below Uint word is = ltb-true word (2 ^ 32) is

words_below : (kind : Scalar) (words : List ℕ) → AreWords kind words → AllByRecursion (λ word. word < 2 ^ 32) words
words_below kind [] fits = tt
words_below kind (word ∷ words) fits = (word_below kind word fits.0, words_below kind words fits.1)

lying_fits : (kind : Scalar) (words : List ℕ) → AreWords kind words → AreWords (stored_scalar kind) words
lying_fits Boolean [] fits = tt
lying_fits Int words fits = fits
lying_fits Uint words fits = fits
lying_fits Boolean (word ∷ words) fits = (lt-ltb word (2 ^ 32) (word_below Boolean word fits.0), lying_fits Boolean words fits.1)

-- a value with the words that it has where it lies
pub as_lying : (kind : Scalar) (n : ℕ) (v : Value) → IsOf (kind, n) v → IsOf (stored_scalar kind, n) v
as_lying kind n v of = record { words = of.words; is = of.is; count = of.count; fits = lying_fits kind of.words of.fits }

pub value_words : (shape : Shape) (v : Value) (of : IsOf shape v) → components_in v ≡ of.words
value_words shape v of = ap components_in of.is ∙ components_of of.words

module _ (class : ℕ) (inside : is_block_class class ≡ true) (shape : Shape) (v : Value) (of : IsOf shape v) where
  -- the words that are stored
  abbrev pub lying : List ℕ
  lying = components_in (converted_value (stored_shape class shape).0 v)

  pub lying_are : lying ≡ of.words
  lying_are =
      ap (λ (b : Bool). components_in (converted_value (if b then (stored_scalar shape.0, shape.1) else shape).0 v)) inside
      ∙ components_of (map (converted (stored_scalar shape.0)) (components_in v)) ∙ as_stored shape.0 (components_in v) ∙ value_words shape v of

  pub lying_many : length lying ≡ shape.1
  lying_many = ap length lying_are ∙ of.count

  pub lying_below : AllByRecursion (λ word. word < 2 ^ 32) lying
  lying_below = subst (AllByRecursion (λ word. word < 2 ^ 32)) (sym lying_are) (words_below shape.0 of.words of.fits)

  pub lying_value : of_components lying ≡ v
  lying_value = ap of_components lying_are ∙ sym of.is
