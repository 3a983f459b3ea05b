-- Scalars and vectors by their components.
use Rattle.std.proofs.Common.{◌≡◌, refl, sym, ap, ◌∙◌, subst, ℕ, zero, suc, Bool, true, false, ◌&&◌, ◌||◌, if◌then◌else◌, nat_le, List, [], ◌∷◌, map, replicate, length, Option, Some, None, inl, inr, arith}
use Rattle.std.specs.Prelude.{◌==◌}
use Rattle.std.proofs.lemmas.Bool.{and_from, and_parts, cases_Bool, cond-false, eqb-true, leb-true, false≢true}
use Rattle.gsl_words.specs.declared.module.Module.{Module}
use Rattle.gsl_values.specs.declared.value.Value.{Value}
use Rattle.gsl_values.specs.declared.value.Value.TheOpen.{Value-F}
use Rattle.gsl_values.specs.declared.value.Value.TheVariants.{Word}
use Rattle.gsl_values.specs.declared.value.Value.TheViews.{out-Value}
use Rattle.gsl_tree.specs.Values.{all_pass, components_in, components_layer, has_parts, has_parts_layer, of_components, word_in}
use Rattle.gsl_valid.specs.Kinds.{Shape, OfBool, OfInt, OfVector, shape_of}
use Rattle.gsl_valid.specs.OperandRules.{size_in}
use Rattle.gsl_valid.specs.TypeRules.{is_component, is_made}
use Rattle.gsl_valid.specs.Types.{Lanes, Scalar, defined_as, has_lanes, is_bool_shape, is_int_shape, is_value_shape, is_value_type, lanes_in, lanes_of, lanes_with, same_size, scalar_in}
use Rattle.gsl_sound_code.proofs.Looks.{Kept, made_at}
use Rattle.gsl_sound_values.specs.Shaped.{is_shaped, is_word, is_word_layer, shaped_as}
use Rattle.gsl_sound_values.proofs.Constants.{component_shape, parts_pass, unfolds, word_is, word_shaped}
use Rattle.gsl_sound_values.proofs.Unfolded.{layer_same, same_each}

-- how many components a type has
abbrev pub Size : Module → ℕ → ℕ
Size m type = size_in (lanes_of m type)

-- The type is a scalar or vector.
abbrev pub HasLanes : Module → ℕ → Type 0
HasLanes m type = (lanes : Lanes) × (lanes_of m type ≡ Some lanes)

pub lanes_there : (m : Module) (test : Scalar → Bool) (type : ℕ) → has_lanes test (lanes_of m type) ≡ true → HasLanes m type
lanes_there m test type is = by_lanes (lanes_of m type) is
  where
    by_lanes : (o : Option Lanes) → has_lanes test o ≡ true → (lanes : Lanes) × (o ≡ Some lanes)
    by_lanes None is = absurd (false≢true is)
    by_lanes (Some lanes) is = (lanes, refl)

-- two sizes that are one
pub sizes_same : (a b : Option Lanes) → same_size a b ≡ true → size_in a ≡ size_in b
sizes_same None b is = absurd (false≢true is)
sizes_same (Some a) None is = absurd (false≢true is)
sizes_same (Some a) (Some b) is = eqb-true a.size b.size is

pub lanes_first : (m : Module) (a : ℕ) (b : Option Lanes) → same_size (lanes_of m a) b ≡ true → HasLanes m a
lanes_first m a b is = by_lanes (lanes_of m a) is
  where
    by_lanes : (o : Option Lanes) → same_size o b ≡ true → (lanes : Lanes) × (o ≡ Some lanes)
    by_lanes None is = absurd (false≢true is)
    by_lanes (Some lanes) is = (lanes, refl)

-- ---- lists of words

length_mapped : {A B : Type 0} (f : A → B) (xs : List A) → length (map f xs) ≡ length xs
length_mapped f [] = refl
length_mapped f (x ∷ xs) = ap suc (length_mapped f xs)

pub words_counted : (f : ℕ → ℕ) (words : List ℕ) (n : ℕ) → length words ≡ n → length (map f words) ≡ n
words_counted f words n is = length_mapped f words ∙ is

passed_counted : (f : Value → Bool) (n : ℕ) (vs : List Value) → all_pass (replicate n f) vs ≡ true → length vs ≡ n
passed_counted f zero [] is = refl
passed_counted f zero (v ∷ vs) is = absurd (false≢true is)
passed_counted f (suc n) [] is = absurd (false≢true is)
passed_counted f (suc n) (v ∷ vs) is = ap suc (passed_counted f n vs (and_parts (f v) (all_pass (replicate n f) vs) is).1)

words_pass : (f : Value → Bool) → ((word : ℕ) → f (Word word) ≡ true) → (words : List ℕ) → all_pass (replicate (length words) f) (map Word words) ≡ true
words_pass f each [] = refl
words_pass f each (word ∷ words) = and_from _ _ (each word) (words_pass f each words)

one_word : (layer : Value-F Value) → is_word_layer layer ≡ true → length (components_layer layer) ≡ 1
one_word (Value-F.Word word) is = refl
one_word (Value-F.Many parts) is = absurd (false≢true is)

many_words : (f : Value → Bool) (n : ℕ) (layer : Value-F Value) → has_parts_layer (replicate n f) layer ≡ true → length (components_layer layer) ≡ n
many_words f n (Value-F.Word word) is = absurd (false≢true is)
many_words f n (Value-F.Many parts) is = length_mapped word_in parts ∙ passed_counted f n parts is

-- of several words a vector is made
several : (f : Value → Bool) → ((word : ℕ) → f (Word word) ≡ true) → (n : ℕ) (words : List ℕ) → nat_le 2 n ≡ true → length words ≡ n → has_parts (replicate n f) (of_components words) ≡ true
several f each n [] least is = let low = leb-true 2 n least in absurd (omega (arith, low, is))
several f each n (word ∷ []) least is = let low = leb-true 2 n least in absurd (omega (arith, low, is))
several f each n (word ∷ next ∷ words) least is =
    parts_pass (replicate n f) (map Word (word ∷ next ∷ words)) (subst (λ k. all_pass (replicate k f) (map Word (word ∷ next ∷ words)) ≡ true) is (words_pass f each (word ∷ next ∷ words)))

one_component : (words : List ℕ) → length words ≡ 1 → is_word (of_components words) ≡ true
one_component [] is = absurd (omega (arith, is))
one_component (word ∷ []) is = word_is word
one_component (word ∷ next ∷ words) is = absurd (omega (arith, is))

module _ (m : Module) (kept : Kept m) where
  -- the size of a vector's type
  vector_size : (component count : ℕ) (lanes : Lanes) → lanes_in m (OfVector component count) ≡ Some lanes → lanes.size ≡ count
  vector_size component count lanes is = by_scalar (scalar_in (shape_of (defined_as m component))) is
    where
      by_scalar : (o : Option Scalar) → lanes_with count o ≡ Some lanes → lanes.size ≡ count
      by_scalar None is = absurd (cc)
      by_scalar (Some scalar) is = let same : record { scalar = scalar; size = count } ≡ lanes = cc in ap (λ l. l.size) (sym same)

  vector_made : (component count : ℕ) (first : Bool) → is_made m first (OfVector component count) ≡ true → (is_component m component ≡ true) × (nat_le 2 count ≡ true)
  vector_made component count first made =
      let third = and_parts (is_component m component && nat_le 2 count && nat_le count 4) first made in
      and_parts (is_component m component) (nat_le 2 count) (and_parts (is_component m component && nat_le 2 count) (nat_le count 4) third.0).0

  value_shape : (s : Shape) (lanes : Lanes) → lanes_in m s ≡ Some lanes → is_value_shape s ≡ true
  value_shape OfBool lanes is = refl
  value_shape (OfInt signedness) lanes is = refl
  value_shape (OfVector component count) lanes is = refl
  value_shape _ lanes is = absurd (cc)

  pub lanes_value : (type : ℕ) → HasLanes m type → is_value_type m type ≡ true
  lanes_value type has = value_shape (shape_of (defined_as m type)) has.0 has.1

  -- what has the shape of a scalar or vector has as many components
  pub counted : (type : ℕ) (v : Value) → HasLanes m type → is_shaped m type v ≡ true → length (components_in v) ≡ Size m type
  counted type v has is = by_shape (shape_of (defined_as m type)) has.1 (sym (unfolds m kept type v (lanes_value type has)) ∙ is) ∙ ap size_in (sym has.1)
    where
      by_shape : (s : Shape) → lanes_in m s ≡ Some has.0 → shaped_as m (is_shaped m) s v ≡ true → length (components_in v) ≡ has.0.size
      by_shape OfBool e is = one_word (out-Value v) is ∙ ap size_in e
      by_shape (OfInt signedness) e is = one_word (out-Value v) is ∙ ap size_in e
      by_shape (OfVector component count) e is = many_words (is_shaped m component) count (out-Value v) is ∙ sym (vector_size component count has.0 e)
      by_shape _ e is = absurd (cc)

  -- of as many words what has its shape is made
  pub of_counted : (type : ℕ) (words : List ℕ) → HasLanes m type → length words ≡ Size m type → is_shaped m type (of_components words) ≡ true
  of_counted type words has is = unfolds m kept type (of_components words) (lanes_value type has) ∙ by_shape (shape_of (defined_as m type)) has.1 (made_at m kept type) (is ∙ ap size_in has.1)
    where
      by_shape : (s : Shape) → lanes_in m s ≡ Some has.0 → ((first : Bool) × (is_made m first s ≡ true)) → length words ≡ has.0.size → shaped_as m (is_shaped m) s (of_components words) ≡ true
      by_shape OfBool e made is = one_component words (is ∙ sym (ap size_in e))
      by_shape (OfInt signedness) e made is = one_component words (is ∙ sym (ap size_in e))
      by_shape (OfVector component count) e made is =
          let parts = vector_made component count made.0 made.1 in
          several (is_shaped m component) (λ word. word_shaped m kept component word parts.0) count words parts.1 (is ∙ vector_size component count has.0 e)
      by_shape _ e made is = absurd (cc)

  -- a part of a vector is a word
  component_is : (component : ℕ) (v : Value) → is_component m component ≡ true → is_shaped m component v ≡ is_word v
  component_is component v is = unfolds m kept component v (component_shape m (shape_of (defined_as m component)) is).0 ∙ by_shape (shape_of (defined_as m component)) is
    where
      by_shape : (s : Shape) → (is_int_shape s || is_bool_shape s) ≡ true → shaped_as m (is_shaped m) s v ≡ is_word v
      by_shape OfBool is = refl
      by_shape (OfInt signedness) is = refl
      by_shape _ is = absurd (false≢true is)

  -- scalars and vectors of one size have one shape
  abbrev Shaped : ℕ → Value → Bool
  Shaped n v = if n == 1 then is_word v else has_parts (replicate n is_word) v

  lanes_shape : (type : ℕ) (v : Value) → HasLanes m type → is_shaped m type v ≡ Shaped (Size m type) v
  lanes_shape type v has = unfolds m kept type v (lanes_value type has) ∙ by_shape (shape_of (defined_as m type)) has.1 (made_at m kept type) ∙ ap (λ o. Shaped (size_in o) v) (sym has.1)
    where
      not_one : (n : ℕ) → nat_le 2 n ≡ true → (n == 1) ≡ false
      not_one n least = elim (cases_Bool (n == 1)) [ inl one ↦ (let same = eqb-true n 1 one in let low = leb-true 2 n least in absurd (omega (arith, same, low))) | inr more ↦ more ]

      by_shape : (s : Shape) → lanes_in m s ≡ Some has.0 → ((first : Bool) × (is_made m first s ≡ true)) → shaped_as m (is_shaped m) s v ≡ Shaped has.0.size v
      by_shape OfBool e made = ap (λ n. Shaped n v) (ap size_in e)
      by_shape (OfInt signedness) e made = ap (λ n. Shaped n v) (ap size_in e)
      by_shape (OfVector component count) e made =
          let parts = vector_made component count made.0 made.1 in
          layer_same (replicate count (is_shaped m component)) (replicate count is_word) (same_each (is_shaped m component) is_word (λ v. component_is component v parts.0) count) (out-Value v)
          ∙ sym (cond-false (count == 1) (is_word v) (has_parts (replicate count is_word) v) (not_one count parts.1)) ∙ ap (λ n. Shaped n v) (sym (vector_size component count has.0 e))
      by_shape _ e made = absurd (cc)

  pub same_shape : (type other : ℕ) (v : Value) → HasLanes m type → HasLanes m other → Size m type ≡ Size m other → is_shaped m other v ≡ true → is_shaped m type v ≡ true
  same_shape type other v has had same is = lanes_shape type v has ∙ ap (λ n. Shaped n v) same ∙ sym (lanes_shape other v had) ∙ is
