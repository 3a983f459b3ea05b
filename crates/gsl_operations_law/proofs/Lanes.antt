-- Scalars and vectors, and what is made of them, in words.
use Rattle.std.proofs.Common.{◌≡◌, refl, sym, ap, ◌∙◌, ℕ, zero, suc, Bool, true, List, [], ◌∷◌, ◌++◌, map, replicate, length, take, drop, slice_get, slice_index, get_or, Option, Some, None}
use Rattle.std.specs.List.{list_all}
use Rattle.std.proofs.lemmas.Bool.{and_from, and_parts, false≢true}
use Rattle.gsl_words.specs.declared.module.Module.{Module}
use Rattle.gsl_values.specs.Operators.{unary_word}
use Rattle.gsl_values.specs.declared.function.Builtin.{Builtin}
use Rattle.gsl_values.specs.declared.op.UnaryOp.{UnaryOp}
use Rattle.gsl_values.specs.declared.value.Value.{Value}
use Rattle.gsl_values.specs.declared.value.Value.TheOpen.{Value-F}
use Rattle.gsl_values.specs.declared.value.Value.TheVariants.{Word, Many, outs-Many, outs-Word, rolls-Many, rolls-Word}
use Rattle.gsl_values.specs.declared.value.Value.TheViews.{out-Value, roll-Value, roll-out-Value}
use Rattle.gsl_tree.specs.Operations.{all_components, binary_words, builtin_value, builtin_words, unary_value, value_at, with_value_at}
use Rattle.gsl_tree.specs.Values.{all_pass, components_in, components_layer, of_components, parts_in, parts_layer, word_in, word_layer}
use Rattle.gsl_valid.specs.Kinds.{Shape, OfBool, OfInt, OfVector, shape_of}
use Rattle.gsl_valid.specs.Types.{Lanes, Scalar, defined_as, lanes_in, lanes_of, lanes_with, scalar_in}
use Rattle.gsl_machine.specs.Operations.{Operator, binary}
use Rattle.gsl_sound_code.proofs.Looks.{Kept}
use Rattle.gsl_sound_values.specs.Shaped.{is_shaped, is_word, is_word_layer, shaped_as}
use Rattle.gsl_sound_values.proofs.Constants.{word_is}
use Rattle.gsl_leaves_law.proofs.Counted.{many_there}
use Rattle.gsl_leaves_law.proofs.Parts.{unfolded}
use Rattle.gsl_region.specs.Flat.{flat, flat_all}
use Rattle.gsl_region.specs.Places.{LeadsIn, in_front}
use Rattle.gsl_region.specs.Showing.{with_words}
use Rattle.gsl_region.proofs.Focus.{Focus, flat_many, flat_word, focus, middle, put_middle}
use Rattle.gsl_operations_law.specs.Lanes.{is_lanes, lanes_layer}

-- ---- words

pub one_flat : (v : Value) (layer : Value-F Value) → out-Value v ≡ layer → is_word_layer layer ≡ true → flat v ≡ word_in v ∷ []
one_flat v (Value-F.Word word) e is = ap flat (sym (roll-out-Value v) ∙ ap roll-Value e ∙ rolls-Word word) ∙ flat_word word ∙ ap (λ l. word_layer l ∷ []) (sym e)
one_flat v (Value-F.Many vs) e is = absurd (false≢true is)

words_flat : (vs : List Value) → list_all is_word vs ≡ true → map word_in vs ≡ flat_all vs
words_flat [] all = refl
words_flat (v ∷ vs) all =
    let parts = and_parts (is_word v) (list_all is_word vs) all in
    ap (λ l. word_in v ∷ l) (words_flat vs parts.1) ∙ ap (λ l. l ++ flat_all vs) (sym (one_flat v (out-Value v) refl parts.0))

lanes_flat : (v : Value) (layer : Value-F Value) → out-Value v ≡ layer → lanes_layer layer ≡ true → components_in v ≡ flat v
lanes_flat v (Value-F.Word word) e is = ap components_layer e ∙ sym (flat_word word) ∙ ap flat (sym (sym (roll-out-Value v) ∙ ap roll-Value e ∙ rolls-Word word))
lanes_flat v (Value-F.Many vs) e is = ap components_layer e ∙ words_flat vs is ∙ sym (flat_many vs) ∙ ap flat (sym (sym (roll-out-Value v) ∙ ap roll-Value e ∙ rolls-Many vs))

pub components_are : (v : Value) → is_lanes v ≡ true → components_in v ≡ flat v
components_are v is = lanes_flat v (out-Value v) refl is

words_back : (words : List ℕ) → flat_all (map Word words) ≡ words
words_back [] = refl
words_back (word ∷ words) = ap (λ l. l ++ flat_all (map Word words)) (flat_word word) ∙ ap (λ l. word ∷ l) (words_back words)

pub made_flat : (words : List ℕ) → flat (of_components words) ≡ words
made_flat [] = flat_many []
made_flat (word ∷ []) = flat_word word
made_flat (word ∷ next ∷ words) = flat_many (map Word (word ∷ next ∷ words)) ∙ words_back (word ∷ next ∷ words)

all_words : (words : List ℕ) → list_all is_word (map Word words) ≡ true
all_words [] = refl
all_words (word ∷ words) = and_from _ _ (word_is word) (all_words words)

pub made_lanes : (words : List ℕ) → is_lanes (of_components words) ≡ true
made_lanes [] = ap lanes_layer (outs-Many [])
made_lanes (word ∷ []) = ap lanes_layer (outs-Word word)
made_lanes (word ∷ next ∷ words) = ap lanes_layer (outs-Many (map Word (word ∷ next ∷ words))) ∙ all_words (word ∷ next ∷ words)

-- ---- values of types that have components

word_lanes : (v : Value) (layer : Value-F Value) → out-Value v ≡ layer → is_word_layer layer ≡ true → is_lanes v ≡ true
word_lanes v (Value-F.Word word) e is = ap lanes_layer e
word_lanes v (Value-F.Many vs) e is = absurd (false≢true is)

many_lanes : (v : Value) (vs : List Value) → v ≡ Many vs → list_all is_word vs ≡ true → is_lanes v ≡ true
many_lanes v vs is all = ap is_lanes is ∙ ap lanes_layer (outs-Many vs) ∙ all

each_word : (f : Value → Bool) → ((v : Value) → f v ≡ true → is_word v ≡ true) → (n : ℕ) (vs : List Value) → all_pass (replicate n f) vs ≡ true → list_all is_word vs ≡ true
each_word f word zero [] all = refl
each_word f word zero (v ∷ vs) all = absurd (false≢true all)
each_word f word (suc n) [] all = absurd (false≢true all)
each_word f word (suc n) (v ∷ vs) all = let parts = and_parts (f v) (all_pass (replicate n f) vs) all in and_from _ _ (word v parts.0) (each_word f word n vs parts.1)

no_lanes : (lanes : Lanes) → None ≡ Some lanes → ⊥
no_lanes lanes is = cc

no_scalar : (scalar : Scalar) → None ≡ Some scalar → ⊥
no_scalar scalar is = cc

module _ (m : Module) (kept : Kept m) where
  scalar_word : (s : Shape) (scalar : Scalar) (v : Value) → scalar_in s ≡ Some scalar → shaped_as m (is_shaped m) s v ≡ true → is_word v ≡ true
  scalar_word OfBool scalar v e is = is
  scalar_word (OfInt signedness) scalar v e is = is
  scalar_word _ scalar v e is = absurd (no_scalar scalar e)

  with_scalar : (count : ℕ) (lanes : Lanes) (o : Option Scalar) → lanes_with count o ≡ Some lanes → (scalar : Scalar) × (o ≡ Some scalar)
  with_scalar count lanes None is = absurd (no_lanes lanes is)
  with_scalar count lanes (Some scalar) is = (scalar, refl)

  shape_lanes : (s : Shape) (lanes : Lanes) (v : Value) → lanes_in m s ≡ Some lanes → shaped_as m (is_shaped m) s v ≡ true → is_lanes v ≡ true
  shape_lanes OfBool lanes v e is = word_lanes v (out-Value v) refl is
  shape_lanes (OfInt signedness) lanes v e is = word_lanes v (out-Value v) refl is
  shape_lanes (OfVector component count) lanes v e is =
      let p = many_there (replicate count (is_shaped m component)) v is in
      let s = with_scalar count lanes (scalar_in (shape_of (defined_as m component))) e in
      many_lanes v p.0 p.1.is
      (each_word (is_shaped m component) (λ u shaped. scalar_word (shape_of (defined_as m component)) s.0 u s.1 (unfolded m kept component u shaped)) count p.0 p.2)
  shape_lanes _ lanes v e is = absurd (no_lanes lanes e)

  pub type_lanes : (type : ℕ) (lanes : Lanes) (v : Value) → lanes_of m type ≡ Some lanes → is_shaped m type v ≡ true → is_lanes v ≡ true
  type_lanes type lanes v e is = shape_lanes (shape_of (defined_as m type)) lanes v e (unfolded m kept type v is)

-- ---- operations

pub args_flat : (args : List Value) → list_all is_lanes args ≡ true → map components_in args ≡ map flat args
args_flat [] all = refl
args_flat (v ∷ args) all =
    let parts = and_parts (is_lanes v) (list_all is_lanes args) all in ap (λ w. w ∷ map components_in args) (components_are v parts.0) ∙ ap (λ l. flat v ∷ l) (args_flat args parts.1)

pub unary_flat : (op : UnaryOp) (v : Value) → is_lanes v ≡ true → flat (unary_value op v) ≡ map (unary_word op) (flat v)
unary_flat op v is = made_flat (map (unary_word op) (components_in v)) ∙ ap (map (unary_word op)) (components_are v is)

pub binary_flat : (operator : Operator) (a b : Value) (choices : List ℕ) → is_lanes a ≡ true → is_lanes b ≡ true → flat (binary operator a b choices).0 ≡ (binary_words operator.0 operator.1 (flat a) (flat b) choices).0
binary_flat operator a b choices first second =
    made_flat (binary_words operator.0 operator.1 (components_in a) (components_in b) choices).0
    ∙ ap (λ xs. (binary_words operator.0 operator.1 xs (components_in b) choices).0) (components_are a first) ∙ ap (λ ys. (binary_words operator.0 operator.1 (flat a) ys choices).0) (components_are b second)

pub binary_drawn : (operator : Operator) (a b : Value) (choices : List ℕ) → is_lanes a ≡ true → is_lanes b ≡ true → (binary operator a b choices).1 ≡ (binary_words operator.0 operator.1 (flat a) (flat b) choices).1
binary_drawn operator a b choices first second =
    ap (λ xs. (binary_words operator.0 operator.1 xs (components_in b) choices).1) (components_are a first) ∙ ap (λ ys. (binary_words operator.0 operator.1 (flat a) ys choices).1) (components_are b second)

pub builtin_flat : (which : Builtin) (signed : Bool) (args : List Value) (choices : List ℕ) → list_all is_lanes args ≡ true → builtin_value which signed args choices ≡ builtin_words which signed (map flat args) choices
builtin_flat which signed args choices all = ap (λ l. builtin_words which signed l choices) (args_flat args all)

pub all_flat : (vs : List Value) → list_all is_lanes vs ≡ true → all_components vs ≡ flat_all vs
all_flat [] all = refl
all_flat (v ∷ vs) all =
    let parts = and_parts (is_lanes v) (list_all is_lanes vs) all in ap (λ l. l ++ all_components vs) (components_are v parts.0) ∙ ap (λ l. flat v ++ l) (all_flat vs parts.1)

-- ---- parts

pub part_words : (v : Value) (path : List ℕ) → LeadsIn v path → flat (value_at v path) ≡ take (length (flat (value_at v path))) (drop (in_front v path) (flat v))
part_words v path leads =
    let f : Focus v path = focus v path leads in
    let part = flat (value_at v path) in
    sym (ap (λ l. take (length part) (drop (in_front v path) l)) f.is ∙ middle f.front part f.behind (in_front v path) (length part) f.at refl)

pub put_words : (v new : Value) (path : List ℕ) → LeadsIn v path → length (flat new) ≡ length (flat (value_at v path)) → flat (with_value_at v path new) ≡ with_words (flat v) (in_front v path) (flat new)
put_words v new path leads many =
    let f : Focus v path = focus v path leads in
    f.put new ∙ sym (ap (λ l. with_words l (in_front v path) (flat new)) f.is ∙ put_middle f.front (flat (value_at v path)) f.behind (flat new) (in_front v path) f.at many)

picked : (vs : List Value) (index : ℕ) (part : Value) → list_all is_word vs ≡ true → slice_get vs index ≡ Some part → flat part ≡ get_or (map word_in vs) index 0 ∷ []
picked [] zero part all is = absurd (cc)
picked [] (suc index) part all is = absurd (cc)
picked (v ∷ vs) zero part all is = let same : v ≡ part = cc in ap flat (sym same) ∙ one_flat v (out-Value v) refl (and_parts (is_word v) (list_all is_word vs) all).0
picked (v ∷ vs) (suc index) part all is = picked vs index part (and_parts (is_word v) (list_all is_word vs) all).1 is

picked_layer : (v : Value) (layer : Value-F Value) (index : ℕ) (part : Value) → out-Value v ≡ layer → lanes_layer layer ≡ true → slice_get (parts_layer layer) index ≡ Some part → flat part ≡ get_or (components_layer layer) index 0 ∷ []
picked_layer v (Value-F.Word word) zero part e all is = absurd (cc)
picked_layer v (Value-F.Word word) (suc index) part e all is = absurd (cc)
picked_layer v (Value-F.Many vs) index part e all is = picked vs index part all is

pub pick_words : (v part : Value) (index : ℕ) → is_lanes v ≡ true → slice_get (parts_in v) index ≡ Some part → flat part ≡ slice_index (flat v) index ∷ []
pick_words v part index all is = picked_layer v (out-Value v) index part refl all is ∙ ap (λ l. get_or l index 0 ∷ []) (components_are v all)
