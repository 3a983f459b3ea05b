-- Components that are picked of what stands where an access leads.
use Rattle.std.proofs.Common.{◌≡◌, refl, sym, ap, ◌∙◌, subst, ℕ, zero, suc, ◌<◌, ◌≤◌, Bool, true, ◌&&◌, List, [], ◌∷◌, ◌++◌, length, map, Option, Some, None, arith}
use Rattle.std.specs.Prelude.{nat_le, slice_index, slice_index_or}
use Rattle.std.proofs.lemmas.Bool.{and_parts, leb-true}
use Rattle.gsl_types.specs.Known.{IsSound, sound, sound_kind}
use Rattle.gsl_types.specs.declared.ty.Scalar.{Scalar}
use Rattle.gsl_types.specs.declared.ty.StructType.{StructType}
use Rattle.gsl_types.specs.declared.ty.Ty.{Ty}
use Rattle.gsl_types.specs.declared.ty.Ty.TheFolds.{fold-roll-Ty}
use Rattle.gsl_types.specs.declared.ty.Ty.TheOpen.{Ty-F}
use Rattle.gsl_types.specs.declared.ty.Ty.TheVariants as ty
use Rattle.gsl_types.specs.declared.ty.Ty.TheVariants.{rolls-One, rolls-Vector}
use Rattle.gsl_types.specs.declared.ty.Ty.TheViews.{out-Ty, roll-Ty, roll-out-Ty}
use Rattle.gsl_values.specs.declared.value.Value.{Value}
use Rattle.gsl_values.specs.declared.value.Value.TheVariants.{Word}
use Rattle.gsl_tree.specs.Operations.{member_value, value_at}
use Rattle.gsl_tree.specs.Shapes.{Shape, shape_kind, shape_of}
use Rattle.gsl_tree.specs.Values.{components_in, is_value_of, is_word_of, of_components, parts_in}
use Rattle.gsl_typed_law.proofs.Components.{scalar_typed, vector_typed}
use Rattle.gsl_meaning.specs.Accesses.{Access, found, pick, root_value}
use Rattle.gsl_meaning.specs.State as shader
use Rattle.gsl_lower_law.specs.Values.{AreWords, IsOf}
use Rattle.gsl_lower_law.proofs.Components.{components_of}
use Rattle.gsl_lower_law_constructors.proofs.Shares.{words_in}
use Rattle.gsl_lower_law_places.specs.Components.{AreWithin, chosen, picks_of}
use Rattle.gsl_lower_law_places.proofs.Reading.{mapped_length}
use Rattle.gsl_lower_law_places.proofs.Variables.{parts_are, value_on}
use Rattle.gsl_lower_reaching.specs.Trails.{ArePicked, Chosen, effective}
use Rattle.gsl_lower_reaching.specs.Trails.ArePicked.{swizzled, component, repeated}
use Rattle.gsl_lower_reaching.proofs.Lists.{index_has, index_of_one}

-- ---- components

map_twice : (cs : List ℕ) (word : Option ℕ) (positions : List ℕ) → map (λ position. slice_index cs (chosen word position)) positions ≡ map (slice_index cs) (map (chosen word) positions)
map_twice cs word [] = refl
map_twice cs word (position ∷ positions) = ap (λ l. slice_index cs (chosen word position) ∷ l) (map_twice cs word positions)

map_constant : (cs : List ℕ) (k : ℕ) (firsts : List ℕ) → map (slice_index cs) (map (λ first. k) firsts) ≡ map (λ first. slice_index cs k) firsts
map_constant cs k [] = refl
map_constant cs k (first ∷ firsts) = ap (λ l. slice_index cs k ∷ l) (map_constant cs k firsts)

word_there : (ws : List ℕ) (k : ℕ) → k < length ws → slice_index_or (map Word ws) k (Word 0) ≡ Word (slice_index ws k)
word_there [] k less = absurd (let z : k < 0 = less in omega (arith, z))
word_there (w ∷ ws) zero less = refl
word_there (w ∷ ws) (suc k) less = word_there ws k (let z : suc k < suc (length ws) = less in omega (arith, z))

-- a component of a vector
member_word : (shape : Shape) (v : Value) (k : ℕ) → IsOf shape v → 2 ≤ shape.1 → k < shape.1 → member_value v k ≡ Word (slice_index (components_in v) k)
member_word shape v k is many less =
    ap (λ parts. slice_index_or parts k (Word 0)) (ap parts_in is.is ∙ parts_are is.words (omega (arith, many, is.count)))
    ∙ word_there is.words k (omega (arith, less, is.count)) ∙ ap (λ ws. Word (slice_index ws k)) (sym (words_in v is))

picked_words : (s : Scalar) (count : ℕ) (cs : List ℕ) (word : Option ℕ) (positions : List ℕ) → AreWords s cs → length cs ≡ count → AreWithin count word positions → AreWords s (map (λ position. slice_index cs (chosen word position)) positions)
picked_words s count cs None [] fits same within = tt
picked_words s count cs None (position ∷ positions) fits same within = (index_has (λ word. is_word_of s word ≡ true) cs position fits (let less : position < count = within.0 in omega (arith, less, same)), picked_words s count cs None positions fits same within.1)
picked_words s count cs (Some word) positions fits same within = by positions
  where
    by : (positions : List ℕ) → AreWords s (map (λ position. slice_index cs word) positions)
    by [] = tt
    by (position ∷ positions) = (index_has (λ word. is_word_of s word ≡ true) cs word fits (let less : word < count = within.0 in omega (arith, less, same)), by positions)

-- what is picked of a scalar or vector is one
pub picks_are : (shape : Shape) (v : Value) (word : Option ℕ) (positions : List ℕ) → IsOf shape v → AreWithin shape.1 word positions → IsOf (shape.0, length positions) (picks_of v word positions)
picks_are shape v word positions is within = record {
  words = map (λ position. slice_index (components_in v) (chosen word position)) positions;
  is = refl;
  count = mapped_length (λ position. slice_index (components_in v) (chosen word position)) positions;
  fits = picked_words shape.0 shape.1 (components_in v) word positions (subst (AreWords shape.0) (sym (words_in v is)) is.fits) (ap length (words_in v is) ∙ is.count) within;
}

some_same : {A : Type 0} {a b : A} → Some a ≡ Some b → a ≡ b
some_same e = cc

-- a scalar or vector of a type's shape is one of the type
pub shape_typed : (structs : List StructType) (t : Ty) (shape : Shape) (v : Value) → IsSound (length structs) t → shape_of t ≡ Some shape → IsOf shape v → is_value_of structs t v ≡ true
shape_typed structs t shape v sound_t is of = by (out-Ty t) (roll-out-Ty t) is
  where
    scalar_of : (s : Scalar) (words : List ℕ) → length words ≡ 1 → AreWords s words → is_value_of structs (ty.One s) (of_components words) ≡ true
    scalar_of s [] count fits = absurd (let z : 0 ≡ 1 = count in omega (arith, z))
    scalar_of s (word ∷ []) count fits = scalar_typed structs s word fits.0
    scalar_of s (word ∷ next ∷ words) count fits = absurd (let z : suc (suc (length words)) ≡ 1 = count in omega (arith, z))

    vector_of : (s : Scalar) (n : ℕ) (words : List ℕ) → 2 ≤ n → length words ≡ n → AreWords s words → is_value_of structs (ty.Vector s n) (of_components words) ≡ true
    vector_of s n [] many count fits = absurd (let z : 0 ≡ n = count in omega (arith, z, many))
    vector_of s n (word ∷ []) many count fits = absurd (let z : 1 ≡ n = count in omega (arith, z, many))
    vector_of s n (word ∷ next ∷ words) many count fits = vector_typed structs s n (word ∷ next ∷ words) (count, fits)

    by : (layer : Ty-F Ty) → roll-Ty layer ≡ t → shape_kind layer ≡ Some shape → is_value_of structs t v ≡ true
    by Ty-F.Void e has = absurd cc
    by (Ty-F.One s) e has =
        let same : (s, 1) ≡ shape = some_same has in
        ap (λ u. is_value_of structs u v) (sym e ∙ rolls-One s) ∙ ap (is_value_of structs (ty.One s)) of.is ∙ scalar_of s of.words (of.count ∙ ap (λ (x : Shape). x.1) (sym same)) (subst (λ (x : Shape). AreWords x.0 of.words) (sym same) of.fits)
    by (Ty-F.Vector s n) e has =
        let same : (s, n) ≡ shape = some_same has in
        let both : (nat_le 2 n && nat_le n 4) ≡ true = sym (ap (sound (length structs)) (sym e) ∙ fold-roll-Ty Bool (sound_kind (length structs)) (Ty-F.Vector s n)) ∙ sound_t in
        ap (λ u. is_value_of structs u v) (sym e ∙ rolls-Vector s n) ∙ ap (is_value_of structs (ty.Vector s n)) of.is
        ∙ vector_of s n of.words (leb-true 2 n (and_parts (nat_le 2 n) (nat_le n 4) both).0) (of.count ∙ ap (λ (x : Shape). x.1) (sym same)) (subst (λ (x : Shape). AreWords x.0 of.words) (sym same) of.fits)
    by (Ty-F.Array other n) e has = absurd cc
    by (Ty-F.Runtime other) e has = absurd cc
    by (Ty-F.Struct number) e has = absurd cc

-- ---- what is found

module _ (a : Access) (s : shader.State) (numbers : List ℕ) (c : Chosen) (kind : Scalar) where
  abbrev v : Value
  v = value_at (root_value a.root s) numbers

  -- what is picked of the scalar or vector to which numbers lead
  pub picked_found : IsOf (kind, c.shape.1) (value_at (root_value a.root s) numbers) → 1 ≤ length c.positions → AreWithin c.shape.1 c.word c.positions → ArePicked c.shape.1 numbers (effective c) a.path a.picked → found a s ≡ picks_of (value_at (root_value a.root s) numbers) c.word c.positions
  picked_found of some within are = by are
    where
      cs : List ℕ
      cs = components_in v

      below : (k : ℕ) → AreWithin c.shape.1 c.word c.positions → 1 ≤ length c.positions → (firsts : List ℕ) → effective c ≡ map (λ first. k) firsts → k < c.shape.1
      below k within some firsts e = by_word c.word c.positions within some e
        where
          head_of : List ℕ → ℕ
          head_of [] = k
          head_of (n ∷ ns) = n

          head_is : (firsts : List ℕ) → head_of (map (λ first. k) firsts) ≡ k
          head_is [] = refl
          head_is (first ∷ firsts) = refl

          by_word : (word : Option ℕ) (positions : List ℕ) → AreWithin c.shape.1 word positions → 1 ≤ length positions → map (chosen word) positions ≡ map (λ first. k) firsts → k < c.shape.1
          by_word word [] within some e = absurd (let z : 1 ≤ 0 = some in omega (arith, z))
          by_word None (position ∷ positions) within some e = subst (λ n. n < c.shape.1) (ap head_of e ∙ head_is firsts) within.0
          by_word (Some word) (position ∷ positions) within some e = subst (λ n. n < c.shape.1) (ap head_of e ∙ head_is firsts) within.0

      at_one : (k : ℕ) → 2 ≤ c.shape.1 → k < c.shape.1 → value_at (root_value a.root s) (numbers ++ k ∷ []) ≡ Word (slice_index cs k)
      at_one k many less = value_on (root_value a.root s) numbers (k ∷ []) ∙ member_word (kind, c.shape.1) v k of many less

      by : ArePicked c.shape.1 numbers (effective c) a.path a.picked → found a s ≡ picks_of v c.word c.positions
      by (swizzled path is) = ap (λ o. pick o (value_at (root_value a.root s) a.path)) is ∙ ap (λ path. of_components (map (slice_index (components_in (value_at (root_value a.root s) path))) (effective c))) path ∙ ap of_components (sym (map_twice cs c.word c.positions))
      by (component k many path none one) =
          ap (λ o. pick o (value_at (root_value a.root s) a.path)) none ∙ ap (value_at (root_value a.root s)) path ∙ at_one k many (below k within some (0 ∷ []) one)
          ∙ ap (λ positions. of_components (map (slice_index cs) positions)) (sym one) ∙ ap of_components (sym (map_twice cs c.word c.positions))
      by (repeated k firsts many path is all equal) =
          ap (λ o. pick o (value_at (root_value a.root s) a.path)) is ∙ ap (λ path. of_components (map (slice_index (components_in (value_at (root_value a.root s) path))) firsts)) path
          ∙ ap (λ v. of_components (map (slice_index (components_in v)) firsts)) (at_one k many (below k within some firsts equal))
          ∙ ap (λ ws. of_components (map (slice_index ws) firsts)) (components_of (slice_index cs k ∷ [])) ∙ ap of_components (index_of_one (slice_index cs k) firsts all)
          ∙ ap of_components (sym (map_constant cs k firsts)) ∙ ap (λ positions. of_components (map (slice_index cs) positions)) (sym equal) ∙ ap of_components (sym (map_twice cs c.word c.positions))
