-- What an assignment makes of the value to which the numbers of a trail lead.
use Rattle.std.proofs.Common.{◌≡◌, refl, sym, ap, ap₂, ◌∙◌, subst, ℕ, zero, suc, ◌<◌, ◌≤◌, true, false, List, [], ◌∷◌, ◌++◌, map, set, length, Option, Some, None, arith}
use Rattle.std.specs.Prelude.{slice_index, slice_index_or}
use Rattle.std.specs.List.{AllByRecursion}
use Rattle.std.proofs.lemmas.List.{length-map}
use Rattle.gsl_types.specs.declared.ty.Ty.{Ty}
use Rattle.gsl_values.specs.declared.value.Value.{Value}
use Rattle.gsl_values.specs.declared.value.Value.TheVariants.{Many, Word}
use Rattle.gsl_tree.specs.Operations.{member_value, value_at, with_value_at}
use Rattle.gsl_tree.specs.Paths.{repeats}
use Rattle.gsl_tree.specs.Shapes.{Shape}
use Rattle.gsl_tree.specs.Values.{components_in, is_word_of, of_components, parts_in}
use Rattle.gsl_meaning.specs.Accesses.{put_each, with_picked}
use Rattle.gsl_lower_law.specs.Values.{AreWords, IsOf}
use Rattle.gsl_lower_law.proofs.Picking.{one_word}
use Rattle.gsl_lower_law_constructors.proofs.Shares.{words_in}
use Rattle.gsl_lower_law.proofs.Components.{components_of}
use Rattle.gsl_lower_law_places.specs.Components.{chosen}
use Rattle.gsl_lower_law_places.specs.Storing.{goes_to, with_components}
use Rattle.gsl_lower_law_places.proofs.Kept.{component_new, put_on}
use Rattle.gsl_lower_law_places.proofs.Variables.{parts_are, value_on}
use Rattle.gsl_lower_reads.specs.OfReaching.{ArePicked, Chosen, IsChosen, effective}
use Rattle.gsl_lower_reads.specs.OfReaching.{swizzled, component, repeated}
use Rattle.gsl_lower_writes.proofs.Once.{all_put, goes_below, goes_once, goes_there, length_put, no_twice, put_sets}

-- what stands there behind the assignment
abbrev pub renewed : Value → Option Chosen → Value → Value
renewed there None v = v
renewed there (Some c) v = with_components there (goes_to c.word c.positions) v

word_there : (ws : List ℕ) (k : ℕ) → k < length ws → slice_index_or (map Word ws) k (Word 0) ≡ Word (slice_index ws k)
word_there [] k less = absurd (let z : k < 0 = less in omega (arith, z))
word_there (w ∷ ws) zero less = refl
word_there (w ∷ ws) (suc k) less = word_there ws k (let z : suc k < suc (length ws) = less in omega (arith, z))

-- a component of a vector is a word
component_word : (shape : Shape) (v : Value) (k : ℕ) → IsOf shape v → 2 ≤ shape.1 → k < shape.1 → (word : ℕ) × (components_in (member_value v k) ≡ word ∷ [])
component_word shape v k is many less = (
  slice_index is.words k,
  ap components_in
      (ap (λ parts. slice_index_or parts k (Word 0)) (ap parts_in is.is ∙ parts_are is.words (omega (arith, many, is.count)))
      ∙ word_there is.words k (omega (arith, less, is.count)))
      ∙ components_of (slice_index is.words k ∷ []),
)

module _ (whole t : Ty) (numbers path : List ℕ) (c : Chosen) (picked : Option (List ℕ)) (x : IsChosen whole t numbers c path picked) (once : repeats c.positions ≡ false) (there v : Value) (is : IsOf c.shape there) (new : IsOf (c.shape.0, length c.positions) v) where
  goes : List ℕ
  goes = goes_to c.word c.positions

  are_there : effective c ≡ goes
  unfolding goes
  are_there = goes_there c.shape.1 c.word c.positions x.within once x.some

  below_there : (ks : List ℕ) → effective c ≡ ks → AllByRecursion (λ position. position < c.shape.1) ks
  unfolding goes
  below_there ks e = subst (AllByRecursion (λ position. position < c.shape.1)) (sym are_there ∙ e) (goes_below c.shape.1 c.word c.positions x.within once x.some)

  once_there : (ks : List ℕ) → effective c ≡ ks → repeats ks ≡ false
  unfolding goes
  once_there ks e = subst (λ ps. repeats ps ≡ false) (sym are_there ∙ e) (goes_once c.shape.1 c.word c.positions x.within once x.some)

  -- as the shader puts them
  put_is : of_components (put_each goes (components_in v) (components_in there)) ≡ with_components there goes v
  unfolding goes
  put_is = ap of_components (put_sets goes (components_in v) (components_in there))

  -- it is of the shape as before
  pub renewed_is : IsOf c.shape (renewed there (Some c) v)
  unfolding goes
  renewed_is = subst (IsOf c.shape) put_is (record {
    words = put_each goes (components_in v) (components_in there);
    is = refl;
    count = length_put goes (components_in v) (components_in there) ∙ ap length (words_in there is) ∙ is.count;
    fits = all_put (λ word. is_word_of c.shape.0 word ≡ true) goes (components_in v) (components_in there) (subst (AreWords c.shape.0) (sym (words_in v new)) new.fits) (subst (AreWords c.shape.0) (sym (words_in there is)) is.fits);
  })

  module _ (old : Value) (at : value_at old numbers ≡ there) where
    -- one component alone
    one_put : (k : ℕ) → 2 ≤ c.shape.1 → effective c ≡ k ∷ [] → with_value_at old (numbers ++ k ∷ []) v ≡ with_value_at old numbers (renewed there (Some c) v)
    unfolding goes
    one_put k many one =
        let count : length c.positions ≡ 1 = sym (length-map c.positions (chosen c.word)) ∙ ap length one in
        put_on old numbers k v ∙ ap (λ w. with_value_at old numbers (Many (set (parts_in w) k v))) at
        ∙ ap (with_value_at old numbers) (component_new c.shape there v k is (subst (λ n. IsOf (c.shape.0, n) v) count new) many)
        ∙ ap (λ ps. with_value_at old numbers (with_components there ps v)) (sym one ∙ are_there)

    -- a swizzle of one component, which is that component
    one_again : (k : ℕ) (firsts : List ℕ) → 2 ≤ c.shape.1 → path ≡ numbers ++ k ∷ [] → picked ≡ Some firsts → AllByRecursion (λ first. first < 1) firsts → effective c ≡ map (λ first. k) firsts
        → with_value_at old path (with_picked picked (value_at old path) v) ≡ with_value_at old numbers (renewed there (Some c) v)
    one_again k [] many path_is picked_is below equal = absurd (let some = x.some in let none : length c.positions ≡ 0 = sym (length-map c.positions (chosen c.word)) ∙ ap length equal in omega (arith, some, none))
    one_again k (suc n ∷ firsts) many path_is picked_is below equal = absurd (let less : suc n < 1 = below.0 in omega (arith, less))
    one_again k (zero ∷ next ∷ firsts) many path_is picked_is below equal = absurd (no_twice k (map (λ first. k) firsts) (once_there (k ∷ k ∷ map (λ first. k) firsts) equal))
    one_again k (zero ∷ []) many path_is picked_is below equal =
        let count : length c.positions ≡ 1 = sym (length-map c.positions (chosen c.word)) ∙ ap length equal in
        let words = one_word new.words (new.count ∙ count) in
        let is_v : v ≡ of_components (words.0 ∷ []) = new.is ∙ ap of_components words.1 in
        let in_v : components_in v ≡ words.0 ∷ [] = words_in v new ∙ words.1 in
        let before = component_word c.shape there k is many (below_there (k ∷ []) equal).0 in
        let in_there : components_in (value_at old (numbers ++ k ∷ [])) ≡ before.0 ∷ [] = ap components_in (value_on old numbers (k ∷ []) ∙ ap (λ w. member_value w k) at) ∙ before.1 in
        ap (λ o. with_value_at old path (with_picked o (value_at old path) v)) picked_is
        ∙ ap (λ path. with_value_at old path (of_components (put_each (0 ∷ []) (components_in v) (components_in (value_at old path))))) path_is
        ∙ ap₂ (λ ws xs. with_value_at old (numbers ++ k ∷ []) (of_components (put_each (0 ∷ []) ws xs))) in_v in_there
        ∙ ap (with_value_at old (numbers ++ k ∷ [])) (sym is_v)
        ∙ one_put k many equal

    pub picked_stored : with_value_at old path (with_picked picked (value_at old path) v) ≡ with_value_at old numbers (renewed there (Some c) v)
    unfolding goes
    picked_stored = by x.are
      where
        by : ArePicked c.shape.1 numbers (effective c) path picked → with_value_at old path (with_picked picked (value_at old path) v) ≡ with_value_at old numbers (renewed there (Some c) v)
        by (swizzled path_is picked_is) =
            ap (λ o. with_value_at old path (with_picked o (value_at old path) v)) picked_is
            ∙ ap (λ path. with_value_at old path (of_components (put_each (effective c) (components_in v) (components_in (value_at old path))))) path_is
            ∙ ap (λ w. with_value_at old numbers (of_components (put_each (effective c) (components_in v) (components_in w)))) at
            ∙ ap (λ ps. with_value_at old numbers (of_components (put_each ps (components_in v) (components_in there)))) are_there
            ∙ ap (with_value_at old numbers) put_is
        by (component k many path_is none one) = ap (λ o. with_value_at old path (with_picked o (value_at old path) v)) none ∙ ap (λ path. with_value_at old path v) path_is ∙ one_put k many one
        by (repeated k firsts many path_is picked_is below equal) = one_again k firsts many path_is picked_is below equal
