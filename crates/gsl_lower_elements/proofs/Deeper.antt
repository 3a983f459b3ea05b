-- An index more of a trail, and the component of a vector or a swizzle at it.
use Rattle.std.proofs.Common.{◌≡◌, refl, sym, ap, ◌∙◌, subst, inl, inr, ℕ, ◌<◌, ◌≤◌, ◌⊎◌, Bool, List, [], ◌∷◌, ◌++◌, map, length, Option, Some, None, arith}
use Rattle.std.specs.Prelude.{slice_index}
use Rattle.std.proofs.lemmas.List.{length-map}
use Rattle.gsl_types.specs.Known.{IsSound}
use Rattle.gsl_types.specs.declared.ty.Scalar.{Scalar}
use Rattle.gsl_types.specs.declared.ty.StructType.{StructType}
use Rattle.gsl_types.specs.declared.ty.Ty.{Ty}
use Rattle.gsl_tree.specs.Expressions.{element_of}
use Rattle.gsl_tree.specs.Operations.{length_of}
use Rattle.gsl_tree.specs.Shapes.{Shape, shape_of}
use Rattle.gsl_tree.specs.declared.unit.Block.{Block as Declared}
use Rattle.gsl_meaning.specs.Accesses.{Access, index_in, index_of}
use Rattle.gsl_lower_places.specs.declared.reached.Part.{Part}
use Rattle.gsl_lower_places.specs.declared.reached.Part.TheVariants.{Fixed, By}
use Rattle.gsl_lower_law_places.specs.Components.{AreWithin, chosen}
use Rattle.gsl_lower_reaching.specs.Trails.{ArePicked, ArePositions, Chosen, IsChosen, IsInside, IsMissing, IsOut, IsOutside, IsPicked, LacksComponent, LeadsOut, MayWrite, Trail, effective}
use Rattle.gsl_lower_reaching.specs.Trails.ArePicked.{swizzled, component, repeated}
use Rattle.gsl_lower_reaching.proofs.Counted.{component_shape, leads_out, vector_counted}
use Rattle.gsl_lower_reaching.proofs.Lists.{index_has, index_mapped}
use Rattle.gsl_lower_reaching.proofs.Parts.{longer, whole_picked}

-- ---- what is picked then

-- a component is picked by a word that was there before, or by the position that was found
abbrev pub reworded : Option ℕ → ℕ → Option ℕ
reworded None position = Some position
reworded (Some word) position = Some word

abbrev pub component_chosen : Shape → Part → ℕ → Chosen
component_chosen shape (Fixed number) k = record { shape = shape; word = None; positions = k ∷ [] }
component_chosen shape (By s id) k = record { shape = shape; word = Some k; positions = 0 ∷ [] }

abbrev pub rechosen : Part → ℕ → Chosen → Chosen
rechosen (Fixed number) k c = record c { positions = slice_index c.positions k ∷ [] }
rechosen (By s id) k c = record { shape = c.shape; word = reworded c.word (slice_index c.positions k); positions = 0 ∷ [] }

abbrev pub next_chosen : Shape → Part → ℕ → Option Chosen → Chosen
next_chosen shape part k None = component_chosen shape part k
next_chosen shape part k (Some c) = rechosen part k c

abbrev pub component_trail : Shape → Part → ℕ → Trail → Trail
component_trail shape part k l = record l { picks = Some (next_chosen shape part k l.picks) }

-- the trail behind an index into what is of a type
abbrev pub indexed_trail : Option Shape → Part → ℕ → Trail → Trail
indexed_trail None part k l = longer l k
indexed_trail (Some shape) part k l = component_trail shape part k l

-- an index that is known is below the count of components
abbrev pub KnownBelow : Shape → ℕ → Part → Type 0
KnownBelow shape k (Fixed number) = k < shape.1
KnownBelow shape k (By s id) = Unit {0}

-- ---- of a vector

component_positions : (shape : Shape) (part : Part) (k : ℕ) → effective (component_chosen shape part k) ≡ k ∷ []
component_positions shape (Fixed number) k = refl
component_positions shape (By s id) k = refl

component_same : (shape : Shape) (part : Part) (k : ℕ) → (component_chosen shape part k).shape ≡ shape
component_same shape (Fixed number) k = refl
component_same shape (By s id) k = refl

component_one : (shape : Shape) (part : Part) (k : ℕ) → length (component_chosen shape part k).positions ≡ 1
component_one shape (Fixed number) k = refl
component_one shape (By s id) k = refl

component_within : (shape : Shape) (part : Part) (k : ℕ) → k < shape.1 → AreWithin shape.1 (component_chosen shape part k).word (component_chosen shape part k).positions
component_within shape (Fixed number) k less = (less, tt)
component_within shape (By s id) k less = (less, (let z : 0 < 1 = omega arith in z, tt))

may_component : (writes : Bool) (shape : Shape) (part : Part) (k : ℕ) → MayWrite writes (Some (component_chosen shape part k))
may_component writes shape (Fixed number) k e = refl
may_component writes shape (By s id) k e = refl

-- ---- of a swizzle

rechosen_same : (part : Part) (k : ℕ) (c : Chosen) → (rechosen part k c).shape ≡ c.shape
rechosen_same (Fixed number) k c = refl
rechosen_same (By s id) k c = refl

rechosen_one : (part : Part) (k : ℕ) (c : Chosen) → length (rechosen part k c).positions ≡ 1
rechosen_one (Fixed number) k c = refl
rechosen_one (By s id) k c = refl

rechosen_positions : (part : Part) (k : ℕ) (c : Chosen) → effective (rechosen part k c) ≡ chosen c.word (slice_index c.positions k) ∷ []
rechosen_positions (Fixed number) k c = refl
rechosen_positions (By s id) k c = by c.word
  where
    by : (word : Option ℕ) → map (chosen (reworded word (slice_index c.positions k))) (0 ∷ []) ≡ chosen word (slice_index c.positions k) ∷ []
    by None = refl
    by (Some word) = refl

rechosen_within : (part : Part) (k : ℕ) (c : Chosen) → AreWithin c.shape.1 c.word c.positions → k < length c.positions → AreWithin c.shape.1 (rechosen part k c).word (rechosen part k c).positions
rechosen_within (Fixed number) k c within less = by c.word within
  where
    by : (word : Option ℕ) → AreWithin c.shape.1 word c.positions → AreWithin c.shape.1 word (slice_index c.positions k ∷ [])
    by None within = (index_has (λ position. position < c.shape.1) c.positions k within less, tt)
    by (Some word) within = (within.0, (index_has (λ position. position < 1) c.positions k within.1 less, tt))
rechosen_within (By s id) k c within less = by c.word within
  where
    by : (word : Option ℕ) → AreWithin c.shape.1 word c.positions → AreWithin c.shape.1 (reworded word (slice_index c.positions k)) (0 ∷ [])
    by None within = (index_has (λ position. position < c.shape.1) c.positions k within less, (let z : 0 < 1 = omega arith in z, tt))
    by (Some word) within = (within.0, (let z : 0 < 1 = omega arith in z, tt))

rechosen_at : (part : Part) (k : ℕ) (c : Chosen) → ArePositions c.shape.1 c.word c.positions → k < length c.positions → ArePositions c.shape.1 (rechosen part k c).word (rechosen part k c).positions
rechosen_at (Fixed number) k c within less = by c.word within
  where
    by : (word : Option ℕ) → ArePositions c.shape.1 word c.positions → ArePositions c.shape.1 word (slice_index c.positions k ∷ [])
    by None within = (index_has (λ position. position < c.shape.1) c.positions k within less, tt)
    by (Some word) within = (index_has (λ position. position < 1) c.positions k within less, tt)
rechosen_at (By s id) k c within less = by c.word
  where
    by : (word : Option ℕ) → ArePositions c.shape.1 (reworded word (slice_index c.positions k)) (0 ∷ [])
    by None = (let z : 0 < 1 = omega arith in z, tt)
    by (Some word) = (let z : 0 < 1 = omega arith in z, tt)

rechosen_word : (part : Part) (k word : ℕ) (c : Chosen) → c.word ≡ Some word → (rechosen part k c).word ≡ Some word
rechosen_word (Fixed number) k word c is = is
rechosen_word (By s id) k word c is = ap (λ o. reworded o (slice_index c.positions k)) is

may_rechosen : (writes : Bool) (part : Part) (k : ℕ) (c : Chosen) → MayWrite writes (Some (rechosen part k c))
may_rechosen writes (Fixed number) k c e = refl
may_rechosen writes (By s id) k c e = refl

-- ---- in bounds

module _ (structs : List StructType) (blocks : List Declared) (writes : Bool) (base t : Ty) (part : Part) (k : ℕ) (sound : IsSound (length structs) base) (has : element_of base ≡ Some t) where
  module _ (shape : Shape) (of : shape_of base ≡ Some shape) (less : k < length_of base) where
    vector : (length_of base ≡ shape.1) × (2 ≤ shape.1)
    vector = vector_counted (length structs) base t shape sound has of

    one_of : (c : Chosen) → c.shape ≡ shape → length c.positions ≡ 1 → shape_of t ≡ Some (c.shape.0, length c.positions)
    one_of c same one = component_shape base t shape has of ∙ ap (λ (s : Shape). Some (s.0, 1)) (sym same) ∙ ap (λ n. Some (c.shape.0, n)) (sym one)

    picks_component : (whole : Ty) (numbers path : List ℕ) (picked : Option (List ℕ)) → whole ≡ base → path ≡ numbers → picked ≡ None → IsPicked whole t numbers (Some (component_chosen shape part k)) (path ++ k ∷ []) picked
    picks_component whole numbers path picked same path_is none = record {
      of = ap shape_of same ∙ of ∙ ap Some (sym (component_same shape part k));
      gives = one_of (component_chosen shape part k) (component_same shape part k) (component_one shape part k);
      some = (let one : length (component_chosen shape part k).positions ≡ 1 = component_one shape part k in omega (arith, one));
      within = subst (λ (s : Shape). AreWithin s.1 (component_chosen shape part k).word (component_chosen shape part k).positions) (sym (component_same shape part k)) (component_within shape part k (omega (arith, less, vector.0)));
      are = component k (subst (λ (s : Shape). 2 ≤ s.1) (sym (component_same shape part k)) vector.1) (ap (λ path. path ++ k ∷ []) path_is) none (component_positions shape part k);
    }

    module _ (c : Chosen) (numbers : List ℕ) (whole : Ty) (gives : shape_of base ≡ Some (c.shape.0, length c.positions)) where
      several : (length_of base ≡ length c.positions) × (2 ≤ length c.positions)
      several = vector_counted (length structs) base t (c.shape.0, length c.positions) sound has gives

      within_count : k < length c.positions
      within_count = omega (arith, less, several.0)

      gives_one : shape_of t ≡ Some ((rechosen part k c).shape.0, length (rechosen part k c).positions)
      gives_one = component_shape base t (c.shape.0, length c.positions) has gives ∙ ap (λ (s : Shape). Some (s.0, 1)) (sym (rechosen_same part k c)) ∙ ap (λ n. Some ((rechosen part k c).shape.0, n)) (sym (rechosen_one part k c))

      -- the position that is picked then
      position_is : chosen c.word (slice_index c.positions k) ≡ slice_index (effective c) k
      position_is = sym (index_mapped (chosen c.word) c.positions k within_count)

      picks_again : (path : List ℕ) (picked : Option (List ℕ)) → IsChosen whole base numbers c path picked → ArePicked c.shape.1 numbers (effective c) path picked
          → (a : Access) → a.path ≡ path → a.picked ≡ picked → IsPicked whole t numbers (Some (rechosen part k c)) (index_of a k).path (index_of a k).picked
      picks_again path picked x (swizzled path_is is) a path_at picked_at =
          subst (λ o. IsPicked whole t numbers (Some (rechosen part k c)) (index_in a o k).path (index_in a o k).picked) (sym (picked_at ∙ is))
          (record {
            of = x.of ∙ ap Some (sym (rechosen_same part k c));
            gives = gives_one;
            some = (let one : length (rechosen part k c).positions ≡ 1 = rechosen_one part k c in omega (arith, one));
            within = subst (λ (s : Shape). AreWithin s.1 (rechosen part k c).word (rechosen part k c).positions) (sym (rechosen_same part k c)) (rechosen_within part k c x.within within_count);
            are = swizzled (path_at ∙ path_is) (ap (λ n. Some (n ∷ [])) (sym position_is) ∙ ap Some (sym (rechosen_positions part k c)));
          })
      picks_again path picked x (component j many path_is none one) a path_at picked_at =
          absurd (let count : length c.positions ≡ 1 = sym (length-map c.positions (chosen c.word)) ∙ ap length one in let two = several.1 in omega (arith, two, count))
      picks_again path picked x (repeated j firsts many path_is is all equal) a path_at picked_at =
          let count : length firsts ≡ length c.positions = sym (length-map firsts (λ first. j)) ∙ ap length (sym equal) ∙ length-map c.positions (chosen c.word) in
          let near : k < length firsts = omega (arith, within_count, count) in
          subst (λ o. IsPicked whole t numbers (Some (rechosen part k c)) (index_in a o k).path (index_in a o k).picked) (sym (picked_at ∙ is))
          (record {
            of = x.of ∙ ap Some (sym (rechosen_same part k c));
            gives = gives_one;
            some = (let one : length (rechosen part k c).positions ≡ 1 = rechosen_one part k c in omega (arith, one));
            within = subst (λ (s : Shape). AreWithin s.1 (rechosen part k c).word (rechosen part k c).positions) (sym (rechosen_same part k c)) (rechosen_within part k c x.within within_count);
            are = repeated j (slice_index firsts k ∷ []) (subst (λ (s : Shape). 2 ≤ s.1) (sym (rechosen_same part k c)) many) (path_at ∙ path_is) refl (index_has (λ first. first < 1) firsts k all near, tt)
                (rechosen_positions part k c ∙ ap (λ n. n ∷ []) (position_is ∙ ap (λ l. slice_index l k) equal ∙ index_mapped (λ first. j) firsts k near));
          })

    picks_indexed : (whole : Ty) (numbers : List ℕ) (o : Option Chosen) (a : Access) → IsPicked whole base numbers o a.path a.picked → IsPicked whole t numbers (Some (next_chosen shape part k o)) (index_of a k).path (index_of a k).picked
    picks_indexed whole numbers None a (same, path_is, none) = subst (λ o. IsPicked whole t numbers (Some (component_chosen shape part k)) (index_in a o k).path (index_in a o k).picked) (sym none) (picks_component whole numbers a.path a.picked same path_is none)
    picks_indexed whole numbers (Some c) a x = picks_again c numbers whole x.gives a.path a.picked x x.are a refl refl

    may_indexed : (o : Option Chosen) → MayWrite writes (Some (next_chosen shape part k o))
    may_indexed None = may_component writes shape part k
    may_indexed (Some c) = may_rechosen writes part k c

    root_indexed : (a : Access) (o : Option (List ℕ)) → (index_in a o k).root ≡ a.root
    root_indexed a None = refl
    root_indexed a (Some positions) = refl

    pub component_inside : (a : Access) (l : Trail) → IsInside structs blocks writes base a l → IsInside structs blocks writes t (index_of a k) (component_trail shape part k l)
    component_inside a l x = record {
      begins = root_indexed a a.picked ∙ x.begins;
      whole = x.whole;
      sound = x.sound;
      leads = x.leads;
      picks = picks_indexed x.whole (l.front ++ l.words) l.picks a x.picks;
      may = may_indexed l.picks;
      named = x.named;
    }

  -- ---- out of bounds already: an index more, which is below the count of what a swizzle picks, and of a vector where it is known

  module _ (shape : Shape) (of : shape_of base ≡ Some shape) where
    component_at : (one : Part) → KnownBelow shape k one → ArePositions shape.1 (component_chosen shape one k).word (component_chosen shape one k).positions
    component_at (Fixed number) less = (less, tt)
    component_at (By s id) less = (let z : 0 < 1 = omega arith in z, tt)

    missing_again : (ty : Ty) (words : List ℕ) (c : Chosen) → k < length c.positions → IsMissing structs ty base words c → IsMissing structs ty t words (rechosen part k c)
    missing_again ty words c less x = record {
      gives = component_shape base t (c.shape.0, length c.positions) has x.gives ∙ ap (λ (s : Shape). Some (s.0, 1)) (sym (rechosen_same part k c)) ∙ ap (λ n. Some ((rechosen part k c).shape.0, n)) (sym (rechosen_one part k c));
      some = (let one : length (rechosen part k c).positions ≡ 1 = rechosen_one part k c in omega (arith, one));
      within = subst (λ (s : Shape). ArePositions s.1 (rechosen part k c).word (rechosen part k c).positions) (sym (rechosen_same part k c)) (rechosen_at part k c x.within less);
      out = by x.out;
    }
      where
        by : LeadsOut structs ty words ⊎ LacksComponent structs ty words c → LeadsOut structs ty words ⊎ LacksComponent structs ty words (rechosen part k c)
        by (inl out) = inl out
        by (inr y) = inr (record {
          whole = y.whole;
          sound = y.sound;
          leads = y.leads;
          of = y.of ∙ ap Some (sym (rechosen_same part k c));
          word = y.word;
          is = rechosen_word part k y.word c y.is;
          several = subst (λ (s : Shape). 2 ≤ s.1) (sym (rechosen_same part k c)) y.several;
          outside = subst (λ (s : Shape). s.1 ≤ y.word) (sym (rechosen_same part k c)) y.outside;
        })

    missing_component : (ty : Ty) (words : List ℕ) → KnownBelow shape k part → LeadsOut structs ty words ⊎ LacksComponent structs ty words (component_chosen shape part k) → IsMissing structs ty t words (component_chosen shape part k)
    missing_component ty words less out = record {
      gives = component_shape base t shape has of ∙ ap (λ (s : Shape). Some (s.0, 1)) (sym (component_same shape part k)) ∙ ap (λ n. Some ((component_chosen shape part k).shape.0, n)) (sym (component_one shape part k));
      some = (let one : length (component_chosen shape part k).positions ≡ 1 = component_one shape part k in omega (arith, one));
      within = subst (λ (s : Shape). ArePositions s.1 (component_chosen shape part k).word (component_chosen shape part k).positions) (sym (component_same shape part k)) (component_at part less);
      out = out;
    }

    pub component_outside : (l : Trail) → KnownBelow shape k part → ((c : Chosen) → l.picks ≡ Some c → k < length c.positions) → IsOutside structs blocks writes base l → IsOutside structs blocks writes t (component_trail shape part k l)
    component_outside l less near x = record { out = by l.picks near x.out; may = may l.picks; named = x.named }
      where
        by : (o : Option Chosen) → ((c : Chosen) → o ≡ Some c → k < length c.positions) → IsOut structs l.ty base l.words o → IsMissing structs l.ty t l.words (next_chosen shape part k o)
        by None near out = missing_component l.ty l.words less (inl out)
        by (Some c) near out = missing_again l.ty l.words c (near c refl) out

        may : (o : Option Chosen) → MayWrite writes (Some (next_chosen shape part k o))
        may None = may_component writes shape part k
        may (Some c) = may_rechosen writes part k c

  -- ---- out of bounds here

  -- an element that is not there
  pub longer_lost : (a : Access) (l : Trail) → ((shape : Shape) → shape_of base ≡ Some shape → ⊥) → length_of base ≤ k → IsInside structs blocks writes base a l → IsOutside structs blocks writes t (longer l k)
  longer_lost a l none most x =
      let w = whole_picked x.whole base (l.front ++ l.words) l.picks a.path a.picked none x.picks in
      record {
        out = subst (λ c. IsOut structs l.ty t (l.words ++ k ∷ []) c) (sym w.none) (leads_out structs l.ty l.words x.whole t k x.leads (ap element_of w.same ∙ has) (subst (λ u. length_of u ≤ k) (sym w.same) most));
        may = x.may;
        named = x.named;
      }

-- a component that is not there
pub component_lost : (structs : List StructType) (blocks : List Declared) (writes : Bool) (base t : Ty) (s : Scalar) (id k : ℕ) (shape : Shape) (a : Access) (l : Trail) → IsSound (length structs) base → element_of base ≡ Some t → shape_of base ≡ Some shape → l.picks ≡ None → length_of base ≤ k
    → IsInside structs blocks writes base a l → IsOutside structs blocks writes t (component_trail shape (By s id) k l)
component_lost structs blocks writes base t s id k shape a l sound has of none most x =
    let v = vector_counted (length structs) base t shape sound has of in
    let is : IsPicked x.whole base (l.front ++ l.words) None a.path a.picked = subst (λ c. IsPicked x.whole base (l.front ++ l.words) c a.path a.picked) none x.picks in
    record {
      out = subst (λ c. IsMissing structs l.ty t l.words (next_chosen shape (By s id) k c)) (sym none)
          (missing_component structs blocks writes base t (By s id) k sound has shape of l.ty l.words tt
          (inr (record { whole = x.whole; sound = x.sound; leads = x.leads; of = ap shape_of is.0 ∙ of; word = k; is = refl; several = v.1; outside = (let same = v.0 in omega (arith, same, most)) })));
      may = subst (λ c. MayWrite writes (Some (next_chosen shape (By s id) k c))) (sym none) (λ e. refl);
      named = x.named;
    }
