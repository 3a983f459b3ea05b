-- Parts of variables, to which indexes lead that are known, stand there in whatever state a shader is in.
use Rattle.std.proofs.Common.{◌≡◌, refl, sym, ap, ◌∙◌, subst, inl, inr, ℕ, zero, suc, ◌<◌, ◌≤◌, Bool, true, false, List, [], ◌∷◌, ◌++◌, length, map, replicate, Option, Some, None, if◌then◌else◌, arith}
use Rattle.std.specs.Prelude.{nat_lt, slice_index}
use Rattle.std.specs.List.{list_all}
use Rattle.std.proofs.lemmas.Bool.{and_parts, false≢true, lt-ltb, ltb-true}
use Rattle.std.proofs.lemmas.List.{length-map, length-replicate, length-take-le}
use Rattle.gsl_types.specs.Known.{AreStructs, IsSound}
use Rattle.gsl_types.specs.Structs.{numbered}
use Rattle.gsl_types.specs.declared.ty.Scalar.{Scalar}
use Rattle.gsl_types.specs.declared.ty.StructType.{StructType}
use Rattle.gsl_types.specs.declared.ty.Ty.{Ty}
use Rattle.gsl_types.specs.declared.ty.Ty.TheOpen.{Ty-F}
use Rattle.gsl_types.specs.declared.ty.Ty.TheVariants.{rolls-Array, rolls-Runtime, rolls-Vector}
use Rattle.gsl_types.specs.declared.ty.Ty.TheViews.{out-Ty, roll-Ty, roll-out-Ty}
use Rattle.gsl_types.proofs.Layers.{over_runtime}
use Rattle.gsl_values.specs.Vectors.{components as picked}
use Rattle.gsl_values.specs.declared.lane.Lanes.{Lanes}
use Rattle.gsl_values.specs.declared.value.Value.{Value}
use Rattle.gsl_values.specs.declared.value.Value.TheOpen.{Value-F}
use Rattle.gsl_values.specs.declared.value.Value.TheViews.{out-Value}
use Rattle.gsl_tree.specs.Around.{Around}
use Rattle.gsl_tree.specs.Expressions.{HasMemberType, HasPartType, IsSwizzle, element_kind, element_of}
use Rattle.gsl_tree.specs.Operations.{length_kind, length_of, member_value, value_at}
use Rattle.gsl_tree.specs.Shapes.{Shape, of_shape, shape_of}
use Rattle.gsl_tree.specs.Values.{all_pass, components_in, has_parts_layer, is_scalar, is_value_of, is_word_of, of_components, parts_in, parts_layer, value_meaning, word_in}
use Rattle.gsl_tree.proofs.Nodes.{value_of_array, value_of_vector}
use Rattle.gsl_typed_law.proofs.Builtins.{index_fits as word_fits}
use Rattle.gsl_typed_law.proofs.Components.{AllFit, components_fill, filled_typed, some_same}
use Rattle.gsl_typed_law.proofs.Parts.{value_typed}
use Rattle.gsl_meaning.specs.Accesses.{Access, Loose, Root, count_parts, found, index_in, index_of, is_block, member_of, parts_at, pick, picked_of, read, root_value, swizzle_of, told, whole}
use Rattle.gsl_meaning.specs.Expressions.{member_root}
use Rattle.gsl_meaning.specs.Running.{Run, Got, Strays, behind, given, indexing, told_by, ◌>>=◌}
use Rattle.gsl_meaning.specs.State.{State}
use Rattle.gsl_lower_traits_law.specs.Quiet.{AreHeld, IsThere}
use Rattle.gsl_lower_traits_law.proofs.InBlocks.{FitsIn, index_fits, index_picked, member_fits, read_in, root_fits, swizzle_again, swizzle_fits}
use Rattle.gsl_lower_traits_law.proofs.Shapes.{component_of, no_shape, shape_back}

-- ---- parts of values

passed_count : (tests : List (Value → Bool)) (vs : List Value) → all_pass tests vs ≡ true → length vs ≡ length tests
passed_count [] [] pass = refl
passed_count [] (v ∷ vs) pass = absurd (false≢true pass)
passed_count (test ∷ tests) [] pass = absurd (false≢true pass)
passed_count (test ∷ tests) (v ∷ vs) pass = ap suc (passed_count tests vs (and_parts (test v) (all_pass tests vs) pass).1)

parts_count : (tests : List (Value → Bool)) (layer : Value-F Value) → has_parts_layer tests layer ≡ true → length (parts_layer layer) ≡ length tests
parts_count tests (Value-F.Word word) is = absurd (false≢true is)
parts_count tests (Value-F.Many parts) is = passed_count tests parts is

-- a vector or an array has as many parts as its type tells
counted : (structs : List StructType) (base element : Ty) (v : Value) → element_of base ≡ Some element → is_value_of structs base v ≡ true → length (parts_in v) ≡ length_of base
counted structs base element v has fits = by (out-Ty base) (roll-out-Ty base) has
  where
    by : (layer : Ty-F Ty) → roll-Ty layer ≡ base → element_kind layer ≡ Some element → length (parts_in v) ≡ length_kind layer
    by Ty-F.Void e is = absurd cc
    by (Ty-F.One s) e is = absurd cc
    by (Ty-F.Vector s n) e is = parts_count (replicate n (is_scalar s)) (out-Value v) (sym (ap (λ u. is_value_of structs u v) (sym e ∙ rolls-Vector s n) ∙ value_of_vector structs s n v) ∙ fits) ∙ length-replicate n (is_scalar s)
    by (Ty-F.Array other n) e is = parts_count (replicate n (is_value_of structs other)) (out-Value v) (sym (ap (λ u. is_value_of structs u v) (sym e ∙ rolls-Array other n) ∙ value_of_array structs other n v) ∙ fits) ∙ length-replicate n (is_value_of structs other)
    by (Ty-F.Runtime other) e is = absurd (false≢true (sym (ap (λ u. is_value_of structs u v) (sym e ∙ rolls-Runtime other) ∙ ap (λ (test : Value → Bool). test v) (over_runtime value_meaning (numbered value_meaning structs) other)) ∙ fits))
    by (Ty-F.Struct number) e is = absurd cc

value_at_end : (v : Value) (path : List ℕ) (number : ℕ) → value_at v (path ++ number ∷ []) ≡ member_value (value_at v path) number
value_at_end v [] number = refl
value_at_end v (first ∷ path) number = value_at_end (member_value v first) path number

-- ---- components that are picked

each_at : (s : Scalar) (f : ℕ → ℕ) (positions : List ℕ) (k : ℕ) → AllFit s (map f positions) → k < length positions → is_word_of s (f (slice_index positions k)) ≡ true
each_at s f [] k fit below = absurd (omega (arith, below))
each_at s f (position ∷ positions) zero fit below = fit.0
each_at s f (position ∷ positions) (suc k) fit below = each_at s f positions k fit.1 (omega (arith, below))

picked_fit : (s : Scalar) (words positions : List ℕ) → AllFit s words → list_all (λ position. nat_lt position (length words)) positions ≡ true → AllFit s (map (slice_index words) positions)
picked_fit s words [] fit below = tt
picked_fit s words (position ∷ positions) fit below =
    let both = and_parts (nat_lt position (length words)) (list_all (λ position. nat_lt position (length words)) positions) below in
    (word_fits s words position fit (ltb-true position (length words) both.0), picked_fit s words positions fit both.1)

again_fit : (s : Scalar) (f : ℕ → ℕ) (before positions : List ℕ) → AllFit s (map f before) → list_all (λ position. nat_lt position (length before)) positions ≡ true → AllFit s (map f (map (slice_index before) positions))
again_fit s f before [] fit below = tt
again_fit s f before (position ∷ positions) fit below =
    let both = and_parts (nat_lt position (length before)) (list_all (λ position. nat_lt position (length before)) positions) below in
    (each_at s f before position fit (ltb-true position (length before) both.0), again_fit s f before positions fit both.1)

-- ---- outside blocks

module _ (structs : List StructType) (are : AreStructs structs) where
  -- what is picked of a value, or all of it, is a value of a type
  abbrev pub Fits : Ty → Option (List ℕ) → Value → Type 0
  Fits t None v = is_value_of structs t v ≡ true
  Fits t (Some positions) v = (s : Scalar) × (of_shape (s, length positions) ≡ t) × AllFit s (map (slice_index (components_in v)) positions)

  pick_fits : (t : Ty) (o : Option (List ℕ)) (v : Value) → Fits t o v → is_value_of structs t (pick o v) ≡ true
  pick_fits t None v fits = fits
  pick_fits t (Some positions) v (s, is, all) =
      subst (λ u. is_value_of structs u (of_components (map (slice_index (components_in v)) positions)) ≡ true) is
      (filled_typed structs s (length positions) (map (slice_index (components_in v)) positions) (length-map positions (slice_index (components_in v)), all))

  index_picks : (base : Ty) (number : ℕ) (t : Ty) (v : Value) (positions : List ℕ) → element_of base ≡ Some t → number < length_of base → Fits base (Some positions) v → (number < length positions) × Fits t (Some (slice_index positions number ∷ [])) v
  index_picks base number t v positions element less (s, is, all) =
      let vector = component_of s (length positions) t (ap element_of is ∙ element) in
      let count : length_of base ≡ length positions = sym (ap length_of is) ∙ vector.1 in
      let within : number < length positions = omega (arith, less, count) in
      (within, (s, vector.0, (each_at s (slice_index (components_in v)) positions number all within, tt)))

  swizzle_all : (base : Ty) (shape : Shape) (v : Value) (positions : List ℕ) → shape_of base ≡ Some shape → list_all (λ position. nat_lt position shape.1) positions ≡ true → Fits base None v → AllFit shape.0 (map (slice_index (components_in v)) positions)
  swizzle_all base shape v positions is below fits =
      let fill = components_fill structs base shape v is fits in
      picked_fit shape.0 (components_in v) positions fill.1 (subst (λ n. list_all (λ position. nat_lt position n) positions ≡ true) (sym fill.0) below)

  swizzle_picks : (base : Ty) (shape : Shape) (v : Value) (before positions : List ℕ) → shape_of base ≡ Some shape → list_all (λ position. nat_lt position shape.1) positions ≡ true → Fits base (Some before) v
      → (s : Scalar) × ((s, length before) ≡ shape) × AllFit s (map (slice_index (components_in v)) (map (slice_index before) positions))
  swizzle_picks base shape v before positions is below (s, e, all) =
      let same : (s, length before) ≡ shape = some_same (sym (shape_back s (length before)) ∙ ap shape_of e ∙ is) in
      (s, same, again_fit s (slice_index (components_in v)) before positions all (subst (λ (x : Shape). list_all (λ position. nat_lt position x.1) positions ≡ true) (sym same) below))

-- ---- where an access leads

module _ (structs : List StructType) (are : AreStructs structs) where
  -- In a block there are words, elsewhere a value of a type.
  abbrev pub FitsBy : Bool → Ty → Option (List ℕ) → Value → Type 0
  FitsBy false = Fits structs are
  FitsBy true = FitsIn structs are

  abbrev pub StandsAt : Ty → Access → State → Type 0
  StandsAt t x s = FitsBy (is_block x.root) t x.picked (value_at (root_value x.root s) x.path)

  read_fits : (others : List StructType) (t : Ty) (shape : Shape) (x : Access) (s : State) → IsSound (length structs) t → shape_of t ≡ Some shape → StandsAt t x s → is_value_of structs t (read others t x s) ≡ true
  read_fits others t shape x s sound_t is = by (is_block x.root)
    where
      by : (b : Bool) → FitsBy b t x.picked (value_at (root_value x.root s) x.path) → is_value_of structs t (if b then told others t (found x s) else found x s) ≡ true
      by false fits = pick_fits structs are t x.picked (value_at (root_value x.root s) x.path) fits
      by true fits = read_in structs are others t shape x.picked (value_at (root_value x.root s) x.path) sound_t is fits

  member_stands : (base : Ty) (number : ℕ) (t : Ty) (x : Access) (s : State) → HasPartType structs base number t → StandsAt base x s → StandsAt t (member_of x number) s
  member_stands base number t x s is = by (is_block x.root) x.picked
    where
      by : (b : Bool) (o : Option (List ℕ)) → FitsBy b base o (value_at (root_value x.root s) x.path) → FitsBy b t o (value_at (root_value x.root s) (x.path ++ number ∷ []))
      by false None fits =
          subst (λ v. is_value_of structs t v ≡ true) (sym (value_at_end (root_value x.root s) x.path number))
          (value_typed structs are base (number ∷ []) t (value_at (root_value x.root s) x.path) (t, inl is, refl) fits)
      by true None fits = subst (FitsIn structs are t None) (sym (value_at_end (root_value x.root s) x.path number)) (member_fits structs are base number t (value_at (root_value x.root s) x.path) is fits)
      by false (Some positions) (sc, e, all) = absurd (no_shape sc (length positions) is.0 (e ∙ is.3))
      by true (Some positions) (sc, e, all) = absurd (no_shape sc (length positions) is.0 (e ∙ is.3))

  swizzle_stands : (base : Ty) (lanes : Lanes) (t : Ty) (x : Access) (s : State) → lanes.count ≤ length lanes.words → IsSwizzle base lanes t → StandsAt base x s → StandsAt t (swizzle_of x (picked lanes)) s
  swizzle_stands base lanes t x s enough (shape, is, lane, below, gives) = by (is_block x.root) x.picked
    where
      count : length (picked lanes) ≡ lanes.count
      count = length-take-le lanes.count lanes.words enough

      again : (sc : Scalar) (before : List ℕ) → (sc, length before) ≡ shape → of_shape (sc, length (map (slice_index before) (picked lanes))) ≡ t
      again sc before same = ap (λ n. of_shape (sc, n)) (length-map (picked lanes) (slice_index before) ∙ count) ∙ ap (λ (x : Shape). of_shape (x.0, lanes.count)) same ∙ gives

      by : (b : Bool) (o : Option (List ℕ)) → FitsBy b base o (value_at (root_value x.root s) x.path) → FitsBy b t (Some (picked_of o (picked lanes))) (value_at (root_value x.root s) x.path)
      by false None fits = (shape.0, ap (λ n. of_shape (shape.0, n)) count ∙ gives, swizzle_all structs are base shape (value_at (root_value x.root s) x.path) (picked lanes) is below fits)
      by true None fits = (shape.0, ap (λ n. of_shape (shape.0, n)) count ∙ gives, swizzle_fits structs are base shape (value_at (root_value x.root s) x.path) (picked lanes) is below fits)
      by false (Some before) fits = let more = swizzle_picks structs are base shape (value_at (root_value x.root s) x.path) before (picked lanes) is below fits in (more.0, again more.0 before more.1, more.2)
      by true (Some before) fits = let more = swizzle_again structs are base shape (value_at (root_value x.root s) x.path) before (picked lanes) is below fits in (more.0, again more.0 before more.1, more.2)

  -- what a type has at a number stands there
  record Indexed (number : ℕ) (t : Ty) (x : Access) (s : State) : Type 0 where
    below : number < parts_at x s
    stands : StandsAt t (index_of x number) s

  -- what is there behind the index
  abbrev Behind : ℕ → Ty → Access → State → Bool → Option (List ℕ) → Type 0
  Behind number t x s b None = FitsBy b t None (value_at (root_value x.root s) (x.path ++ number ∷ []))
  Behind number t x s b (Some positions) = FitsBy b t (Some (slice_index positions number ∷ [])) (value_at (root_value x.root s) x.path)

  index_stands : (base : Ty) (number : ℕ) (t : Ty) (x : Access) (s : State) → IsSound (length structs) base → element_of base ≡ Some t → number < length_of base → StandsAt base x s → Indexed number t x s
  index_stands base number t x s sound_base element less stands =
      let both = by (is_block x.root) x.picked stands in record { below = both.0; stands = moved x.picked refl both.1 }
    where
      by : (b : Bool) (o : Option (List ℕ)) → FitsBy b base o (value_at (root_value x.root s) x.path) → (number < count_parts o (value_at (root_value x.root s) x.path)) × Behind number t x s b o
      by false None fits = (
        let count = counted structs base t (value_at (root_value x.root s) x.path) element fits in omega (arith, less, count),
        subst (λ v. is_value_of structs t v ≡ true) (sym (value_at_end (root_value x.root s) x.path number))
            (value_typed structs are base (number ∷ []) t (value_at (root_value x.root s) x.path) (t, inr (element, less), refl) fits),
      )
      by true None fits =
          let there = index_fits structs are base number t (value_at (root_value x.root s) x.path) sound_base element less fits in
          (there.below, subst (FitsIn structs are t None) (sym (value_at_end (root_value x.root s) x.path number)) there.fits)
      by false (Some positions) fits = index_picks structs are base number t (value_at (root_value x.root s) x.path) positions element less fits
      by true (Some positions) fits = index_picked structs are base number t (value_at (root_value x.root s) x.path) positions element less fits

      moved : (o : Option (List ℕ)) → x.picked ≡ o → Behind number t x s (is_block x.root) o → StandsAt t (index_in x o number) s
      moved None e fits = subst (λ o. FitsBy (is_block x.root) t o (value_at (root_value x.root s) (x.path ++ number ∷ []))) (sym e) fits
      moved (Some positions) e fits = fits

-- ---- what is run

module _ (few : Bool) (around : Around) (are : AreStructs around.structs) where
  -- Wherever variables have values of their types, and blocks bytes, something leads to what is of a type, and nothing else is done.
  abbrev pub Stays : Ty → Run Access → Type 0
  Stays t run = (s : State) (units : ℕ) → AreHeld few around s → (x : Access) × (run s units ≡ Got x s units) × StandsAt around.structs are t x s

  -- a variable outside blocks
  pub root_stays : (t : Ty) (root : Root) → is_block root ≡ false → ((s : State) → AreHeld few around s → is_value_of around.structs t (root_value root s) ≡ true) → Stays t (given (whole root))
  root_stays t root outside typed s units held = (whole root, refl, subst (λ b. FitsBy around.structs are b t None (root_value root s)) (sym outside) (typed s held))

  -- a member of a block
  pub block_stays : (block number : ℕ) (t : Ty) → HasMemberType around block number t → Stays t (given (member_root block number))
  block_stays block number t is s units held = (member_root block number, refl, root_fits few around are s held block number t is)

  -- a value
  pub value_stays : (t : Ty) (value : Run Value) → IsThere few around t value → Stays t (value >>= (λ v. given (whole (Loose v))))
  value_stays t value has s units held = let h = has s units held in (whole (Loose h.0), ap (λ ran. behind ran (λ v. given (whole (Loose v)))) h.1, h.2)

  pub read_there : (others : List StructType) (t : Ty) (shape : Shape) (run : Run Access) → IsSound (length around.structs) t → shape_of t ≡ Some shape → Stays t run → IsThere few around t (run >>= (λ a. told_by (read others t a)))
  read_there others t shape run sound_t is stays s units held =
      let h = stays s units held in (read others t h.0 s, ap (λ ran. behind ran (λ a. told_by (read others t a))) h.1, read_fits around.structs are others t shape h.0 s sound_t is h.2)

  pub member_stays : (base : Ty) (number : ℕ) (t : Ty) (run : Run Access) → HasPartType around.structs base number t → Stays base run → Stays t (run >>= (λ x. given (member_of x number)))
  member_stays base number t run is stays s units held =
      let h = stays s units held in (member_of h.0 number, ap (λ ran. behind ran (λ x. given (member_of x number))) h.1, member_stands around.structs are base number t h.0 s is h.2)

  pub swizzle_stays : (base : Ty) (lanes : Lanes) (t : Ty) (run : Run Access) → lanes.count ≤ length lanes.words → IsSwizzle base lanes t → Stays base run → Stays t (run >>= (λ x. given (swizzle_of x (picked lanes))))
  swizzle_stays base lanes t run enough is stays s units held =
      let h = stays s units held in (swizzle_of h.0 (picked lanes), ap (λ ran. behind ran (λ x. given (swizzle_of x (picked lanes)))) h.1, swizzle_stands around.structs are base lanes t h.0 s enough is h.2)

  -- an index that is known
  pub index_stays : (base : Ty) (v : Value) (t : Ty) (run : Run Access) (index : Run Value) → index ≡ given v → IsSound (length around.structs) base → element_of base ≡ Some t → word_in v < length_of base → Stays base run
      → Stays t (run >>= (λ x. index >>= (λ v. indexing x (word_in v))))
  index_stays base v t run index is sound_base element below stays s units held =
      let h = stays s units held in
      let parts = index_stands around.structs are base (word_in v) t h.0 s sound_base element below h.2 in (
        index_of h.0 (word_in v),
        ap (λ ran. behind ran (λ x. index >>= (λ v. indexing x (word_in v)))) h.1
            ∙ ap (λ (r : Run Value). behind (r s units) (λ v. indexing h.0 (word_in v))) is
            ∙ ap (λ b. if b then Got (index_of h.0 (word_in v)) s units else Strays) (lt-ltb (word_in v) (parts_at h.0 s) parts.below),
        parts.stands,
      )
