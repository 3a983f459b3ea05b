-- What is picked of variables and of values.
use Rattle.std.proofs.Common.{◌≡◌, refl, sym, ap, ◌∙◌, subst, ℕ, zero, suc, ◌<◌, ◌≤◌, Bool, true, false, if◌then◌else◌, List, [], ◌∷◌, ◌++◌, length, map, get_or, Option, Some, None, arith}
use Rattle.std.specs.Prelude.{not, slice_get, slice_index, ◌==◌}
use Rattle.std.proofs.lemmas.Bool.{eqb-true, lt-ltb, ltb-true, true≢false}
use Rattle.std.proofs.Math.ListN.{get_or-map}
use Rattle.gsl_base.specs.declared.input.Input.{Input}
use Rattle.gsl_instr.specs.Forms.{form_of}
use Rattle.gsl_instr.specs.declared.op.TheConstants as op
use Rattle.gsl_types.specs.declared.ty.Scalar.{Scalar}
use Rattle.gsl_types.specs.declared.ty.Scalar.TheVariants.{Bool as Boolean, Int, Uint}
use Rattle.gsl_words.specs.declared.module.Module.{Module}
use Rattle.gsl_values.specs.Word.{word_of_bool}
use Rattle.gsl_values.specs.declared.value.Value.{Value}
use Rattle.gsl_values.specs.declared.value.Value.TheVariants.{Word, outs-Many, outs-Word}
use Rattle.gsl_tree.specs.Operations.{converted as converted_word, value_at}
use Rattle.gsl_tree.specs.Shapes.{Shape}
use Rattle.gsl_tree.specs.Values.{components_in, is_word_of, of_components, parts_in, parts_layer, word_in, word_layer}
use Rattle.gsl_lower_law_constructors.specs.OfMachine.{into}
use Rattle.gsl_lower_law_constructors.specs.OfMachine.{Ids, Outcome, Pointer, Points, State, on_whole}
use Rattle.gsl_lower_law_constructors.specs.OfMachine.{picking}
use Rattle.gsl_spv.specs.Sections.{Sections}
use Rattle.gsl_lower_values.specs.Building.{Step, giving, ◌>>=◌}
use Rattle.gsl_lower_values.specs.Constructors.{operand, picked}
use Rattle.gsl_lower_values.specs.Types.{type_of}
use Rattle.gsl_lower_places.specs.Reached.{is_block_class, stored_scalar, stored_shape}
use Rattle.gsl_lower_places.specs.Reading.{component_by, extracted_shape, index, loaded, loaded_by, loaded_picked, loaded_scalar, loaded_vector, number_in, picked_by, read}
use Rattle.gsl_lower_places.specs.declared.reached.Base.TheVariants as base
use Rattle.gsl_lower_places.specs.declared.reached.Part.{Part}
use Rattle.gsl_lower_places.specs.declared.reached.Part.TheVariants.{Fixed, By}
use Rattle.gsl_lower_places.specs.declared.reached.Picked.{Picked}
use Rattle.gsl_lower_law_constructors.specs.OfLaw.{Computes, Grows}
use Rattle.gsl_lower_law_constructors.specs.OfLaw.{converted_value, picked_value}
use Rattle.gsl_lower_law_constructors.specs.OfLaw.{AreWords, IsOf, Keeps, Stands}
use Rattle.gsl_lower_law_constructors.proofs.OfLaw.{components_of}
use Rattle.gsl_lower_law_constructors.proofs.OfLaw.{Performs, giving_does, giving_grows}
use Rattle.gsl_lower_law_constructors.proofs.OfLaw.{does_then, grows_then}
use Rattle.gsl_lower_law_constructors.proofs.OfLaw.{AreBelow, picked_computes}
use Rattle.gsl_lower_law_constructors.proofs.OfLaw.{IsType, type_does}
use Rattle.gsl_lower_law_constructors.proofs.Shares.{words_in}
use Rattle.gsl_lower_law_places.specs.Components.{AreWithin, Chooses, HoldsComponents, Picks, chosen, picks_of}
use Rattle.gsl_lower_law_places.specs.Leading.{LeadsTo, NumberEach, Numbers, through}
use Rattle.gsl_lower_law_places.proofs.Chains.{index_does, index_grows}
use Rattle.gsl_lower_law_places.proofs.Loads.{extracted_computes, loaded_computes}
use Rattle.gsl_lower_law_places.proofs.Picked.{converted_words, one_picked, picked_behind, picked_grows}

-- ---- one index more

pub numbers_on : (ids : Ids) (parts more : List Part) (words ws : List ℕ) → NumberEach ids parts words → NumberEach ids more ws → NumberEach ids (parts ++ more) (words ++ ws)
numbers_on ids [] more [] ws first second = second
numbers_on ids [] more (word ∷ words) ws first second = absurd first
numbers_on ids (part ∷ parts) more [] ws first second = absurd first
numbers_on ids (part ∷ parts) more (word ∷ words) ws first second = (first.0, numbers_on ids parts more words ws first.1 second)

module _ (m : Module) (input : Input) (state : State) where
  pub through_on : (place : ℕ) (from : Pointer) (words ws : List ℕ) (go : Pointer → Outcome) → through m input place state from (words ++ ws) go ≡ through m input place state from words (λ to. through m input place state to ws go)
  through_on place from [] ws go = refl
  through_on place from (word ∷ words) ws go = ap (into m input place state from word) (λ i to. through_on place to words ws go i)

  pub leads_on : (from to one : Pointer) (words ws : List ℕ) → LeadsTo m input state from words to → LeadsTo m input state to ws one → LeadsTo m input state from (words ++ ws) one
  leads_on from to one words ws first second place go = through_on place from words ws go ∙ first place (λ to. through m input place state to ws go) ∙ second place go

-- ---- shapes

pub stored_one : (class : ℕ) (shape : Shape) → stored_shape class (shape.0, 1) ≡ ((stored_shape class shape).0, 1)
stored_one class shape = by (is_block_class class)
  where
    by : (b : Bool) → ◌≡◌ {A = Shape} (if b then (stored_scalar shape.0, 1) else (shape.0, 1)) ((if b then (stored_scalar shape.0, shape.1) else shape).0, 1)
    by true = refl
    by false = refl

pub stored_count : (class : ℕ) (shape : Shape) → (stored_shape class shape).1 ≡ shape.1
stored_count class shape = by (is_block_class class)
  where
    by : (b : Bool) → (if b then (stored_scalar shape.0, shape.1) else shape).1 ≡ shape.1
    by true = refl
    by false = refl

word_stays : (from to : Scalar) (w : ℕ) → is_word_of from w ≡ true → is_word_of to (converted_word to w) ≡ true
word_stays from Boolean zero fits = refl
word_stays from Boolean (suc w) fits = truth (suc w == 0)
  where
    truth : (b : Bool) → is_word_of Boolean (word_of_bool (not b)) ≡ true
    truth true = refl
    truth false = refl
word_stays Boolean Int w fits = lt-ltb w 4294967296 (let less : w < 2 = ltb-true w 2 fits in omega (arith, less))
word_stays Boolean Uint w fits = lt-ltb w 4294967296 (let less : w < 2 = ltb-true w 2 fits in omega (arith, less))
word_stays Int Int w fits = fits
word_stays Int Uint w fits = fits
word_stays Uint Int w fits = fits
word_stays Uint Uint w fits = fits

pub words_stay : (from to : Scalar) (ws : List ℕ) → AreWords from ws → AreWords to (map (converted_word to) ws)
words_stay from to [] fits = tt
words_stay from to (w ∷ ws) fits = (word_stays from to w fits.0, words_stay from to ws fits.1)

pub mapped_length : (f : ℕ → ℕ) (ws : List ℕ) → length (map f ws) ≡ length ws
mapped_length f [] = refl
mapped_length f (w ∷ ws) = ap suc (mapped_length f ws)

-- what was read and converted is of the shape
pub converted_is : (class : ℕ) (shape : Shape) (v : Value) → IsOf (stored_shape class shape) v → IsOf shape (converted_value shape.0 v)
converted_is class shape v is = record {
  words = map (converted_word shape.0) (components_in v);
  is = refl;
  count = mapped_length (converted_word shape.0) (components_in v) ∙ ap length (words_in v is) ∙ is.count ∙ stored_count class shape;
  fits = words_stay (stored_shape class shape).0 shape.0 (components_in v) (subst (AreWords (stored_shape class shape).0) (sym (words_in v is)) is.fits);
}

pub word_at_fits : (s : Scalar) (ws : List ℕ) (k : ℕ) → AreWords s ws → k < length ws → is_word_of s (slice_index ws k) ≡ true
word_at_fits s [] k fits less = absurd (let z : k < 0 = less in omega (arith, z))
word_at_fits s (w ∷ ws) zero fits less = fits.0
word_at_fits s (w ∷ ws) (suc k) fits less = word_at_fits s ws k fits.1 (let z : suc k < suc (length ws) = less in omega (arith, z))

pub one_is : (shape : Shape) (v : Value) (k : ℕ) → IsOf shape v → k < shape.1 → IsOf (shape.0, 1) (Word (slice_index (components_in v) k))
one_is shape v k is less = record {
  words = slice_index (components_in v) k ∷ [];
  is = refl;
  count = refl;
  fits = (word_at_fits shape.0 (components_in v) k (subst (AreWords shape.0) (sym (words_in v is)) is.fits) (omega (arith, less, is.count, ap length (words_in v is))), tt);
}

-- ---- words that are picked

zero_converted : (s : Scalar) → converted_word s 0 ≡ 0
zero_converted Boolean = refl
zero_converted Int = refl
zero_converted Uint = refl

-- a component of a converted value is the component, converted
pub component_converted : (s : Scalar) (v : Value) (k : ℕ) → slice_index (components_in (converted_value s v)) k ≡ converted_word s (slice_index (components_in v) k)
component_converted s v k =
    ap (λ ws. slice_index ws k) (converted_words s v) ∙ ap (get_or (map (converted_word s) (components_in v)) k) (sym (zero_converted s)) ∙ get_or-map (converted_word s) (components_in v) k 0

pub word_converted : (s : Scalar) (w : ℕ) → converted_value s (Word w) ≡ Word (converted_word s w)
word_converted s w = ap (λ ws. of_components (map (converted_word s) ws)) (components_of (w ∷ []))

-- of a scalar each position picks the one component
pub scalar_picked : (ws : List ℕ) (by : Option ℕ) (positions : List ℕ) → AreWithin 1 by positions → map (slice_index ws) positions ≡ map (λ position. slice_index ws (chosen by position)) positions
scalar_picked ws None positions within = refl
scalar_picked ws (Some zero) positions within = first positions within.1
  where
    first : (positions : List ℕ) → AreBelow 1 positions → map (slice_index ws) positions ≡ map (λ position. slice_index ws 0) positions
    first [] below = refl
    first (zero ∷ positions) below = ap (λ l. slice_index ws 0 ∷ l) (first positions below.1)
    first (suc p ∷ positions) below = absurd (let less : suc p < 1 = below.0 in omega (arith, less))
scalar_picked ws (Some (suc k)) positions within = absurd (let less : suc k < 1 = within.0 in omega (arith, less))

within_one : (by : Option ℕ) (positions : List ℕ) → AreWithin 1 by positions → AreBelow 1 positions
within_one None positions within = within
within_one (Some word) positions within = within.1

-- a word picks one component, as often as there are positions
pub by_one : (v : Value) (k : ℕ) (positions : List ℕ) → AreBelow 1 positions → picked_value (Word (slice_index (components_in v) k)) positions ≡ picks_of v (Some k) positions
by_one v k positions below = ap (λ ws. of_components (map (slice_index ws) positions)) (components_of (slice_index (components_in v) k ∷ [])) ∙ ap of_components (one_picked (slice_index (components_in v) k) positions below)

pub several : (n : ℕ) → (n == 1) ≡ false → 1 ≤ n → 2 ≤ n
several zero e some = absurd (let z : 1 ≤ 0 = some in omega (arith, z))
several (suc zero) e some = absurd (true≢false e)
several (suc (suc n)) e some = omega arith

pub some_components : (count : ℕ) (by : Option ℕ) (positions : List ℕ) → 1 ≤ length positions → AreWithin count by positions → 1 ≤ count
some_components count None [] some within = absurd (let z : 1 ≤ 0 = some in omega (arith, z))
some_components count None (position ∷ positions) some within = let less : position < count = within.0 in omega (arith, less)
some_components count (Some k) positions some within = let less : k < count = within.0 in omega (arith, less)

-- the part of a vector at an index
part_at : (ws : List ℕ) (k : ℕ) → k < length ws → slice_get (map Word ws) k ≡ Some (Word (slice_index ws k))
part_at [] k less = absurd (let z : k < 0 = less in omega (arith, z))
part_at (w ∷ ws) zero less = refl
part_at (w ∷ ws) (suc k) less = part_at ws k (let z : suc k < suc (length ws) = less in omega (arith, z))

module _ (m : Module) (input : Input) (whole : Sections) where
  module _ (id class : ℕ) (parts : List Part) (p : Picked) (words : List ℕ) (from to : Pointer) (v : Value) (state : State) (before : Sections) (stands : state.ids id ≡ Some (Points from)) (each : NumberEach state.ids parts words) (leads : LeadsTo m input state from words to)
      (holds : HoldsComponents m input state to v) (is : IsOf (stored_shape class p.shape) v) where
    counted : length (components_in v) ≡ p.shape.1
    counted = ap length (words_in v is) ∙ is.count ∙ stored_count class p.shape

    -- a component alone is loaded alone
    component_loaded : (part : Part) (k : ℕ) → Numbers state.ids part k → 2 ≤ p.shape.1 → k < p.shape.1 → Computes m input whole (Word (slice_index (components_in (converted_value p.shape.0 v)) k), state.choices) state before (loaded id class (p.shape.0, 1) (parts ++ part ∷ []))
    component_loaded part k number many less =
        let one = holds.each k (omega (arith, many, counted)) (omega (arith, less, counted)) in
        subst (λ w. Computes m input whole (w, state.choices) state before (loaded id class (p.shape.0, 1) (parts ++ part ∷ []))) (word_converted p.shape.0 (slice_index (components_in v) k) ∙ ap Word (sym (component_converted p.shape.0 v k)))
        (loaded_computes m input whole id class (p.shape.0, 1) (parts ++ part ∷ []) (words ++ k ∷ []) from one.0 (Word (slice_index (components_in v) k)) state before stands
        (numbers_on state.ids parts (part ∷ []) words (k ∷ []) each (number, tt)) (leads_on m input state from to one.0 words (k ∷ []) leads one.1) one.2
        (subst (λ s. IsOf s (Word (slice_index (components_in v) k))) (sym (stored_one class p.shape)) (one_is (stored_shape class p.shape) v k is (omega (arith, less, stored_count class p.shape)))))

    all_loaded : Computes m input whole (converted_value p.shape.0 v, state.choices) state before (loaded id class p.shape parts)
    all_loaded = loaded_computes m input whole id class p.shape parts words from to v state before stands each leads holds.all is

    scalar_read : (by : Option ℕ) → p.shape.1 ≡ 1 → 1 ≤ length p.positions → AreWithin 1 by p.positions → Computes m input whole (picks_of (converted_value p.shape.0 v) by p.positions, state.choices) state before (loaded_scalar id class p.shape.0 p.positions parts)
    scalar_read by one some within =
        let same : p.shape ≡ (p.shape.0, 1) = ap (λ n. (p.shape.0, n)) one in
        subst (λ ws. Computes m input whole (of_components ws, state.choices) state before (loaded_scalar id class p.shape.0 p.positions parts)) (scalar_picked (components_in (converted_value p.shape.0 v)) by p.positions within)
        (picked_behind m input whole (p.shape.0, 1) (converted_value p.shape.0 v) p.positions state before (loaded id class (p.shape.0, 1) parts) some (within_one by p.positions within)
        (subst (λ s. IsOf s (converted_value p.shape.0 v)) same (converted_is class p.shape v is))
        (subst (λ s. Computes m input whole (converted_value p.shape.0 v, state.choices) state before (loaded id class s parts)) same all_loaded))

    vector_read : (positions : List ℕ) → 2 ≤ p.shape.1 → 1 ≤ length positions → AreBelow p.shape.1 positions → Computes m input whole (picks_of (converted_value p.shape.0 v) None positions, state.choices) state before (loaded_vector id class p.shape positions parts)
    vector_read [] many some below = absurd (let z : 1 ≤ 0 = some in omega (arith, z))
    vector_read (position ∷ []) many some below = component_loaded (Fixed position) position refl many below.0
    vector_read (position ∷ next ∷ positions) many some below =
        picked_behind m input whole p.shape (converted_value p.shape.0 v) (position ∷ next ∷ positions) state before (loaded id class p.shape parts) some below (converted_is class p.shape v is) all_loaded

    by_read : (part : Part) (k : ℕ) → Numbers state.ids part k → 2 ≤ p.shape.1 → k < p.shape.1 → 1 ≤ length p.positions → AreBelow 1 p.positions
        → Computes m input whole (picks_of (converted_value p.shape.0 v) (Some k) p.positions, state.choices) state before (loaded_scalar id class p.shape.0 p.positions (parts ++ part ∷ []))
    by_read part k number many less some below =
        subst (λ w. Computes m input whole (w, state.choices) state before (loaded_scalar id class p.shape.0 p.positions (parts ++ part ∷ []))) (by_one (converted_value p.shape.0 v) k p.positions below)
        (picked_behind m input whole (p.shape.0, 1) (Word (slice_index (components_in (converted_value p.shape.0 v)) k)) p.positions state before (loaded id class (p.shape.0, 1) (parts ++ part ∷ [])) some below
        (one_is p.shape (converted_value p.shape.0 v) k (converted_is class p.shape v is) less) (component_loaded part k number many less))

    variable_read : (by : Option ℕ) → Picks state.ids p by → Computes m input whole (picks_of (converted_value p.shape.0 v) by p.positions, state.choices) state before (loaded_picked id class parts p)
    unfolding loaded_picked
    variable_read by picks = by_count (p.shape.1 == 1) refl
      where
        by_several : (part : Option Part) (by : Option ℕ) → Chooses state.ids part by → AreWithin p.shape.1 by p.positions → 2 ≤ p.shape.1
            → Computes m input whole (picks_of (converted_value p.shape.0 v) by p.positions, state.choices) state before (loaded_by id class p.shape part p.positions parts)
        by_several None None chooses within many = vector_read p.positions many picks.some within
        by_several None (Some k) chooses within many = absurd chooses
        by_several (Some part) None chooses within many = absurd chooses
        by_several (Some part) (Some k) chooses within many = by_read part k chooses many within.0 picks.some within.1

        by_count : (b : Bool) → (p.shape.1 == 1) ≡ b
            → Computes m input whole (picks_of (converted_value p.shape.0 v) by p.positions, state.choices) state before (if b then loaded_scalar id class p.shape.0 p.positions parts else loaded_by id class p.shape p.by p.positions parts)
        by_count true e = let one = eqb-true p.shape.1 1 e in scalar_read by one picks.some (subst (λ n. AreWithin n by p.positions) one picks.within)
        by_count false e = by_several p.by by picks.by_word picks.within (several p.shape.1 e (some_components p.shape.1 by p.positions picks.some picks.within))

    pub variables_read : (shape : Shape) (by : Option ℕ) → Picks state.ids p by → Computes m input whole (picks_of (converted_value p.shape.0 v) by p.positions, state.choices) state before (read shape (record { base = base.Variable id class; path = parts; picked = Some p }))
    unfolding read
    variables_read shape by picks = variable_read by picks

  -- ---- values in no variable

  module _ (p : Picked) (w : Value) (is : IsOf p.shape w) where
    vector_parts : 2 ≤ p.shape.1 → parts_in w ≡ map Word is.words
    vector_parts many = ap parts_in is.is ∙ parts_of is.words (omega (arith, many, is.count))
      where
        parts_of : (ws : List ℕ) → 2 ≤ length ws → parts_in (of_components ws) ≡ map Word ws
        parts_of [] many = absurd (let z : 2 ≤ 0 = many in omega (arith, z))
        parts_of (x ∷ []) many = absurd (let z : 2 ≤ 1 = many in omega (arith, z))
        parts_of (x ∷ next ∷ ws) many = ap parts_layer (outs-Many (map Word (x ∷ next ∷ ws)))

    extracts : (type vector at_id k : ℕ) (state : State) → 2 ≤ p.shape.1 → k < p.shape.1 → Stands state.ids vector w → Stands state.ids at_id (Word k)
        → Performs m input op.VECTOR_EXTRACT_DYNAMIC (vector ∷ at_id ∷ []) type state (Word (slice_index (components_in w) k)) state.choices
    unfolding form_of
    extracts type vector at_id k state many less first second = record {
      gives = λ id. refl;
      named = λ id. refl;
      done = λ id at rest.
          ap (λ o. on_whole o (λ v. on_whole (state.ids at_id) (λ i. picking at (record state { rest = rest }) id v (slice_get (parts_in v) (word_in i))))) first
          ∙ ap (λ o. on_whole o (λ i. picking at (record state { rest = rest }) id w (slice_get (parts_in w) (word_in i)))) second
          ∙ ap (λ n. picking at (record state { rest = rest }) id w (slice_get (parts_in w) n)) (ap word_layer (outs-Word k))
          ∙ ap (picking at (record state { rest = rest }) id w) (ap (λ l. slice_get l k) (vector_parts many) ∙ part_at is.words k (omega (arith, less, is.count)) ∙ ap (λ ws. Some (Word (slice_index ws k))) (sym (words_in w is)));
    }

    pub dynamic_grows : (vector at_id : ℕ) (state : State) (before : Sections) → 1 ≤ length p.positions → AreBelow 1 p.positions → Grows before ((type_of (p.shape.0, 1) >>= (λ type. giving op.VECTOR_EXTRACT_DYNAMIC (vector ∷ at_id ∷ []) type >>= (λ v. picked (operand (p.shape.0, 1) v) p.positions))) before)
    dynamic_grows vector at_id state before some below =
        grows_then m input whole before (type_of (p.shape.0, 1) before) (λ type. giving op.VECTOR_EXTRACT_DYNAMIC (vector ∷ at_id ∷ []) type >>= (λ v. picked (operand (p.shape.0, 1) v) p.positions)) (type_does m input whole (p.shape.0, 1) state before).grows
        (λ type between. grows_then m input whole between (giving op.VECTOR_EXTRACT_DYNAMIC (vector ∷ at_id ∷ []) type between) (λ v. picked (operand (p.shape.0, 1) v) p.positions) (giving_grows m input whole op.VECTOR_EXTRACT_DYNAMIC (vector ∷ at_id ∷ []) type between)
        (λ v later. picked_grows m input whole (operand (p.shape.0, 1) v) p.positions state later some below))

    component_read : (vector : ℕ) (part : Part) (k : ℕ) (state : State) (before : Sections) → Stands state.ids vector w → Numbers state.ids part k → 2 ≤ p.shape.1 → k < p.shape.1 → 1 ≤ length p.positions → AreBelow 1 p.positions
        → Computes m input whole (picks_of w (Some k) p.positions, state.choices) state before (component_by p.shape vector part p.positions)
    component_read vector part k state before stands number many less some below =
        subst (λ v. Computes m input whole (v, state.choices) state before (component_by p.shape vector part p.positions)) (by_one w k p.positions below)
        (does_then m input whole (λ id ids. Stands ids id (Word k)) (λ id ids. Stands ids id result) state.choices state.choices state before (index part) behind_index
        (index_does m input whole part k state before number)
        (λ at_id between. dynamic_grows vector at_id state between some below)
        (λ at_id between ids is_word keeps.
        does_then m input whole (IsType m input whole (p.shape.0, 1)) (λ id ids. Stands ids id result) state.choices state.choices (record state { ids = ids }) between (type_of (p.shape.0, 1)) (behind_type at_id)
        (type_does m input whole (p.shape.0, 1) (record state { ids = ids }) between)
        (λ type later. grows_then m input whole later (giving op.VECTOR_EXTRACT_DYNAMIC (vector ∷ at_id ∷ []) type later) behind_extract (giving_grows m input whole op.VECTOR_EXTRACT_DYNAMIC (vector ∷ at_id ∷ []) type later) (λ v last. picked_grows m input whole (operand (p.shape.0, 1) v) p.positions state last some below))
        (λ type later now typed kept.
        picked_behind m input whole (p.shape.0, 1) component p.positions (record state { ids = now }) later (giving op.VECTOR_EXTRACT_DYNAMIC (vector ∷ at_id ∷ []) type) some below (one_is p.shape w k is less)
        (giving_does m input whole op.VECTOR_EXTRACT_DYNAMIC (vector ∷ at_id ∷ []) type (record state { ids = now }) component state.choices later
        (λ text. extracts type vector at_id k (record state { ids = now }) many less (kept.same vector _ (keeps.same vector _ stands)) (kept.same at_id _ is_word)))))
        )
      where
        component : Value
        component = Word (slice_index (components_in w) k)

        result : Value
        result = picked_value component p.positions

        behind_extract : ℕ → Step ℕ
        behind_extract v = picked (operand (p.shape.0, 1) v) p.positions

        behind_type : ℕ → ℕ → Step ℕ
        behind_type at_id type = giving op.VECTOR_EXTRACT_DYNAMIC (vector ∷ at_id ∷ []) type >>= behind_extract

        behind_index : ℕ → Step ℕ
        behind_index at_id = type_of (p.shape.0, 1) >>= behind_type at_id

    by_grows : (part : Option Part) (by : Option ℕ) (ids : Ids) (vector : ℕ) (state : State) (before : Sections) → Chooses ids part by → 1 ≤ length p.positions → AreWithin p.shape.1 by p.positions → Grows before (picked_by p.shape vector part p.positions before)
    by_grows None None ids vector state before chooses some within = picked_grows m input whole (operand p.shape vector) p.positions state before some within
    by_grows None (Some k) ids vector state before chooses some within = absurd chooses
    by_grows (Some part) None ids vector state before chooses some within = absurd chooses
    by_grows (Some part) (Some k) ids vector state before chooses some within =
        grows_then m input whole before (index part before) (λ at_id. type_of (p.shape.0, 1) >>= (λ type. giving op.VECTOR_EXTRACT_DYNAMIC (vector ∷ at_id ∷ []) type >>= (λ v. picked (operand (p.shape.0, 1) v) p.positions))) (index_grows m input whole part state before)
        (λ at_id between. dynamic_grows vector at_id state between some within.1)

    by_read_value : (part : Option Part) (by : Option ℕ) (vector : ℕ) (state : State) (before : Sections) → Stands state.ids vector w → Chooses state.ids part by → 2 ≤ p.shape.1 → 1 ≤ length p.positions → AreWithin p.shape.1 by p.positions
        → Computes m input whole (picks_of w by p.positions, state.choices) state before (picked_by p.shape vector part p.positions)
    by_read_value None None vector state before stands chooses many some within = picked_computes m input whole (operand p.shape vector) w is state before stands p.positions some within
    by_read_value None (Some k) vector state before stands chooses many some within = absurd chooses
    by_read_value (Some part) None vector state before stands chooses many some within = absurd chooses
    by_read_value (Some part) (Some k) vector state before stands chooses many some within = component_read vector part k state before stands chooses many within.0 some within.1

  pub still_chooses : (a b : Ids) → Keeps a b → (part : Option Part) (by : Option ℕ) → Chooses a part by → Chooses b part by
  still_chooses a b keeps None None chooses = tt
  still_chooses a b keeps None (Some k) chooses = chooses
  still_chooses a b keeps (Some part) None chooses = chooses
  still_chooses a b keeps (Some (Fixed number)) (Some k) chooses = chooses
  still_chooses a b keeps (Some (By s id)) (Some k) chooses = keeps.same id _ chooses

  pub values_read : (id type : ℕ) (shape : Shape) (parts : List Part) (p : Picked) (by : Option ℕ) (v : Value) (state : State) (before : Sections) → Stands state.ids id v → IsOf p.shape (value_at v (map number_in parts)) → Picks state.ids p by
      → Computes m input whole (picks_of (value_at v (map number_in parts)) by p.positions, state.choices) state before (read shape (record { base = base.Value id type; path = parts; picked = Some p }))
  unfolding read
  values_read id type shape parts p by v state before stands is picks = by_count (p.shape.1 == 1) refl
    where
      by_count : (b : Bool) → (p.shape.1 == 1) ≡ b
          → Computes m input whole (picks_of (value_at v (map number_in parts)) by p.positions, state.choices) state before (extracted_shape id p.shape parts >>= (λ v. if b then picked (operand p.shape v) p.positions else picked_by p.shape v p.by p.positions))
      by_count true e =
          let one = eqb-true p.shape.1 1 e in
          let within : AreWithin 1 by p.positions = subst (λ n. AreWithin n by p.positions) one picks.within in
          subst (λ ws. Computes m input whole (of_components ws, state.choices) state before (extracted_shape id p.shape parts >>= (λ v. picked (operand p.shape v) p.positions))) (scalar_picked (components_in (value_at v (map number_in parts))) by p.positions within)
          (picked_behind m input whole p.shape (value_at v (map number_in parts)) p.positions state before (extracted_shape id p.shape parts) picks.some (subst (λ n. AreBelow n p.positions) (sym one) (within_one by p.positions within)) is (extracted_computes m input whole id p.shape parts v state before stands))
      by_count false e =
          does_then m input whole (λ given ids. Stands ids given (value_at v (map number_in parts))) (λ given ids. Stands ids given (picks_of (value_at v (map number_in parts)) by p.positions)) state.choices state.choices state before (extracted_shape id p.shape parts) (λ v. picked_by p.shape v p.by p.positions)
          (extracted_computes m input whole id p.shape parts v state before stands)
          (λ given between. by_grows p (value_at v (map number_in parts)) is p.by by state.ids given state between picks.by_word picks.some picks.within)
          (λ given between ids there keeps. by_read_value p (value_at v (map number_in parts)) is p.by by given (record state { ids = ids }) between there (still_chooses state.ids ids keeps p.by by picks.by_word) (several p.shape.1 e (some_components p.shape.1 by p.positions picks.some picks.within)) picks.some picks.within)
