-- What is stored in variables that hold values: the components that are picked, and no others.
use Rattle.std.proofs.Common.{◌≡◌, refl, sym, ap, ap₂, ◌∙◌, subst, ℕ, zero, suc, ◌+◌, ◌<◌, ◌≤◌, Bool, true, false, if◌then◌else◌, List, [], ◌∷◌, ◌++◌, length, map, drop, set, Option, Some, None, arith}
use Rattle.std.specs.Prelude.{slice_get, slice_index, ◌==◌}
use Rattle.std.specs.List.{AllByRecursion}
use Rattle.std.proofs.lemmas.Bool.{eqb-true, ltb-true}
use Rattle.std.proofs.lemmas.List.{length-set, map-set}
use Rattle.gsl_base.specs.declared.input.Input.{Input}
use Rattle.gsl_types.specs.declared.ty.Scalar.{Scalar}
use Rattle.gsl_types.specs.declared.ty.Scalar.TheVariants.{Bool as Boolean, Int, Uint}
use Rattle.gsl_words.specs.declared.module.Module.{Module}
use Rattle.gsl_values.specs.declared.value.Value.{Value}
use Rattle.gsl_values.specs.declared.value.Value.TheVariants.{Word, Many}
use Rattle.gsl_tree.specs.Operations.{converted as converted_word, member_value, value_at, with_value_at}
use Rattle.gsl_tree.specs.Shapes.{Shape}
use Rattle.gsl_tree.specs.Values.{components_in, is_word_of, of_components, parts_in}
use Rattle.gsl_lower_law_constructors.specs.OfMachine.{with_variable}
use Rattle.gsl_lower_law_constructors.specs.OfMachine.{Ids, InVariable, Pointer, Points, State, on}
use Rattle.gsl_spv.specs.Sections.{Sections}
use Rattle.gsl_spv.proofs.Extending.{extends_same}
use Rattle.gsl_lower_values.specs.Building.{given, ◌>>=◌}
use Rattle.gsl_lower_values.specs.Constructors.{operand}
use Rattle.gsl_lower_values.specs.declared.operand.Operand.{Operand}
use Rattle.gsl_lower_places.specs.Reached.{is_block_class, stored_scalar, stored_shape}
use Rattle.gsl_lower_places.specs.Writing.{each_from, one_at, put_at, put_by, put_picked, stored}
use Rattle.gsl_lower_places.specs.declared.reached.Base.TheVariants as base
use Rattle.gsl_lower_places.specs.declared.reached.Part.{Part}
use Rattle.gsl_lower_places.specs.declared.reached.Picked.{Picked}
use Rattle.gsl_lower_law_constructors.specs.OfLaw.{Acts, Left}
use Rattle.gsl_lower_law_constructors.specs.OfLaw.{converted_value}
use Rattle.gsl_lower_law_constructors.specs.OfLaw.{AreWords, IsOf, Keeps, Stands}
use Rattle.gsl_lower_law_constructors.proofs.OfLaw.{components_of}
use Rattle.gsl_lower_law_constructors.proofs.OfLaw.{acts_then, given_does}
use Rattle.gsl_lower_law_constructors.proofs.OfLaw.{one_word}
use Rattle.gsl_lower_law_constructors.proofs.Shares.{words_in}
use Rattle.gsl_lower_law_places.specs.Components.{AreWithin, Chooses, Picks}
use Rattle.gsl_lower_law_places.specs.Leading.{LeadsTo, NumberEach, Numbers}
use Rattle.gsl_lower_law_places.specs.Storing.{AreStored, Stores, goes_to, set_each, with_components}
use Rattle.gsl_lower_law_places.proofs.Again.{AsMany, leads_again, part_many, value_put, value_twice, variable_big, words_many}
use Rattle.gsl_lower_law_places.proofs.Chains.{still_number}
use Rattle.gsl_lower_law_places.proofs.Each.{each_grows, one_acts}
use Rattle.gsl_lower_law_places.proofs.Lists.{get_put, put_twice}
use Rattle.gsl_lower_law_places.proofs.Reading.{leads_on, numbers_on, one_is, several, some_components, word_at_fits}
use Rattle.gsl_lower_law_places.proofs.Stored.{Nothing, put_acts}
use Rattle.gsl_lower_law_places.proofs.Variables.{component_led, parts_are, words_long}

-- ---- values that lie as they are

pub as_it_lies : (class : ℕ) (shape : Shape) → is_block_class class ≡ false → stored_shape class shape ≡ shape
as_it_lies class shape e = ap (λ b. if b then (stored_scalar shape.0, shape.1) else shape) e

words_same : (s : Scalar) (ws : List ℕ) → AreWords s ws → map (converted_word s) ws ≡ ws
words_same s [] fits = refl
words_same Boolean (zero ∷ ws) fits = ap (λ l. 0 ∷ l) (words_same Boolean ws fits.1)
words_same Boolean (suc zero ∷ ws) fits = ap (λ l. 1 ∷ l) (words_same Boolean ws fits.1)
words_same Boolean (suc (suc w) ∷ ws) fits = absurd (let less : suc (suc w) < 2 = ltb-true (suc (suc w)) 2 fits.0 in omega (arith, less))
words_same Int (w ∷ ws) fits = ap (λ l. w ∷ l) (words_same Int ws fits.1)
words_same Uint (w ∷ ws) fits = ap (λ l. w ∷ l) (words_same Uint ws fits.1)

value_same : (shape : Shape) (v : Value) → IsOf shape v → converted_value shape.0 v ≡ v
value_same shape v is = ap (λ ws. of_components (map (converted_word shape.0) ws)) (words_in v is) ∙ ap of_components (words_same shape.0 is.words is.fits) ∙ sym is.is

-- a value of a shape lies in such a class as it is
pub lies_same : (class : ℕ) (shape : Shape) (v : Value) → is_block_class class ≡ false → IsOf shape v → converted_value (stored_shape class shape).0 v ≡ v
lies_same class shape v e is = ap (λ (s : Shape). converted_value s.0 v) (as_it_lies class shape e) ∙ value_same shape v is

-- ---- one component

-- a component that is put, and its vector that is
pub put_on : (v : Value) (path : List ℕ) (k : ℕ) (w : Value) → with_value_at v (path ++ k ∷ []) w ≡ with_value_at v path (Many (set (parts_in (value_at v path)) k w))
put_on v [] k w = refl
put_on v (number ∷ path) k w = ap (λ part. Many (set (parts_in v) number part)) (put_on (member_value v number) path k w)

-- a word that is put among the parts of a vector
word_put : (shape : Shape) (v : Value) (position x : ℕ) → IsOf shape v → 2 ≤ shape.1 → Many (set (parts_in v) position (Word x)) ≡ of_components (set (components_in v) position x)
word_put shape v position x is many =
    ap (λ parts. Many (set parts position (Word x))) (ap parts_in is.is ∙ parts_are is.words (omega (arith, many, is.count)))
    ∙ ap Many (sym (map-set Word is.words position x))
    ∙ sym (many_of (set is.words position x) (omega (arith, many, is.count, length-set is.words position x)))
    ∙ ap (λ ws. of_components (set ws position x)) (sym (words_in v is))
  where
    many_of : (ws : List ℕ) → 2 ≤ length ws → of_components ws ≡ Many (map Word ws)
    many_of [] many = absurd (let z : 2 ≤ 0 = many in omega (arith, z))
    many_of (w ∷ []) many = absurd (let z : 2 ≤ 1 = many in omega (arith, z))
    many_of (w ∷ next ∷ ws) many = refl

pub component_new : (shape : Shape) (v w : Value) (k : ℕ) → IsOf shape v → IsOf (shape.0, 1) w → 2 ≤ shape.1 → Many (set (parts_in v) k w) ≡ with_components v (k ∷ []) w
component_new shape v w k is is_new many =
    let one = one_word is_new.words is_new.count in
    ap (λ x. Many (set (parts_in v) k x)) (is_new.is ∙ ap of_components one.1) ∙ word_put shape v k one.0 is many ∙ ap (λ ws. of_components (set_each (k ∷ []) ws (components_in v))) (sym (words_in w is_new ∙ one.1))

-- a scalar is its one component
pub scalar_new : (shape : Shape) (v w : Value) → IsOf shape v → shape.1 ≡ 1 → IsOf (shape.0, 1) w → w ≡ with_components v (0 ∷ []) w
scalar_new shape v w is one is_new =
    let old = one_word is.words (is.count ∙ one) in
    let new = one_word is_new.words is_new.count in
    is_new.is ∙ ap of_components new.1 ∙ ap₂ (λ ws xs. of_components (set_each (0 ∷ []) xs ws)) (sym (words_in v is ∙ old.1)) (sym (words_in w is_new ∙ new.1))

pub one_position : (by : Option ℕ) (positions : List ℕ) → length positions ≡ 1 → AreWithin 1 by positions → goes_to by positions ≡ 0 ∷ []
one_position None [] one within = absurd (let z : 0 ≡ 1 = one in omega (arith, z))
one_position None (zero ∷ []) one within = refl
one_position None (suc k ∷ positions) one within = absurd (let less : suc k < 1 = within.0 in omega (arith, less))
one_position None (zero ∷ next ∷ positions) one within = absurd (let z : suc (suc (length positions)) ≡ 1 = one in omega (arith, z))
one_position (Some zero) positions one within = refl
one_position (Some (suc k)) positions one within = absurd (let less : suc k < 1 = within.0 in omega (arith, less))

-- ---- several components, one after the other

-- words of a scalar type with another in the place of one
set_fits : (s : Scalar) (ws : List ℕ) (k x : ℕ) → AreWords s ws → is_word_of s x ≡ true → AreWords s (set ws k x)
set_fits s [] k x fits is = tt
set_fits s (w ∷ ws) zero x fits is = (is, fits.1)
set_fits s (w ∷ ws) (suc k) x fits is = (fits.0, set_fits s ws k x fits.1 is)

-- what stands in front of the rest of a list
pub front_is : (l : List ℕ) (k x : ℕ) (rest : List ℕ) → drop k l ≡ x ∷ rest → (slice_index l k ≡ x) × (drop (k + 1) l ≡ rest) × (k < length l)
front_is [] zero x rest e = absurd (let long : 0 ≡ suc (length rest) = ap length e in omega (arith, long))
front_is [] (suc k) x rest e = absurd (let long : 0 ≡ suc (length rest) = ap length e in omega (arith, long))
front_is (y ∷ l) zero x rest e = (ap (λ l. slice_index l 0) e, ap (drop 1) e, omega arith)
front_is (y ∷ l) (suc k) x rest e = let more = front_is l k x rest e in let less = more.2 in (more.0, ap (λ n. drop n (y ∷ l)) (let z : suc k + 1 ≡ suc (k + 1) = omega arith in z) ∙ more.1, omega (arith, less))

module _ (m : Module) (input : Input) (whole : Sections) (id class : ℕ) (parts : List Part) (shape : Shape) (count : ℕ) (words : List ℕ) (from : Pointer) (number : ℕ) (path : List ℕ) (w : Value) (value : ℕ) (plain : is_block_class class ≡ false) (many : 2 ≤ shape.1) (is_new : IsOf (shape.0, count) w) where
  abbrev of_value : Operand
  of_value = operand (shape.0, count) value

  -- a variable's value with words in the place of some components of a vector in it
  abbrev Among : State → Value → List ℕ → Left
  Among state old ws = record { choices = state.choices; variables = set state.variables number (with_value_at old path (of_components ws)); buffers = state.buffers }

  -- what stands in a variable, and leads to a vector there
  record IsThere (old v : Value) (state : State) : Type 0 where
    stands : state.ids id ≡ Some (Points from)
    each : NumberEach state.ids parts words
    leads : LeadsTo m input state from words (InVariable number path)
    there : slice_get state.variables number ≡ Some old
    at : value_at old path ≡ v
    is : IsOf shape v
    new : Stands state.ids value w

  module _ (k position : ℕ) (old v : Value) (state : State) (q : IsThere old v state) (less : k < count) (within : position < shape.1) where
    abbrev word : ℕ
    word = slice_index (components_in w) k

    abbrev put_words : List ℕ
    put_words = set (components_in v) position word

    component_acts : (before : Sections) → Acts m input whole Nothing (Among state old put_words) state before (one_at id class parts of_value k position)
    component_acts before =
        let counted = ap length (words_in v q.is) ∙ q.is.count in
        subst (λ variables. Acts m input whole Nothing (record { choices = state.choices; variables = variables; buffers = state.buffers }) state before (one_at id class parts of_value k position))
        (ap (λ x. set state.variables number x) (ap (with_value_at old (path ++ position ∷ [])) (lies_same class (shape.0, 1) (Word word) plain (one_is (shape.0, count) w k is_new less))
        ∙ put_on old path position (Word word) ∙ ap (λ x. with_value_at old path (Many (set (parts_in x) position (Word word)))) q.at ∙ ap (with_value_at old path) (word_put shape v position word q.is many)))
        (one_acts m input whole id class parts of_value k position words from (InVariable number (path ++ position ∷ [])) w (set state.variables number (with_value_at old (path ++ position ∷ []) (converted_value (stored_shape class (shape.0, 1)).0 (Word word)))) state.buffers state before
        is_new less q.new q.stands q.each
        (leads_on m input state from (InVariable number path) (InVariable number (path ++ position ∷ [])) words (position ∷ []) q.leads (component_led m input state number path old v shape q.there q.at q.is position (omega (arith, many, counted)) (omega (arith, within, counted))))
        (λ ids choices rest go. ap (λ o. on o (λ old. go (with_variable (record state { ids = ids; choices = choices; rest = rest }) number (with_value_at old (path ++ position ∷ []) (converted_value (stored_shape class (shape.0, 1)).0 (Word word)))))) q.there))

    -- the vector is there again, with that component
    there_again : (ids : Ids) → Keeps state.ids ids → IsThere (with_value_at old path (of_components put_words)) (of_components put_words) (record state { ids = ids; variables = set state.variables number (with_value_at old path (of_components put_words)) })
    there_again ids keeps = record {
      stands = keeps.same id _ q.stands;
      each = still_number state.ids ids keeps parts words q.each;
      leads = leads_again m input state (record state { ids = ids; variables = set state.variables number (with_value_at old path (of_components put_words)) })
          (variable_big m input state ids number old (with_value_at old path (of_components put_words)) q.there (part_many old path (of_components put_words) as_many)) from (InVariable number path) words q.leads;
      there = get_put state.variables number old (with_value_at old path (of_components put_words)) q.there;
      at = value_put old path (of_components put_words) some;
      is = record {
        words = put_words;
        is = refl;
        count = length-set (components_in v) position word ∙ ap length (words_in v q.is) ∙ q.is.count;
        fits = set_fits shape.0 (components_in v) position word (subst (AreWords shape.0) (sym (words_in v q.is)) q.is.fits) (word_at_fits shape.0 (components_in w) k (subst (AreWords shape.0) (sym (words_in w is_new)) is_new.fits) (omega (arith, less, is_new.count, ap length (words_in w is_new))));
      };
      new = keeps.same value _ q.new;
    }
      where
        long : length put_words ≡ length q.is.words
        long = length-set (components_in v) position word ∙ ap length (words_in v q.is)

        as_many : AsMany (of_components put_words) (value_at old path)
        as_many = subst (AsMany (of_components put_words)) (sym (q.at ∙ q.is.is)) (words_many put_words q.is.words (omega (arith, many, q.is.count)) long)

        some : 1 ≤ length (parts_in (value_at old path))
        some = let e = ap (λ v. length (parts_in v)) (q.at ∙ q.is.is) ∙ ap length (parts_are q.is.words (omega (arith, many, q.is.count))) ∙ words_long q.is.words in omega (arith, e, many, q.is.count)

  each_acts : (position : ℕ) (positions ws : List ℕ) (k : ℕ) (old v : Value) (state : State) (before : Sections) → IsThere old v state → drop k (components_in w) ≡ ws → length ws ≡ suc (length positions) → AllByRecursion (λ position. position < shape.1) (position ∷ positions)
      → Acts m input whole Nothing (Among state old (set_each (position ∷ positions) ws (components_in v))) state before (each_from id class parts of_value k (position ∷ positions))
  unfolding each_from
  each_acts position positions [] k old v state before q front long within = absurd (omega (arith, long))
  each_acts position [] (x ∷ y ∷ ws) k old v state before q front long within = absurd (omega (arith, long))
  each_acts position [] (x ∷ []) k old v state before q front long within =
      let f = front_is (components_in w) k x [] front in
      let less = f.2 in
      let counted = ap length (words_in w is_new) ∙ is_new.count in
      let below : k < count = omega (arith, less, counted) in
      subst (λ x. Acts m input whole Nothing (Among state old (set (components_in v) position x)) state before (one_at id class parts of_value k position >>= (λ done. given tt))) f.0
      (acts_then m input whole Nothing Nothing (Among state old (set (components_in v) position (slice_index (components_in w) k))) (Among state old (set (components_in v) position (slice_index (components_in w) k))) state before (one_at id class parts of_value k position) (λ done. given tt)
      (component_acts k position old v state q below within.0 before)
      (λ done between. extends_same between)
      (λ done between ids is keeps. given_does m input whole Nothing tt (record state { ids = ids; variables = set state.variables number (with_value_at old path (of_components (set (components_in v) position (slice_index (components_in w) k)))) }) between tt))
  each_acts position (next ∷ positions) (x ∷ ws) k old v state before q front long within =
      let f = front_is (components_in w) k x ws front in
      let less = f.2 in
      let counted = ap length (words_in w is_new) ∙ is_new.count in
      let below : k < count = omega (arith, less, counted) in
      let now : List ℕ = set (components_in v) position (slice_index (components_in w) k) in
      subst (λ x. Acts m input whole Nothing (Among state old (set_each (next ∷ positions) ws (set (components_in v) position x))) state before (one_at id class parts of_value k position >>= (λ done. each_from id class parts of_value (k + 1) (next ∷ positions)))) f.0
      (acts_then m input whole Nothing Nothing (Among state old now) (Among state old (set_each (next ∷ positions) ws now)) state before (one_at id class parts of_value k position) (λ done. each_from id class parts of_value (k + 1) (next ∷ positions))
      (component_acts k position old v state q below within.0 before)
      (λ done between. each_grows m input whole id class parts of_value (k + 1) (next ∷ positions) state between)
      (λ done between ids is keeps.
      let later : State = record state { ids = ids; variables = set state.variables number (with_value_at old path (of_components now)) } in
      subst (λ variables. Acts m input whole Nothing (record { choices = state.choices; variables = variables; buffers = state.buffers }) later between (each_from id class parts of_value (k + 1) (next ∷ positions)))
      (put_twice state.variables number (with_value_at old path (of_components now)) (with_value_at (with_value_at old path (of_components now)) path (of_components (set_each (next ∷ positions) ws (components_in (of_components now)))))
      ∙ ap (set state.variables number) (value_twice old path (of_components now) (of_components (set_each (next ∷ positions) ws (components_in (of_components now))))
      ∙ ap (λ l. with_value_at old path (of_components (set_each (next ∷ positions) ws l))) (components_of now)))
      (each_acts next positions ws (k + 1) (with_value_at old path (of_components now)) (of_components now) later between (there_again k position old v state q below within.0 ids keeps) f.1 (omega (arith, long)) within.1)))

module _ (m : Module) (input : Input) (whole : Sections) (id class : ℕ) (parts : List Part) (p : Picked) (words : List ℕ) (from : Pointer) (number : ℕ) (path : List ℕ) (old v w : Value) (value : ℕ) (state : State) (before : Sections) (plain : is_block_class class ≡ false)
    (stands : state.ids id ≡ Some (Points from)) (each : NumberEach state.ids parts words) (leads : LeadsTo m input state from words (InVariable number path)) (there : slice_get state.variables number ≡ Some old) (at : value_at old path ≡ v) (is : IsOf p.shape v)
    (is_new : IsOf (p.shape.0, length p.positions) w) (new : Stands state.ids value w) where
  -- the variables with a value where a path leads
  abbrev With : List ℕ → Value → List Value
  With at_path x = set state.variables number (with_value_at old at_path x)

  variable_stores : (at_path : List ℕ) (x : Value) → Stores m input state (InVariable number at_path) x (With at_path x) state.buffers
  variable_stores at_path x ids choices rest go = ap (λ o. on o (λ old. go (with_variable (record state { ids = ids; choices = choices; rest = rest }) number (with_value_at old at_path x)))) there

  -- one component, by its position or by a word
  component_stored : (part : Part) (k : ℕ) → Numbers state.ids part k → 2 ≤ p.shape.1 → k < p.shape.1 → length p.positions ≡ 1
      → Acts m input whole Nothing (record { choices = state.choices; variables = With path (with_components v (k ∷ []) w); buffers = state.buffers }) state before (put_at id class (p.shape.0, 1) (parts ++ part ∷ []) value)
  component_stored part k is_number many less one =
      let counted = ap length (words_in v is) ∙ is.count in
      let led = component_led m input state number path old v p.shape there at is k (omega (arith, many, counted)) (omega (arith, less, counted)) in
      let single : IsOf (p.shape.0, 1) w = subst (λ n. IsOf (p.shape.0, n) w) one is_new in
      subst (λ variables. Acts m input whole Nothing (record { choices = state.choices; variables = variables; buffers = state.buffers }) state before (put_at id class (p.shape.0, 1) (parts ++ part ∷ []) value))
      (ap (λ x. set state.variables number x) (ap (with_value_at old (path ++ k ∷ [])) (lies_same class (p.shape.0, 1) w plain single) ∙ put_on old path k w ∙ ap (λ x. with_value_at old path (Many (set (parts_in x) k w))) at ∙ ap (with_value_at old path) (component_new p.shape v w k is single many)))
      (put_acts m input whole id class (p.shape.0, 1) (parts ++ part ∷ []) value (words ++ k ∷ []) from (InVariable number (path ++ k ∷ [])) w (With (path ++ k ∷ []) (converted_value (stored_shape class (p.shape.0, 1)).0 w)) state.buffers state before stands
      (numbers_on state.ids parts (part ∷ []) words (k ∷ []) each (is_number, tt)) (leads_on m input state from (InVariable number path) (InVariable number (path ++ k ∷ [])) words (k ∷ []) leads led) single new
      (variable_stores (path ++ k ∷ []) (converted_value (stored_shape class (p.shape.0, 1)).0 w)))

  vector_stored : (positions : List ℕ) → length positions ≡ length p.positions → 2 ≤ p.shape.1 → 1 ≤ length positions → AreWithin p.shape.1 None positions
      → Acts m input whole Nothing (record { choices = state.choices; variables = With path (with_components v positions w); buffers = state.buffers }) state before (each_from id class parts (operand (p.shape.0, length p.positions) value) 0 positions)
  vector_stored [] e many some within = absurd (let z : 1 ≤ 0 = some in omega (arith, z))
  vector_stored (position ∷ positions) e many some within =
      each_acts m input whole id class parts p.shape (length p.positions) words from number path w value plain many is_new position positions (components_in w) 0 old v state before
      (record { stands = stands; each = each; leads = leads; there = there; at = at; is = is; new = new }) refl (ap length (words_in w is_new) ∙ is_new.count ∙ sym e) within

  scalar_stored : (by : Option ℕ) → p.shape.1 ≡ 1 → length p.positions ≡ 1 → AreWithin 1 by p.positions
      → Acts m input whole Nothing (record { choices = state.choices; variables = With path (with_components v (goes_to by p.positions) w); buffers = state.buffers }) state before (put_at id class p.shape parts value)
  scalar_stored by one single within =
      let shape_same : p.shape ≡ (p.shape.0, 1) = ap (λ n. (p.shape.0, n)) one in
      let alone : IsOf (p.shape.0, 1) w = subst (λ n. IsOf (p.shape.0, n) w) single is_new in
      let is_one : IsOf p.shape w = subst (λ s. IsOf s w) (sym shape_same) alone in
      subst (λ x. Acts m input whole Nothing (record { choices = state.choices; variables = With path x; buffers = state.buffers }) state before (put_at id class p.shape parts value))
      (lies_same class p.shape w plain is_one ∙ scalar_new p.shape v w is one alone ∙ ap (λ ps. with_components v ps w) (sym (one_position by p.positions single within)))
      (put_acts m input whole id class p.shape parts value words from (InVariable number path) w (With path (converted_value (stored_shape class p.shape).0 w)) state.buffers state before stands each leads is_one new (variable_stores path (converted_value (stored_shape class p.shape).0 w)))

  picked_stored : (by : Option ℕ) → Picks state.ids p by → AreStored by p.positions → length p.positions ≤ p.shape.1
      → Acts m input whole Nothing (record { choices = state.choices; variables = With path (with_components v (goes_to by p.positions) w); buffers = state.buffers }) state before (put_picked id class parts value p)
  unfolding put_picked
  picked_stored by picks stored few = by_count (p.shape.1 == 1) refl
    where
      by_several : (part : Option Part) (by : Option ℕ) → Chooses state.ids part by → AreWithin p.shape.1 by p.positions → AreStored by p.positions → 2 ≤ p.shape.1
          → Acts m input whole Nothing (record { choices = state.choices; variables = With path (with_components v (goes_to by p.positions) w); buffers = state.buffers }) state before (put_by id class p.shape part p.positions parts value)
      by_several None None chooses within stored many = vector_stored p.positions refl many picks.some within
      by_several None (Some k) chooses within stored many = absurd chooses
      by_several (Some part) None chooses within stored many = absurd chooses
      by_several (Some part) (Some k) chooses within stored many = component_stored part k chooses many within.0 stored

      by_count : (b : Bool) → (p.shape.1 == 1) ≡ b
          → Acts m input whole Nothing (record { choices = state.choices; variables = With path (with_components v (goes_to by p.positions) w); buffers = state.buffers }) state before (if b then put_at id class p.shape parts value else put_by id class p.shape p.by p.positions parts value)
      by_count true e = let one = eqb-true p.shape.1 1 e in let some = picks.some in scalar_stored by one (omega (arith, few, one, some)) (subst (λ n. AreWithin n by p.positions) one picks.within)
      by_count false e = by_several p.by by picks.by_word picks.within stored (several p.shape.1 e (some_components p.shape.1 by p.positions picks.some picks.within))

  pub variables_stored : (shape : Shape) (by : Option ℕ) → Picks state.ids p by → AreStored by p.positions → length p.positions ≤ p.shape.1
      → Acts m input whole Nothing (record { choices = state.choices; variables = With path (with_components v (goes_to by p.positions) w); buffers = state.buffers }) state before (stored shape (record { base = base.Variable id class; path = parts; picked = Some p }) value)
  unfolding stored
  variables_stored shape by picks fits few = picked_stored by picks fits few
