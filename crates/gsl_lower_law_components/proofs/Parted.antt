-- Components of vectors in blocks that are stored.
use Rattle.std.proofs.Common.{◌≡◌, refl, sym, ap, ◌∙◌, subst, ℕ, suc, ◌+◌, ◌*◌, ◌<◌, ◌≤◌, Bool, true, false, if◌then◌else◌, List, [], ◌∷◌, ◌++◌, length, map, drop, Option, Some, None, arith}
use Rattle.std.specs.Prelude.{slice_index, ◌==◌}
use Rattle.std.specs.List.{AllByRecursion}
use Rattle.std.proofs.lemmas.Bool.{true≢false}
use Rattle.gsl_base.specs.declared.input.Input.{Input}
use Rattle.gsl_types.specs.declared.ty.Scalar.{Scalar}
use Rattle.gsl_words.specs.Words.{put_word}
use Rattle.gsl_words.specs.declared.module.Module.{Module}
use Rattle.gsl_words.proofs.Bytes.{put-length}
use Rattle.gsl_values.specs.declared.value.Value.{Value}
use Rattle.gsl_values.specs.declared.value.Value.TheVariants.{Word}
use Rattle.gsl_tree.specs.Operations.{converted as converted_word}
use Rattle.gsl_tree.specs.Shapes.{Shape}
use Rattle.gsl_tree.specs.Values.{components_in}
use Rattle.gsl_views.specs.Buffers.{put_words}
use Rattle.gsl_machine.specs.Memory.{bytes_of, is_push}
use Rattle.gsl_machine.specs.State.{Ids, InBlock, Pointer, Points, State}
use Rattle.gsl_spv.specs.Sections.{Sections}
use Rattle.gsl_spv.proofs.Extending.{extends_same}
use Rattle.gsl_lower_values.specs.Building.{given, ◌>>=◌}
use Rattle.gsl_lower_values.specs.Constructors.{operand}
use Rattle.gsl_lower_values.specs.declared.operand.Operand.{Operand}
use Rattle.gsl_lower_places.specs.Reached.{is_block_class, stored_scalar, stored_shape}
use Rattle.gsl_lower_places.specs.Writing.{each_from, one_at, put_at, put_by, put_picked, stored}
use Rattle.gsl_lower_places.specs.declared.reached.Base.TheVariants as base
use Rattle.gsl_lower_places.specs.declared.reached.Part.{Part}
use Rattle.gsl_lower_places.specs.declared.reached.Picked.{Picked}
use Rattle.gsl_lower_law.specs.Computing.{Acts, Left}
use Rattle.gsl_lower_law.specs.Operands.{converted_value}
use Rattle.gsl_lower_law.specs.Values.{IsOf, Keeps, Stands}
use Rattle.gsl_lower_law.proofs.Components.{components_of}
use Rattle.gsl_lower_law.proofs.Joining.{acts_then, given_does}
use Rattle.gsl_lower_law.proofs.Picking.{one_word}
use Rattle.gsl_lower_law_picks.proofs.OfLawConstructors.{words_in}
use Rattle.gsl_lower_law_picks.specs.OfLawPlaces.{AreWithin, Chooses, Picks}
use Rattle.gsl_lower_law_picks.specs.OfLawPlaces.{LeadsTo, NumberEach, Numbers}
use Rattle.gsl_lower_law_picks.specs.OfLawPlaces.{AreStored, IsVectorType, buffers_with, goes_to}
use Rattle.gsl_lower_law_picks.proofs.OfLawPlaces.{block_big, block_put, block_twice, leads_again}
use Rattle.gsl_lower_law_picks.proofs.OfLawPlaces.{block_stores, component_led}
use Rattle.gsl_lower_law_picks.proofs.OfLawPlaces.{still_number}
use Rattle.gsl_lower_law_picks.proofs.OfLawPlaces.{converted_of, each_grows, one_acts}
use Rattle.gsl_lower_law_picks.proofs.OfLawPlaces.{front_is}
use Rattle.gsl_lower_law_picks.proofs.OfLawPlaces.{converted_words}
use Rattle.gsl_lower_law_picks.proofs.OfLawPlaces.{leads_on, numbers_on, word_converted}
use Rattle.gsl_lower_law_picks.proofs.OfLawPlaces.{Nothing, put_acts}
use Rattle.gsl_lower_law_picks.proofs.Outside.{not_one}
use Rattle.gsl_lower_law_components.specs.Putting.{put_components}

abbrev scalar_in : Shape → Scalar
scalar_in shape = shape.0

-- the scalar type in which a shape lies does not look at the count
stored_first : (class : ℕ) (shape : Shape) (n : ℕ) → (stored_shape class (shape.0, n)).0 ≡ (stored_shape class shape).0
stored_first class shape n = by (is_block_class class)
  where
    by : (b : Bool) → scalar_in (if b then (stored_scalar shape.0, n) else (shape.0, n)) ≡ scalar_in (if b then (stored_scalar shape.0, shape.1) else shape)
    by true = refl
    by false = refl

-- a scalar that is put where a chain leads in a block
pub alone_put : (m : Module) (input : Input) (whole : Sections) (id class : ℕ) (s : Scalar) (parts : List Part) (words : List ℕ) (from : Pointer) (variable offset k pointee : ℕ) (bytes : List ℕ) (w : Value) (value : ℕ) (state : State) (before : Sections) → state.ids id ≡ Some (Points from) → NumberEach state.ids parts words
    → LeadsTo m input state from words (InBlock variable (offset + 4 * k) pointee) → bytes_of m input state variable ≡ Some bytes → IsOf (s, 1) w → Stands state.ids value w
    → Acts m input whole Nothing (record { choices = state.choices; variables = state.variables; buffers = buffers_with m state variable (put_components offset (k ∷ []) (components_in (converted_value (stored_shape class (s, 1)).0 w)) bytes) }) state before (put_at id class (s, 1) parts value)
alone_put m input whole id class s parts words from variable offset k pointee bytes w value state before stands each leads there single new =
    subst (λ put. Acts m input whole Nothing (record { choices = state.choices; variables = state.variables; buffers = buffers_with m state variable put }) state before (put_at id class (s, 1) parts value))
    (put_alone (components_in (converted_value (stored_shape class (s, 1)).0 w)) one_lies)
    (put_acts m input whole id class (s, 1) parts value words from (InBlock variable (offset + 4 * k) pointee) w state.variables (buffers_with m state variable (put_words (offset + 4 * k) (components_in (converted_value (stored_shape class (s, 1)).0 w)) bytes)) state before stands each leads single new
    (block_stores m input state variable (offset + 4 * k) pointee bytes there (converted_value (stored_shape class (s, 1)).0 w)))
  where
    put_alone : (ws : List ℕ) → length ws ≡ 1 → put_words (offset + 4 * k) ws bytes ≡ put_components offset (k ∷ []) ws bytes
    put_alone ws long = let x = one_word ws long in ap (λ l. put_words (offset + 4 * k) l bytes) x.1 ∙ ap (λ l. put_components offset (k ∷ []) l bytes) (sym x.1)

    one_lies : length (components_in (converted_value (stored_shape class (s, 1)).0 w)) ≡ 1
    one_lies = let to = converted_of s (stored_shape class (s, 1)).0 1 w single in ap length (words_in (converted_value (stored_shape class (s, 1)).0 w) to) ∙ to.count

-- ---- several components, one after the other

module _ (m : Module) (input : Input) (whole : Sections) (id class : ℕ) (parts : List Part) (shape : Shape) (count : ℕ) (words : List ℕ) (from : Pointer) (variable offset pointee component : ℕ) (w : Value) (value : ℕ)
    (no_push : is_push m variable ≡ false) (vector : IsVectorType m pointee component shape.1) (is_new : IsOf (shape.0, count) w) where
  abbrev of_value : Operand
  of_value = operand (shape.0, count) value

  -- a word as it lies in the block
  abbrev lying_word : ℕ → ℕ
  lying_word word = converted_word (stored_shape class (shape.0, 1)).0 word

  -- the buffers with other bytes in the block
  abbrev Among : State → List ℕ → Left
  Among state bytes = record { choices = state.choices; variables = state.variables; buffers = buffers_with m state variable bytes }

  -- a pointer leads to the vector in the block, which has these bytes
  record IsThere (bytes : List ℕ) (state : State) : Type 0 where
    stands : state.ids id ≡ Some (Points from)
    each : NumberEach state.ids parts words
    leads : LeadsTo m input state from words (InBlock variable offset pointee)
    there : bytes_of m input state variable ≡ Some bytes
    new : Stands state.ids value w

  module _ (k position : ℕ) (bytes : List ℕ) (state : State) (q : IsThere bytes state) (less : k < count) (within : position < shape.1) where
    abbrev put_bytes : List ℕ
    put_bytes = put_word bytes (offset + 4 * position) (lying_word (slice_index (components_in w) k))

    component_acts : (before : Sections) → Acts m input whole Nothing (Among state put_bytes) state before (one_at id class parts of_value k position)
    component_acts before =
        subst (λ put. Acts m input whole Nothing (Among state put) state before (one_at id class parts of_value k position))
        (ap (λ v. put_words (offset + 4 * position) (components_in v) bytes) (word_converted (stored_shape class (shape.0, 1)).0 (slice_index (components_in w) k))
        ∙ ap (λ ws. put_words (offset + 4 * position) ws bytes) (components_of (lying_word (slice_index (components_in w) k) ∷ [])))
        (one_acts m input whole id class parts of_value k position words from (InBlock variable (offset + 4 * position) component) w state.variables
        (buffers_with m state variable (put_words (offset + 4 * position) (components_in (converted_value (stored_shape class (shape.0, 1)).0 (Word (slice_index (components_in w) k)))) bytes)) state before is_new less q.new q.stands q.each
        (leads_on m input state from (InBlock variable offset pointee) (InBlock variable (offset + 4 * position) component) words (position ∷ []) q.leads (component_led m input state variable offset pointee bytes q.there component shape.1 vector position within))
        (block_stores m input state variable (offset + 4 * position) component bytes q.there (converted_value (stored_shape class (shape.0, 1)).0 (Word (slice_index (components_in w) k)))))

    there_again : (ids : Ids) → Keeps state.ids ids → IsThere put_bytes (record state { ids = ids; buffers = buffers_with m state variable put_bytes })
    there_again ids keeps = record {
      stands = keeps.same id _ q.stands;
      each = still_number state.ids ids keeps parts words q.each;
      leads = leads_again m input state (record state { ids = ids; buffers = buffers_with m state variable put_bytes })
          (block_big m input variable no_push state ids bytes put_bytes q.there (put-length bytes (offset + 4 * position) (lying_word (slice_index (components_in w) k)))) from (InBlock variable offset pointee) words q.leads;
      there = block_put m input variable no_push state ids bytes put_bytes q.there;
      new = keeps.same value _ q.new;
    }

  each_acts : (position : ℕ) (positions ws : List ℕ) (k : ℕ) (bytes : List ℕ) (state : State) (before : Sections) → IsThere bytes state → drop k (components_in w) ≡ ws → length ws ≡ suc (length positions) → AllByRecursion (λ position. position < shape.1) (position ∷ positions)
      → Acts m input whole Nothing (Among state (put_components offset (position ∷ positions) (map lying_word ws) bytes)) state before (each_from id class parts of_value k (position ∷ positions))
  unfolding each_from
  each_acts position positions [] k bytes state before q front long within = absurd (omega (arith, long))
  each_acts position [] (x ∷ y ∷ ws) k bytes state before q front long within = absurd (omega (arith, long))
  each_acts position [] (x ∷ []) k bytes state before q front long within =
      let f = front_is (components_in w) k x [] front in
      let less = f.2 in
      let counted = ap length (words_in w is_new) ∙ is_new.count in
      let below : k < count = omega (arith, less, counted) in
      let now : List ℕ = put_word bytes (offset + 4 * position) (lying_word (slice_index (components_in w) k)) in
      subst (λ x. Acts m input whole Nothing (Among state (put_word bytes (offset + 4 * position) (lying_word x))) state before (one_at id class parts of_value k position >>= (λ done. given tt))) f.0
      (acts_then m input whole Nothing Nothing (Among state now) (Among state now) state before (one_at id class parts of_value k position) (λ done. given tt)
      (component_acts k position bytes state q below within.0 before)
      (λ done between. extends_same between)
      (λ done between ids is keeps. given_does m input whole Nothing tt (record state { ids = ids; buffers = buffers_with m state variable now }) between tt))
  each_acts position (next ∷ positions) (x ∷ ws) k bytes state before q front long within =
      let f = front_is (components_in w) k x ws front in
      let less = f.2 in
      let counted = ap length (words_in w is_new) ∙ is_new.count in
      let below : k < count = omega (arith, less, counted) in
      let now : List ℕ = put_word bytes (offset + 4 * position) (lying_word (slice_index (components_in w) k)) in
      subst (λ x. Acts m input whole Nothing (Among state (put_components offset (next ∷ positions) (map lying_word ws) (put_word bytes (offset + 4 * position) (lying_word x)))) state before (one_at id class parts of_value k position >>= (λ done. each_from id class parts of_value (k + 1) (next ∷ positions)))) f.0
      (acts_then m input whole Nothing Nothing (Among state now) (Among state (put_components offset (next ∷ positions) (map lying_word ws) now)) state before (one_at id class parts of_value k position) (λ done. each_from id class parts of_value (k + 1) (next ∷ positions))
      (component_acts k position bytes state q below within.0 before)
      (λ done between. each_grows m input whole id class parts of_value (k + 1) (next ∷ positions) state between)
      (λ done between ids is keeps.
      let later : State = record state { ids = ids; buffers = buffers_with m state variable now } in
      subst (λ buffers. Acts m input whole Nothing (record { choices = state.choices; variables = state.variables; buffers = buffers }) later between (each_from id class parts of_value (k + 1) (next ∷ positions)))
      (block_twice m input variable no_push state ids now (put_components offset (next ∷ positions) (map lying_word ws) now))
      (each_acts next positions ws (k + 1) now later between (there_again k position bytes state q below within.0 ids keeps) f.1 (omega (arith, long)) within.1)))

module _ (m : Module) (input : Input) (whole : Sections) (id class : ℕ) (parts : List Part) (p : Picked) (words : List ℕ) (from : Pointer) (variable offset pointee component : ℕ) (bytes : List ℕ) (w : Value) (value : ℕ) (state : State) (before : Sections) (many : 2 ≤ p.shape.1)
    (stands : state.ids id ≡ Some (Points from)) (each : NumberEach state.ids parts words) (leads : LeadsTo m input state from words (InBlock variable offset pointee)) (no_push : is_push m variable ≡ false) (there : bytes_of m input state variable ≡ Some bytes)
    (vector : IsVectorType m pointee component p.shape.1) (is_new : IsOf (p.shape.0, length p.positions) w) (new : Stands state.ids value w) where
  -- the words of the new components, as they lie
  abbrev lying : ℕ → List ℕ
  lying n = components_in (converted_value (stored_shape class (p.shape.0, n)).0 w)

  -- one component, by its position or by a word
  component_put : (part : Part) (k : ℕ) → Numbers state.ids part k → k < p.shape.1 → length p.positions ≡ 1
      → Acts m input whole Nothing (record { choices = state.choices; variables = state.variables; buffers = buffers_with m state variable (put_components offset (k ∷ []) (lying (length p.positions)) bytes) }) state before (put_at id class (p.shape.0, 1) (parts ++ part ∷ []) value)
  component_put part k number less one =
      subst (λ n. Acts m input whole Nothing (record { choices = state.choices; variables = state.variables; buffers = buffers_with m state variable (put_components offset (k ∷ []) (lying n) bytes) }) state before (put_at id class (p.shape.0, 1) (parts ++ part ∷ []) value)) (sym one)
      (alone_put m input whole id class p.shape.0 (parts ++ part ∷ []) (words ++ k ∷ []) from variable offset k component bytes w value state before stands (numbers_on state.ids parts (part ∷ []) words (k ∷ []) each (number, tt))
      (leads_on m input state from (InBlock variable offset pointee) (InBlock variable (offset + 4 * k) component) words (k ∷ []) leads (component_led m input state variable offset pointee bytes there component p.shape.1 vector k less)) there
      (subst (λ n. IsOf (p.shape.0, n) w) one is_new) new)

  vector_put : (positions : List ℕ) → length positions ≡ length p.positions → 1 ≤ length positions → AreWithin p.shape.1 None positions
      → Acts m input whole Nothing (record { choices = state.choices; variables = state.variables; buffers = buffers_with m state variable (put_components offset positions (lying (length p.positions)) bytes) }) state before (each_from id class parts (operand (p.shape.0, length p.positions) value) 0 positions)
  vector_put [] e some within = absurd (let z : 1 ≤ 0 = some in omega (arith, z))
  vector_put (position ∷ positions) e some within =
      subst (λ ws. Acts m input whole Nothing (record { choices = state.choices; variables = state.variables; buffers = buffers_with m state variable (put_components offset (position ∷ positions) ws bytes) }) state before (each_from id class parts (operand (p.shape.0, length p.positions) value) 0 (position ∷ positions)))
      (ap (λ s. map (converted_word s) (components_in w)) (stored_first class p.shape 1 ∙ sym (stored_first class p.shape (length p.positions))) ∙ sym (converted_words (stored_shape class (p.shape.0, length p.positions)).0 w))
      (each_acts m input whole id class parts p.shape (length p.positions) words from variable offset pointee component w value no_push vector is_new position positions (components_in w) 0 bytes state before
      (record { stands = stands; each = each; leads = leads; there = there; new = new }) refl (ap length (words_in w is_new) ∙ is_new.count ∙ sym e) within)

  picked_put : (by : Option ℕ) → Picks state.ids p by → AreStored by p.positions → length p.positions ≤ p.shape.1
      → Acts m input whole Nothing (record { choices = state.choices; variables = state.variables; buffers = buffers_with m state variable (put_components offset (goes_to by p.positions) (lying (length p.positions)) bytes) }) state before (put_picked id class parts value p)
  unfolding put_picked
  picked_put by picks fits few = by_count (p.shape.1 == 1) (not_one p.shape.1 many)
    where
      by_part : (part : Option Part) (by : Option ℕ) → Chooses state.ids part by → AreWithin p.shape.1 by p.positions → AreStored by p.positions
          → Acts m input whole Nothing (record { choices = state.choices; variables = state.variables; buffers = buffers_with m state variable (put_components offset (goes_to by p.positions) (lying (length p.positions)) bytes) }) state before (put_by id class p.shape part p.positions parts value)
      by_part None None chooses within fits = vector_put p.positions refl picks.some within
      by_part None (Some k) chooses within fits = absurd chooses
      by_part (Some part) None chooses within fits = absurd chooses
      by_part (Some part) (Some k) chooses within fits = component_put part k chooses within.0 fits

      by_count : (b : Bool) → b ≡ false
          → Acts m input whole Nothing (record { choices = state.choices; variables = state.variables; buffers = buffers_with m state variable (put_components offset (goes_to by p.positions) (lying (length p.positions)) bytes) }) state before (if b then put_at id class p.shape parts value else put_by id class p.shape p.by p.positions parts value)
      by_count true e = absurd (true≢false e)
      by_count false e = by_part p.by by picks.by_word picks.within fits

  pub blocks_stored : (shape : Shape) (by : Option ℕ) → Picks state.ids p by → AreStored by p.positions → length p.positions ≤ p.shape.1
      → Acts m input whole Nothing (record { choices = state.choices; variables = state.variables; buffers = buffers_with m state variable (put_components offset (goes_to by p.positions) (lying (length p.positions)) bytes) }) state before
      (stored shape (record { base = base.Variable id class; path = parts; picked = Some p }) value)
  unfolding stored
  blocks_stored shape by picks fits few = picked_put by picks fits few
