-- One pointer for what is read and then stored.
use Rattle.std.proofs.Common.{◌≡◌, refl, sym, ap, ◌∙◌, subst, ℕ, zero, suc, ◌<◌, ◌≤◌, Bool, true, false, if◌then◌else◌, List, [], ◌∷◌, ◌++◌, length, map, set, Option, Some, None, arith}
use Rattle.std.specs.Prelude.{◌==◌, slice_get, slice_index}
use Rattle.std.proofs.lemmas.Bool.{eqb-true, true≢false}
use Rattle.gsl_base.specs.declared.input.Input.{Input}
use Rattle.gsl_types.specs.declared.ty.Scalar.{Scalar}
use Rattle.gsl_words.specs.declared.module.Module.{Module}
use Rattle.gsl_values.specs.declared.value.Value.{Value}
use Rattle.gsl_values.specs.declared.value.Value.TheVariants.{Word, Many}
use Rattle.gsl_tree.specs.Operations.{with_value_at}
use Rattle.gsl_tree.specs.Shapes.{Shape}
use Rattle.gsl_tree.specs.Values.{components_in, of_components, parts_in}
use Rattle.gsl_machine.specs.Memory.{with_variable}
use Rattle.gsl_machine.specs.State.{Ids, InVariable, Pointer, Points, State, on}
use Rattle.gsl_spv.specs.Sections.{Sections}
use Rattle.gsl_spv.proofs.Extending.{extends_same}
use Rattle.gsl_lower_values.specs.Building.{Step, given, ◌>>=◌}
use Rattle.gsl_lower_values.specs.Types.{type_of}
use Rattle.gsl_lower_places.specs.Pointed.{pointed, pointed_at, pointed_by, pointed_picked, pointed_to}
use Rattle.gsl_lower_places.specs.Reached.{stored_shape}
use Rattle.gsl_lower_places.specs.Reading.{pointer, read}
use Rattle.gsl_lower_places.specs.Writing.{stored}
use Rattle.gsl_lower_places.specs.declared.reached.Base.TheVariants as base
use Rattle.gsl_lower_places.specs.declared.reached.Part.{Part}
use Rattle.gsl_lower_places.specs.declared.reached.Part.TheVariants.{Fixed}
use Rattle.gsl_lower_places.specs.declared.reached.Picked.{Picked}
use Rattle.gsl_lower_places.specs.declared.reached.Reached.{Reached}
use Rattle.gsl_lower_law.specs.Computing.{Acts, Computes, Does, Grows, drawing}
use Rattle.gsl_lower_law.specs.Operands.{converted_value}
use Rattle.gsl_lower_law.specs.Straying.{Strays}
use Rattle.gsl_lower_law.specs.Values.{IsOf, Keeps, Stands}
use Rattle.gsl_lower_law.proofs.Joining.{does_then, given_does, grows_then}
use Rattle.gsl_lower_law.proofs.Picking.{one_word}
use Rattle.gsl_lower_law.proofs.Plain.{IsType, type_does}
use Rattle.gsl_lower_law.proofs.Straying.{strays_before, strays_then}
use Rattle.gsl_lower_law_places.proofs.OfLawConstructors.{words_in}
use Rattle.gsl_lower_law_places.specs.Components.{AreWithin, Chooses, HoldsComponents, Picks, chosen, picks_of}
use Rattle.gsl_lower_law_places.specs.Leading.{HoldsValue, LeadsTo, NumberEach, Numbers, StraysFrom}
use Rattle.gsl_lower_law_places.specs.Storing.{AreStored, Stores, goes_to, with_components}
use Rattle.gsl_lower_law_places.proofs.Chains.{pointer_does, pointer_grows, still_number}
use Rattle.gsl_lower_law_places.proofs.Kept.{component_new, lies_same, one_position, put_on, scalar_new, variables_stored}
use Rattle.gsl_lower_law_places.proofs.Loads.{loaded_computes}
use Rattle.gsl_lower_law_places.proofs.Outside.{pointer_strays}
use Rattle.gsl_lower_law_places.proofs.Reading.{component_converted, converted_is, leads_on, numbers_on, one_is, several, some_components, stored_count, stored_one, variables_read, word_converted}
use Rattle.gsl_lower_law_places.proofs.Stored.{put_acts}
use Rattle.gsl_lower_law_picks.specs.Outside.{PicksOutside}
use Rattle.gsl_lower_law_picks.specs.Serving.{IsAt, Serves}
use Rattle.gsl_lower_law_picks.proofs.Along.{stray_behind, stray_on}
use Rattle.gsl_lower_law_picks.proofs.Outside.{not_one}
use Rattle.gsl_lower_law_picks.proofs.Parted.{part_is, part_of}

-- ---- what is picked

-- a scalar is what is picked of it once
scalar_picks : (s : Scalar) (u : Value) (by : Option ℕ) (positions : List ℕ) → IsOf (s, 1) u → AreWithin 1 by positions → length positions ≡ 1 → u ≡ picks_of u by positions
scalar_picks s u by positions is within one = let w = one_word is.words is.count in is.is ∙ ap of_components (w.1 ∙ all by positions w.0 within one ∙ ap (λ ws. map (λ position. slice_index ws (chosen by position)) positions) (sym (words_in u is ∙ w.1)))
  where
    all : (by : Option ℕ) (positions : List ℕ) (w : ℕ) → AreWithin 1 by positions → length positions ≡ 1 → w ∷ [] ≡ map (λ position. slice_index (w ∷ []) (chosen by position)) positions
    all by [] w within one = absurd (let z : 0 ≡ 1 = one in omega (arith, z))
    all by (p ∷ q ∷ positions) w within one = absurd (let z : suc (suc (length positions)) ≡ 1 = one in omega (arith, z))
    all None (zero ∷ []) w within one = refl
    all None (suc k ∷ []) w within one = absurd (let less : suc k < 1 = within.0 in omega (arith, less))
    all (Some zero) (p ∷ []) w within one = refl
    all (Some (suc k)) (p ∷ []) w within one = absurd (let less : suc k < 1 = within.0 in omega (arith, less))

-- one component is picked by its position or by a word
one_picks : (u : Value) (by : Option ℕ) (positions : List ℕ) (k : ℕ) → goes_to by positions ≡ k ∷ [] → length positions ≡ 1 → Word (slice_index (components_in u) k) ≡ picks_of u by positions
one_picks u None positions k goes one = ap (λ ps. of_components (map (λ position. slice_index (components_in u) position) ps)) (sym goes)
one_picks u (Some j) [] k goes one = absurd (let z : 0 ≡ 1 = one in omega (arith, z))
one_picks u (Some j) (p ∷ q ∷ positions) k goes one = absurd (let z : suc (suc (length positions)) ≡ 1 = one in omega (arith, z))
one_picks u (Some j) (p ∷ []) k goes one = ap (λ n. Word (slice_index (components_in u) n)) (sym (ap first goes))
  where
    first : List ℕ → ℕ
    first [] = 0
    first (n ∷ ns) = n

module _ (m : Module) (input : Input) (whole : Sections) where
  pub leads_nowhere : (state : State) (to : Pointer) → LeadsTo m input state to [] to
  leads_nowhere state to place go = refl

  -- ---- the pointer

  module _ (Is : Reached → Ids → Type 0) (id class : ℕ) (shape : Shape) (parts : List Part) (picked : Option Picked) (words : List ℕ) (from to : Pointer) (state : State) (before : Sections) (stands : state.ids id ≡ Some (Points from)) (each : NumberEach state.ids parts words)
      (leads : LeadsTo m input state from words to) where
    abbrev at_pointer : ℕ → Step Reached
    at_pointer at = given (record { base = base.Variable at class; path = []; picked = picked })

    abbrev behind_type : ℕ → Step Reached
    behind_type type = pointer id class type parts >>= at_pointer

    at_grows : (at : ℕ) (last : Sections) → Grows last (at_pointer at last)
    at_grows at last = extends_same last

    pub pointed_does : ((r : Reached) (ids : Ids) → Keeps state.ids ids → IsAt class to picked r ids → Is r ids) → Does m input whole Is state.choices state before (pointed_to id class shape parts picked)
    pointed_does gives =
        does_then m input whole (IsType m input whole (stored_shape class shape)) Is state.choices state.choices state before (type_of (stored_shape class shape)) behind_type
        (type_does m input whole (stored_shape class shape) state before)
        (λ type between. grows_then m input whole between (pointer id class type parts between) at_pointer (pointer_grows m input whole id class type parts state between) at_grows)
        (λ type between ids typed keeps.
        does_then m input whole (λ given ids. ids given ≡ Some (Points to)) Is state.choices state.choices (record state { ids = ids }) between (pointer id class type parts) at_pointer
        (pointer_does m input whole id class type parts words from to (record state { ids = ids }) between (keeps.same id _ stands) (still_number state.ids ids keeps parts words each) leads)
        at_grows
        (λ at last now points kept.
        given_does m input whole Is (record { base = base.Variable at class; path = []; picked = picked }) (record state { ids = now }) last
        (gives (record { base = base.Variable at class; path = []; picked = picked }) now (record { same = λ id held e. kept.same id held (keeps.same id held e) }) (record { id = at; is = refl; points = points }))))

  -- ---- what is read and stored by it

  variable_left : (state : State) (number : ℕ) (path : List ℕ) (old x : Value) → slice_get state.variables number ≡ Some old → Stores m input state (InVariable number path) x (set state.variables number (with_value_at old path x)) state.buffers
  variable_left state number path old x there ids choices rest go = ap (λ o. on o (λ old. go (with_variable (record state { ids = ids; choices = choices; rest = rest }) number (with_value_at old path x)))) there

  -- the whole of what a pointer leads to
  module _ (class : ℕ) (shape : Shape) (id : ℕ) (later : State) (before : Sections) where
    whole_read : (to : Pointer) (v : Value) → later.ids id ≡ Some (Points to) → HoldsValue m input later to v → IsOf (stored_shape class shape) v
        → Computes m input whole (converted_value shape.0 v, later.choices) later before (read shape (record { base = base.Variable id class; path = []; picked = None }))
    unfolding read
    whole_read to v points holds is = loaded_computes m input whole id class shape [] [] to to v later before points tt (leads_nowhere later to) holds is

    whole_stored : (number : ℕ) (path : List ℕ) (old w : Value) (value : ℕ) → later.ids id ≡ Some (Points (InVariable number path)) → slice_get later.variables number ≡ Some old → IsOf shape w → Stands later.ids value w
        → Acts m input whole (λ given now. Unit {0}) (record { choices = later.choices; variables = set later.variables number (with_value_at old path (converted_value (stored_shape class shape).0 w)); buffers = later.buffers }) later before
        (stored shape (record { base = base.Variable id class; path = []; picked = None }) value)
    unfolding stored
    whole_stored number path old w value points there is_new new =
        put_acts m input whole id class shape [] value [] (InVariable number path) (InVariable number path) w (set later.variables number (with_value_at old path (converted_value (stored_shape class shape).0 w))) later.buffers later before points tt
        (leads_nowhere later (InVariable number path)) is_new new (variable_left later number path old (converted_value (stored_shape class shape).0 w) there)

  module _ (class : ℕ) (p : Picked) (by : Option ℕ) (to : Pointer) where
    -- several components, of what the pointer leads to
    several_serve : {picking : Ids} (r : Reached) (ids : Ids) → Picks picking p by → AreStored by p.positions → length p.positions ≤ p.shape.1 → IsAt class to (Some p) r ids → (p.by ≡ None) → (by ≡ None) → Serves m input whole class p by to r ids
    several_serve r ids picks fits few at none nothing = record {
      reads = λ later before v keeps holds is.
          subst (λ r. Computes m input whole (picks_of (converted_value p.shape.0 v) by p.positions, later.choices) later before (read (p.shape.0, length p.positions) r)) (sym at.is)
          (variables_read m input whole at.id class [] p [] to to v later before (keeps.same at.id _ at.points) tt (leads_nowhere later to) holds is (p.shape.0, length p.positions) by (still later keeps));
      stores = λ later before number path old v w value keeps plain is_to there value_there is is_new new.
          subst (λ r. Acts m input whole (λ given now. Unit {0}) (record { choices = later.choices; variables = set later.variables number (with_value_at old path (with_components v (goes_to by p.positions) w)); buffers = later.buffers }) later before (stored (p.shape.0, length p.positions) r value)) (sym at.is)
          (variables_stored m input whole at.id class [] p [] (InVariable number path) number path old v w value later before plain (keeps.same at.id _ at.points ∙ ap (λ t. Some (Points t)) is_to) tt (leads_nowhere later (InVariable number path)) there value_there is is_new new (p.shape.0, length p.positions) by
          (still later keeps) fits few);
    }
      where
        no_word : (ids : Ids) (part : Option Part) (by : Option ℕ) → part ≡ None → by ≡ None → Chooses ids part by
        no_word ids None None e f = tt
        no_word ids None (Some k) e f = absurd (let z : Some k ≡ None = f in cc)
        no_word ids (Some part) by e f = absurd (let z : Some part ≡ None = e in cc)

        still : (later : State) → Keeps ids later.ids → Picks later.ids p by
        still later keeps = record { by_word = no_word later.ids p.by by none nothing; some = picks.some; within = picks.within }

    -- a scalar
    scalar_serves : (r : Reached) (ids : Ids) → p.shape.1 ≡ 1 → length p.positions ≡ 1 → AreWithin 1 by p.positions → IsAt class to None r ids → Serves m input whole class p by to r ids
    scalar_serves r ids one single within at = record {
      reads = λ later before v keeps holds is.
          let now : IsOf (stored_shape class (p.shape.0, length p.positions)) v = subst (λ s. IsOf (stored_shape class s) v) same is in
          subst (λ r. Computes m input whole (picks_of (converted_value p.shape.0 v) by p.positions, later.choices) later before (read (p.shape.0, length p.positions) r)) (sym at.is)
          (subst (λ u. Computes m input whole (u, later.choices) later before (read (p.shape.0, length p.positions) (record { base = base.Variable at.id class; path = []; picked = None })))
          (scalar_picks p.shape.0 (converted_value p.shape.0 v) by p.positions (subst (λ s. IsOf s (converted_value p.shape.0 v)) (same ∙ ap (λ n. (p.shape.0, n)) single) (converted_is class p.shape v is)) within single)
          (whole_read class (p.shape.0, length p.positions) at.id later before to v (keeps.same at.id _ at.points) holds.all now));
      stores = λ later before number path old v w value keeps plain is_to there value_there is is_new new.
          let alone : IsOf (p.shape.0, 1) w = subst (λ n. IsOf (p.shape.0, n) w) single is_new in
          subst (λ r. Acts m input whole (λ given now. Unit {0}) (record { choices = later.choices; variables = set later.variables number (with_value_at old path (with_components v (goes_to by p.positions) w)); buffers = later.buffers }) later before (stored (p.shape.0, length p.positions) r value)) (sym at.is)
          (subst (λ x. Acts m input whole (λ given now. Unit {0}) (record { choices = later.choices; variables = set later.variables number (with_value_at old path x); buffers = later.buffers }) later before (stored (p.shape.0, length p.positions) (record { base = base.Variable at.id class; path = []; picked = None }) value))
          (lies_same class (p.shape.0, length p.positions) w plain is_new ∙ scalar_new p.shape v w is one alone ∙ ap (λ ps. with_components v ps w) (sym (one_position by p.positions single within)))
          (whole_stored class (p.shape.0, length p.positions) at.id later before number path old w value (keeps.same at.id _ at.points ∙ ap (λ t. Some (Points t)) is_to) there is_new new));
    }
      where
        same : p.shape ≡ (p.shape.0, length p.positions)
        same = ap (λ n. (p.shape.0, n)) (one ∙ sym single)

    -- one component of several
    component_serves : (r : Reached) (ids : Ids) (state : State) (one : Pointer) (k : ℕ) → 2 ≤ p.shape.1 → k < p.shape.1 → length p.positions ≡ 1 → goes_to by p.positions ≡ k ∷ [] → LeadsTo m input state to (k ∷ []) one → IsAt class one None r ids → Serves m input whole class p by to r ids
    component_serves r ids state one k many less single goes leads at = record {
      reads = λ later before v keeps holds is.
          let counted : length (components_in v) ≡ p.shape.1 = ap length (words_in v is) ∙ is.count ∙ stored_count class p.shape in
          let there = holds.each k (omega (arith, many, counted)) (omega (arith, less, counted)) in
          subst (λ r. Computes m input whole (picks_of (converted_value p.shape.0 v) by p.positions, later.choices) later before (read (p.shape.0, length p.positions) r)) (sym at.is)
          (subst (λ n. Computes m input whole (picks_of (converted_value p.shape.0 v) by p.positions, later.choices) later before (read (p.shape.0, n) (record { base = base.Variable at.id class; path = []; picked = None }))) (sym single)
          (subst (λ u. Computes m input whole (u, later.choices) later before (read (p.shape.0, 1) (record { base = base.Variable at.id class; path = []; picked = None })))
          (word_converted p.shape.0 (slice_index (components_in v) k) ∙ ap Word (sym (component_converted p.shape.0 v k)) ∙ one_picks (converted_value p.shape.0 v) by p.positions k goes single)
          (whole_read class (p.shape.0, 1) at.id later before one (Word (slice_index (components_in v) k)) (keeps.same at.id _ at.points)
          (subst (λ p. HoldsValue m input later p (Word (slice_index (components_in v) k))) (same_part later there.0 there.1) there.2)
          (subst (λ s. IsOf s (Word (slice_index (components_in v) k))) (sym (stored_one class p.shape)) (one_is (stored_shape class p.shape) v k is (omega (arith, less, stored_count class p.shape)))))));
      stores = λ later before number path old v w value keeps plain is_to there value_there is is_new new.
          let alone : IsOf (p.shape.0, 1) w = subst (λ n. IsOf (p.shape.0, n) w) single is_new in
          subst (λ r. Acts m input whole (λ given now. Unit {0}) (record { choices = later.choices; variables = set later.variables number (with_value_at old path (with_components v (goes_to by p.positions) w)); buffers = later.buffers }) later before (stored (p.shape.0, length p.positions) r value)) (sym at.is)
          (subst (λ n. Acts m input whole (λ given now. Unit {0}) (record { choices = later.choices; variables = set later.variables number (with_value_at old path (with_components v (goes_to by p.positions) w)); buffers = later.buffers }) later before
          (stored (p.shape.0, n) (record { base = base.Variable at.id class; path = []; picked = None }) value)) (sym single)
          (subst (λ x. Acts m input whole (λ given now. Unit {0}) (record { choices = later.choices; variables = set later.variables number x; buffers = later.buffers }) later before (stored (p.shape.0, 1) (record { base = base.Variable at.id class; path = []; picked = None }) value))
          (ap (with_value_at old (path ++ k ∷ [])) (lies_same class (p.shape.0, 1) w plain alone) ∙ put_on old path k w ∙ ap (λ x. with_value_at old path (Many (set (parts_in x) k w))) value_there
          ∙ ap (with_value_at old path) (component_new p.shape v w k is alone many) ∙ ap (λ ps. with_value_at old path (with_components v ps w)) (sym goes))
          (whole_stored class (p.shape.0, 1) at.id later before number (path ++ k ∷ []) old w value (keeps.same at.id _ at.points ∙ ap (λ t. Some (Points t)) (in_variable number path is_to)) there alone new)));
    }
      where
        some_of : (a b : Pointer) → Some a ≡ Some b → a ≡ b
        some_of a b e = cc

        same_part : (later : State) (other : Pointer) → LeadsTo m input later to (k ∷ []) other → other ≡ one
        same_part later other led = some_of other one (sym (part_is m input later to other k led) ∙ part_is m input state to one k leads)

        in_variable : (number : ℕ) (path : List ℕ) → to ≡ InVariable number path → one ≡ InVariable number (path ++ k ∷ [])
        in_variable number path is_to = some_of one (InVariable number (path ++ k ∷ [])) (sym (part_is m input state to one k leads) ∙ ap (λ t. part_of m t k) is_to)

  -- ---- what is pointed to

  module _ (id class : ℕ) (parts : List Part) (p : Picked) (by : Option ℕ) (words : List ℕ) (from to : Pointer) (v : Value) (state : State) (before : Sections) (stands : state.ids id ≡ Some (Points from)) (each : NumberEach state.ids parts words) (leads : LeadsTo m input state from words to)
      (holds : HoldsComponents m input state to v) (is : IsOf (stored_shape class p.shape) v) (picks : Picks state.ids p by) (fits : AreStored by p.positions) (few : length p.positions ≤ p.shape.1) (Served : Reached → Ids → Type 0)
      (scalar : (r : Reached) (ids : Ids) → p.shape.1 ≡ 1 → length p.positions ≡ 1 → AreWithin 1 by p.positions → IsAt class to None r ids → Served r ids)
      (alone : (r : Reached) (ids : Ids) (one : Pointer) (k : ℕ) → 2 ≤ p.shape.1 → k < p.shape.1 → length p.positions ≡ 1 → goes_to by p.positions ≡ k ∷ [] → LeadsTo m input state to (k ∷ []) one → IsAt class one None r ids → Served r ids)
      (several_at : (r : Reached) (ids : Ids) → 2 ≤ p.shape.1 → IsAt class to (Some p) r ids → p.by ≡ None → by ≡ None → Served r ids) where
    component_pointed : (part : Part) (k : ℕ) → Numbers state.ids part k → 2 ≤ p.shape.1 → k < p.shape.1 → length p.positions ≡ 1 → goes_to by p.positions ≡ k ∷ [] → Does m input whole Served state.choices state before (pointed_to id class (p.shape.0, 1) (parts ++ part ∷ []) None)
    component_pointed part k number many less single goes =
        let counted : length (components_in v) ≡ p.shape.1 = ap length (words_in v is) ∙ is.count ∙ stored_count class p.shape in
        let one = holds.each k (omega (arith, many, counted)) (omega (arith, less, counted)) in
        pointed_does Served id class (p.shape.0, 1) (parts ++ part ∷ []) None (words ++ k ∷ []) from one.0 state before stands (numbers_on state.ids parts (part ∷ []) words (k ∷ []) each (number, tt)) (leads_on m input state from to one.0 words (k ∷ []) leads one.1)
        (λ r ids keeps at. alone r ids one.0 k many less single goes one.1 at)

    -- several components
    all_pointed : 2 ≤ p.shape.1 → p.by ≡ None → by ≡ None → Does m input whole Served state.choices state before (pointed_to id class p.shape parts (Some p))
    all_pointed many none nothing = pointed_does Served id class p.shape parts (Some p) words from to state before stands each leads (λ r ids keeps at. several_at r ids many at none nothing)

    vector_pointed : (positions : List ℕ) → p.positions ≡ positions → p.by ≡ None → by ≡ None → 2 ≤ p.shape.1 → AreWithin p.shape.1 None positions → Does m input whole Served state.choices state before (pointed_at id class parts p positions)
    vector_pointed [] e none nothing many within = all_pointed many none nothing
    vector_pointed (position ∷ []) e none nothing many within = component_pointed (Fixed position) position refl many within.0 (ap length e) (ap (λ b. goes_to b p.positions) nothing ∙ e)
    vector_pointed (position ∷ next ∷ more) e none nothing many within = all_pointed many none nothing

    by_pointed : (part : Option Part) (word : Option ℕ) → p.by ≡ part → by ≡ word → Chooses state.ids part word → AreWithin p.shape.1 word p.positions → AreStored word p.positions → 2 ≤ p.shape.1 → Does m input whole Served state.choices state before (pointed_by id class parts p part)
    by_pointed None None e f chooses within fits many = vector_pointed p.positions refl e f many within
    by_pointed None (Some k) e f chooses within fits many = absurd chooses
    by_pointed (Some part) None e f chooses within fits many = absurd chooses
    by_pointed (Some part) (Some k) e f chooses within fits many = component_pointed part k chooses many within.0 fits (ap (λ b. goes_to b p.positions) f)

    picked_pointed : Does m input whole Served state.choices state before (pointed_picked id class parts p)
    picked_pointed = by_count (p.shape.1 == 1) refl
      where
        by_count : (b : Bool) → (p.shape.1 == 1) ≡ b → Does m input whole Served state.choices state before (if b then pointed_to id class p.shape parts None else pointed_by id class parts p p.by)
        by_count true e =
            let one = eqb-true p.shape.1 1 e in
            let some = picks.some in
            pointed_does Served id class p.shape parts None words from to state before stands each leads
            (λ r ids keeps at. scalar r ids one (let single : length p.positions ≡ 1 = omega (arith, few, one, some) in single) (subst (λ n. AreWithin n by p.positions) one picks.within) at)
        by_count false e = by_pointed p.by by refl refl picks.by_word picks.within fits (several p.shape.1 e (some_components p.shape.1 by p.positions picks.some picks.within))

    pub pointed_gives : (shape : Shape) → Does m input whole Served state.choices state before (pointed shape (record { base = base.Variable id class; path = parts; picked = Some p }))
    unfolding pointed
    pointed_gives shape = picked_pointed

  pub pointed_serves : (id class : ℕ) (parts : List Part) (p : Picked) (by : Option ℕ) (words : List ℕ) (from to : Pointer) (v : Value) (state : State) (before : Sections) → state.ids id ≡ Some (Points from) → NumberEach state.ids parts words → LeadsTo m input state from words to → HoldsComponents m input state to v
      → IsOf (stored_shape class p.shape) v → Picks state.ids p by → AreStored by p.positions → length p.positions ≤ p.shape.1 → (shape : Shape) → Does m input whole (Serves m input whole class p by to) state.choices state before (pointed shape (record { base = base.Variable id class; path = parts; picked = Some p }))
  pointed_serves id class parts p by words from to v state before stands each leads holds is picks fits few =
      pointed_gives id class parts p by words from to v state before stands each leads holds is picks fits few (Serves m input whole class p by to) (scalar_serves class p by to)
      (λ r ids one k many less single goes led at. component_serves class p by to r ids state one k many less single goes led at)
      (λ r ids many at none nothing. several_serve class p by to r ids picks fits few at none nothing)

  -- what is not picked
  pub whole_pointed : (id class : ℕ) (shape : Shape) (parts : List Part) (words : List ℕ) (from to : Pointer) (state : State) (before : Sections) → state.ids id ≡ Some (Points from) → NumberEach state.ids parts words → LeadsTo m input state from words to
      → Does m input whole (λ r ids. IsAt class to None r ids) state.choices state before (pointed shape (record { base = base.Variable id class; path = parts; picked = None }))
  unfolding pointed
  whole_pointed id class shape parts words from to state before stands each leads = pointed_does (λ r ids. IsAt class to None r ids) id class shape parts None words from to state before stands each leads (λ r ids keeps at. at)

  -- ---- pointers that an index out of bounds keeps from leading on

  module _ (id class : ℕ) (parts : List Part) (words : List ℕ) (from : Pointer) (state : State) (before : Sections) (stands : state.ids id ≡ Some (Points from)) (each : NumberEach state.ids parts words) where
    pointed_out : (shape : Shape) (picked : Option Picked) → StraysFrom m input state from words → Strays m input whole state before (pointed_to id class shape parts picked)
    pointed_out shape picked out =
        strays_then m input whole (IsType m input whole (stored_shape class shape)) (drawing state state.choices) state before (type_of (stored_shape class shape)) behind_type
        (type_does m input whole (stored_shape class shape) state before)
        (λ type between. grows_then m input whole between (pointer id class type parts between) at_pointer (pointer_grows m input whole id class type parts state between) at_grows)
        (λ type between ids typed keeps.
        strays_before m input whole (record state { ids = ids }) between (pointer id class type parts) at_pointer
        (pointer_strays m input whole id class type parts words from (record state { ids = ids }) between (keeps.same id _ stands) (still_number state.ids ids keeps parts words each) out) at_grows)
      where
        at_pointer : ℕ → Step Reached
        at_pointer at = given (record { base = base.Variable at class; path = []; picked = picked })

        behind_type : ℕ → Step Reached
        behind_type type = pointer id class type parts >>= at_pointer

        at_grows : (at : ℕ) (last : Sections) → Grows last (at_pointer at last)
        at_grows at last = extends_same last

  module _ (id class : ℕ) (parts : List Part) (p : Picked) (words : List ℕ) (from : Pointer) (state : State) (before : Sections) (stands : state.ids id ≡ Some (Points from)) (each : NumberEach state.ids parts words) where
    longer_out : (shape : Shape) (part : Part) (k : ℕ) → Numbers state.ids part k → StraysFrom m input state from (words ++ k ∷ []) → Strays m input whole state before (pointed_to id class shape (parts ++ part ∷ []) None)
    longer_out shape part k number out = pointed_out id class (parts ++ part ∷ []) (words ++ k ∷ []) from state before stands (numbers_on state.ids parts (part ∷ []) words (k ∷ []) each (number, tt)) shape None out

    -- a component that is out of bounds
    component_out : (to : Pointer) (word : ℕ) → LeadsTo m input state from words to → StraysFrom m input state to (word ∷ []) → PicksOutside state.ids p word → Strays m input whole state before (pointed_picked id class parts p)
    component_out to word leads out picks = by_count (p.shape.1 == 1) (not_one p.shape.1 picks.several)
      where
        by_part : (part : Option Part) → Chooses state.ids part (Some word) → Strays m input whole state before (pointed_by id class parts p part)
        by_part None chooses = absurd chooses
        by_part (Some part) chooses = longer_out (p.shape.0, 1) part word chooses (stray_behind m input state from to words (word ∷ []) leads out)

        by_count : (b : Bool) → b ≡ false → Strays m input whole state before (if b then pointed_to id class p.shape parts None else pointed_by id class parts p p.by)
        by_count true e = absurd (true≢false e)
        by_count false e = by_part p.by picks.by_word

    pub component_pointed_out : (shape : Shape) (to : Pointer) (word : ℕ) → LeadsTo m input state from words to → StraysFrom m input state to (word ∷ []) → PicksOutside state.ids p word → Strays m input whole state before (pointed shape (record { base = base.Variable id class; path = parts; picked = Some p }))
    unfolding pointed
    component_pointed_out shape to word leads out picks = component_out to word leads out picks

    -- behind an index out of bounds
    path_out : (by : Option ℕ) → StraysFrom m input state from words → Chooses state.ids p.by by → Strays m input whole state before (pointed_picked id class parts p)
    path_out by out chooses = by_count (p.shape.1 == 1)
      where
        by_positions : (positions : List ℕ) → Strays m input whole state before (pointed_at id class parts p positions)
        by_positions [] = pointed_out id class parts words from state before stands each p.shape (Some p) out
        by_positions (position ∷ []) = longer_out (p.shape.0, 1) (Fixed position) position refl (stray_on m input state from words (position ∷ []) out)
        by_positions (position ∷ next ∷ positions) = pointed_out id class parts words from state before stands each p.shape (Some p) out

        by_part : (part : Option Part) (by : Option ℕ) → Chooses state.ids part by → Strays m input whole state before (pointed_by id class parts p part)
        by_part None None chooses = by_positions p.positions
        by_part None (Some k) chooses = absurd chooses
        by_part (Some part) None chooses = absurd chooses
        by_part (Some part) (Some k) chooses = longer_out (p.shape.0, 1) part k chooses (stray_on m input state from words (k ∷ []) out)

        by_count : (b : Bool) → Strays m input whole state before (if b then pointed_to id class p.shape parts None else pointed_by id class parts p p.by)
        by_count true = pointed_out id class parts words from state before stands each p.shape None out
        by_count false = by_part p.by by chooses

    pub path_pointed_out : (shape : Shape) (by : Option ℕ) → StraysFrom m input state from words → Chooses state.ids p.by by → Strays m input whole state before (pointed shape (record { base = base.Variable id class; path = parts; picked = Some p }))
    unfolding pointed
    path_pointed_out shape by out chooses = path_out by out chooses

  pub whole_pointed_out : (id class : ℕ) (shape : Shape) (parts : List Part) (words : List ℕ) (from : Pointer) (state : State) (before : Sections) → state.ids id ≡ Some (Points from) → NumberEach state.ids parts words → StraysFrom m input state from words
      → Strays m input whole state before (pointed shape (record { base = base.Variable id class; path = parts; picked = None }))
  unfolding pointed
  whole_pointed_out id class shape parts words from state before stands each out = pointed_out id class parts words from state before stands each shape None out
