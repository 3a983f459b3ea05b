-- Words of operands that are put one behind the other.
use Rattle.std.proofs.Common.{◌≡◌, refl, sym, ap, ◌∙◌, subst, ℕ, zero, suc, ◌+◌, ◌<◌, ◌≤◌, Bool, true, false, ◌&&◌, ◌||◌, List, [], ◌∷◌, ◌++◌, length, map, take, drop, Some, arith, append_assoc, append-nil, length-append}
use Rattle.std.specs.Prelude.{◌==◌, min, slice_index}
use Rattle.std.specs.List.{AllByRecursion, flat_map, list_all, sum}
use Rattle.std.proofs.lemmas.Bool.{and_from, and_parts, eqb-true, false≢true}
use Rattle.std.proofs.lemmas.List.{drop-drop, drop_at, length-drop, length-take-le, take-append-drop, take_all, take_at}
use Rattle.gsl_base.specs.declared.input.Input.{Input}
use Rattle.gsl_instr.specs.declared.instruction.Instruction.TheVariants as instruction
use Rattle.gsl_words.specs.declared.module.Module.{Module}
use Rattle.gsl_values.specs.declared.value.Value.{Value}
use Rattle.gsl_tree.specs.Operations.{all_components}
use Rattle.gsl_valid.specs.Instruction.{read}
use Rattle.gsl_valid.specs.Kinds.{Shape, OfBool, OfInt, OfVector, Gives, kind, shape_of, type_of}
use Rattle.gsl_valid.specs.OperandRules.{component_in, is_built, is_of_scalar, is_vector, size_of}
use Rattle.gsl_valid.specs.Placed.{Placed}
use Rattle.gsl_valid.specs.Search.{whole}
use Rattle.gsl_valid.specs.TypeRules.{is_component, is_made}
use Rattle.gsl_valid.specs.Types.{Lanes, defined_as, is_bool_shape, is_int_shape, is_type, lanes_in, lanes_with, scalar_in}
use Rattle.gsl_machine.specs.Operations.{constructed}
use Rattle.gsl_machine.specs.State.{Outcome, State, giving_value}
use Rattle.gsl_machine.specs.Steps.{on_all}
use Rattle.gsl_region.specs.Flat.{flat, flat_all}
use Rattle.gsl_region.specs.Showing.{with_words}
use Rattle.gsl_region.proofs.Focus.{flat_many}
use Rattle.gsl_slots.proofs.Held.{front_of}
use Rattle.gsl_slots.specs.Holding.{IsHeld}
use Rattle.gsl_leaves.specs.Table.{most}
use Rattle.gsl_leaves_law.proofs.Counted.{counted_in}
use Rattle.gsl_operations_law.specs.Lanes.{is_lanes}
use Rattle.gsl_operations_law.proofs.Lanes.{all_flat, made_flat, type_lanes}
use Rattle.gsl_operands.specs.Operands.{stands}
use Rattle.gsl_sound.specs.Sound.{Good}
use Rattle.gsl_sound_code.proofs.Looks.{Kept, made_at}
use Rattle.gsl_sound_ids.proofs.Plain.{IsValue, built_values}
use Rattle.gsl_sound_types.specs.Typed.{Typed}
use Rattle.gsl_sound_values.specs.Shaped.{HaveShapes, is_shaped}
use Rattle.gsl_sound_values.proofs.Composed.{constructed_shaped}
use Rattle.gsl_sound_values.proofs.Counted.{HasLanes}
use Rattle.gsl_shown.proofs.Giving.{length_with}
use Rattle.gsl_step.specs.Machine.{IsShown, Leads, Puts}
use Rattle.gsl_step.specs.declared.machine.Machine.{Machine}
use Rattle.gsl_step.proofs.Giving.{at_top, gives_words, room_there}
use Rattle.gsl_step.proofs.Operands.{Top, below_bound, with_operand}
use Rattle.gsl_step.proofs.Passing.{number_fits}
use Rattle.gsl_step_values.specs.Parts.{HasRoomToGather, IsInFront, PutsAll, count_in, gathered, words_in}
use Rattle.gsl_step_values.specs.Values.{from, to}
use Rattle.gsl_step_values.proofs.Inside.{cut_at}
use Rattle.gsl_step_values.proofs.Two.{operands}

-- ---- lists

pub map_behind : (f : ℕ → List ℕ) (xs ys : List ℕ) → flat_map f (xs ++ ys) ≡ flat_map f xs ++ flat_map f ys
map_behind f [] ys = refl
map_behind f (x ∷ xs) ys = ap (λ l. f x ++ l) (map_behind f xs ys) ∙ sym (append_assoc (f x) (flat_map f xs) (flat_map f ys))

-- words put behind words that were put
pub put_behind : (slots w part : List ℕ) (at : ℕ) → at + (length w + length part) ≤ length slots → with_words (with_words slots at w) (at + length w) part ≡ with_words slots at (w ++ part)
put_behind slots w part at room =
    let a = take at slots in
    let long : length (take at slots) ≡ at = length-take-le at slots (omega (arith, room)) in
    let front : length (a ++ w) ≡ at + length w = (let both = length-append a w in omega (arith, both, long)) in
    let behind = drop (at + length w) slots in
    let now : with_words slots at w ≡ (a ++ w) ++ behind = sym (append_assoc a w behind) in
    let taken : take (at + length w) ((a ++ w) ++ behind) ≡ a ++ w = take_at (a ++ w) behind (at + length w) front in
    let left : drop (at + length w + length part) ((a ++ w) ++ behind) ≡ drop (at + length (w ++ part)) slots =
    sym (drop-drop (length part) (at + length w) ((a ++ w) ++ behind)) ∙ ap (drop (length part)) (drop_at (a ++ w) behind (at + length w) front) ∙ drop-drop (length part) (at + length w) slots ∙ ap (λ n. drop n slots) (let both = length-append w part in let e : at + length w + length part ≡ at + length (w ++ part) = omega (arith, both) in e) in
    ap (λ l. with_words l (at + length w) part) now ∙ ap (λ l. l ++ (part ++ drop (at + length w + length part) ((a ++ w) ++ behind))) taken ∙ ap (λ l. (a ++ w) ++ (part ++ l)) left
    ∙ append_assoc a w (part ++ drop (at + length (w ++ part)) slots) ∙ ap (λ l. a ++ l) (sym (append_assoc w part (drop (at + length (w ++ part)) slots)))

-- ---- one operand more

pub nth_each : (P : ℕ → Type 0) (xs : List ℕ) (k x : ℕ) → AllByRecursion P xs → drop k xs ≡ x ∷ drop (k + 1) xs → P x
nth_each P [] zero x all is = absurd (cc)
nth_each P [] (suc k) x all is = absurd (cc)
nth_each P (y ∷ xs) zero x all is = subst P (let same : y ≡ x = cc in same) all.0
nth_each P (y ∷ xs) (suc k) x all is = nth_each P xs k x all.1 (is ∙ ap (λ n. x ∷ drop n (y ∷ xs)) (let e : suc k + 1 ≡ suc (k + 1) = omega arith in e))

pub taken_more : (xs : List ℕ) (k x : ℕ) → drop k xs ≡ x ∷ drop (k + 1) xs → take (k + 1) xs ≡ take k xs ++ x ∷ []
taken_more [] zero x is = absurd (cc)
taken_more [] (suc k) x is = absurd (cc)
taken_more (y ∷ xs) zero x is = let same : y ≡ x = cc in ap (λ n. n ∷ []) same
taken_more (y ∷ xs) (suc k) x is =
    ap (λ n. take n (y ∷ xs)) (let e : suc k + 1 ≡ suc (k + 1) = omega arith in e) ∙ ap (λ l. y ∷ l) (taken_more xs k x (is ∙ ap (λ n. x ∷ drop n (y ∷ xs)) (let e : suc k + 1 ≡ suc (k + 1) = omega arith in e)))

-- What is put so far, and where it ends.
pub record SoFar (m : Module) (base at : ℕ) (slots ids : List ℕ) (k : ℕ) (now : List ℕ) (end : ℕ) : Type 0 where
  pub put : now ≡ with_words slots at (gathered m base slots (take k ids))
  pub ends : end ≡ at + length (gathered m base slots (take k ids))

module _ (m : Module) (base at : ℕ) (slots ids : List ℕ) (fits : HasRoomToGather m base at slots ids) where
  pub begins : (end : ℕ) → end ≡ at → SoFar m base at slots ids 0 slots end
  begins end is = record { put = sym (no_words slots at); ends = (let e : at ≡ at + 0 = omega arith in is ∙ e) }
    where
      no_words : (slots : List ℕ) (at : ℕ) → with_words slots at [] ≡ slots
      no_words slots at = ap (λ n. take at slots ++ drop n slots) (let e : at + 0 ≡ at = omega arith in e) ∙ take-append-drop at slots

  module _ (k x : ℕ) (now : List ℕ) (end : ℕ) (so_far : SoFar m base at slots ids k now end) (here : drop k ids ≡ x ∷ drop (k + 1) ids) where
    abbrev Done : List ℕ
    Done = gathered m base slots (take k ids)

    abbrev Count : ℕ
    Count = count_in m (type_of (defined_as m x))

    in_front : IsInFront m base at x
    in_front = nth_each (IsInFront m base at) ids k x fits.each here

    longer : gathered m base slots (take (k + 1) ids) ≡ Done ++ words_in m base slots x
    longer = ap (gathered m base slots) (taken_more ids k x here) ∙ map_behind (words_in m base slots) (take k ids) (x ∷ []) ∙ ap (λ l. Done ++ l) (append-nil (words_in m base slots x))

    all : gathered m base slots ids ≡ gathered m base slots (take (k + 1) ids) ++ gathered m base slots (drop (k + 1) ids)
    all = ap (gathered m base slots) (sym (take-append-drop (k + 1) ids)) ∙ map_behind (words_in m base slots) (take (k + 1) ids) (drop (k + 1) ids)

    pub counted : at + length Done + Count ≤ length slots
    counted =
        let room = fits.room in
        let total = ap length all ∙ length-append (gathered m base slots (take (k + 1) ids)) (gathered m base slots (drop (k + 1) ids)) in
        let more = ap length longer ∙ length-append Done (words_in m base slots x) in
        let size = word_size in
        omega (arith, room, total, more, size)
      where
        word_size : length (take (count_in m (type_of (defined_as m x))) (drop (stands m base x) slots)) ≡ count_in m (type_of (defined_as m x))
        word_size = let long = length-drop (stands m base x) slots in let below = in_front.1 in let room = fits.room in length-take-le (count_in m (type_of (defined_as m x))) (drop (stands m base x) slots) (omega (arith, long, below, room))

    pub step : (count from end_then : ℕ) (later : List ℕ) → count ≡ Count → from ≡ stands m base x → (from + count ≤ end → end + count ≤ length now → later ≡ with_words now end (take count (drop from now))) → end_then ≡ min (end + count) 18446744073709551615
        → SoFar m base at slots ids (k + 1) later end_then
    step count from end_then later is_count is_from puts sum =
        let room = counted in
        let ends = so_far.ends in
        let places = fits.places in
        let below = in_front.1 in
        let long : length now ≡ length slots = ap length so_far.put ∙ length_with slots Done at (omega (arith, room)) in
        let word : take Count (drop (stands m base x) now) ≡ words_in m base slots x = ap (λ l. take Count (drop (stands m base x) l)) so_far.put ∙ front_of slots Done (stands m base x) Count at below (omega (arith, room)) in
        let size : length (words_in m base slots x) ≡ count_in m (type_of (defined_as m x)) = (let all_of = length-drop (stands m base x) slots in length-take-le Count (drop (stands m base x) slots) (omega (arith, all_of, below, room))) in
        let put = puts (omega (arith, is_count, is_from, below, ends)) (omega (arith, is_count, room, ends, long)) in
        record {
          put = put ∙ ap (λ n. with_words now end (take n (drop from now))) is_count ∙ ap (λ n. with_words now end (take Count (drop n now))) is_from ∙ ap (with_words now end) word ∙ ap (λ n. with_words now n (words_in m base slots x)) ends
              ∙ ap (λ l. with_words l (at + length Done) (words_in m base slots x)) so_far.put ∙ put_behind slots Done (words_in m base slots x) at (omega (arith, room, size)) ∙ ap (with_words slots at) (sym longer);
          ends = let more = ap length longer ∙ length-append Done (words_in m base slots x) in omega (arith, sum, is_count, ends, more, size, room, places);
        }

-- ---- the instruction

scalar_lanes : (m : Module) (s : Shape) → (is_int_shape s || is_bool_shape s) ≡ true → (lanes : Lanes) × (lanes_in m s ≡ Some lanes)
scalar_lanes m OfBool is = (_, refl)
scalar_lanes m (OfInt signedness) is = (_, refl)
scalar_lanes m _ is = absurd (false≢true is)

pub vector_lanes : (count : ℕ) (s : Shape) → (is_int_shape s || is_bool_shape s) ≡ true → (lanes : Lanes) × (lanes_with count (scalar_in s) ≡ Some lanes)
vector_lanes count OfBool is = (_, refl)
vector_lanes count (OfInt signedness) is = (_, refl)
vector_lanes count _ is = absurd (false≢true is)

-- a scalar, or a vector of it, has components
part_lanes : (m : Module) (component t : ℕ) → is_component m component ≡ true → (t == component || is_type component (component_in (shape_of (defined_as m t)))) ≡ true → HasLanes m t
part_lanes m component t scalar is = by_same (t == component) (eqb-true t component) is
  where
    by_shape : (s : Shape) → is_type component (component_in s) ≡ true → (lanes : Lanes) × (lanes_in m s ≡ Some lanes)
    by_shape (OfVector c count) is =
        let same = eqb-true c component is in
        vector_lanes count (shape_of (defined_as m c)) (subst (λ n. (is_int_shape (shape_of (defined_as m n)) || is_bool_shape (shape_of (defined_as m n))) ≡ true) (sym same) scalar)
    by_shape _ is = absurd (false≢true is)

    by_same : (b : Bool) → (b ≡ true → t ≡ component) → (b || is_type component (component_in (shape_of (defined_as m t)))) ≡ true → HasLanes m t
    by_same true same is = subst (HasLanes m) (sym (same refl)) (scalar_lanes m (shape_of (defined_as m component)) scalar)
    by_same false same is = by_shape (shape_of (defined_as m t)) is

module _ (m : Module) (kept : Kept m) (input : Input) (machine next : Machine) (state : State) (good : Good m input state) (typed : Typed m state) (shown : IsShown m machine state) (p : Placed) (more : List Placed) (comes : state.rest ≡ p ∷ more) where
  abbrev Now : State
  Now = record state { rest = more }

  abbrev End : ℕ
  End = Top m kept input machine state typed shown

  -- A value is that of an operand of a type.
  record IsStanding (id : ℕ) (v : Value) : Type 0 where
    type : ℕ
    known : type_of (defined_as m id) ≡ Some type
    shaped : is_shaped m type v ≡ true
    held : IsHeld machine.slots End (from m machine id) (flat v)

  abbrev AreStanding : List ℕ → List Value → Type 0
  AreStanding [] [] = Unit {0}
  AreStanding [] (v ∷ vs) = ⊥
  AreStanding (id ∷ ids) [] = ⊥
  AreStanding (id ∷ ids) (v ∷ vs) = IsStanding id v × AreStanding ids vs

  with_values : (ids : List ℕ) (go : List Value → Outcome) → AllByRecursion (IsValue m) ids → ((vs : List Value) → AreStanding ids vs → Leads m next (go vs)) → Leads m next (on_all Now ids go)
  with_values [] go values fine = fine [] tt
  with_values (id ∷ ids) go values fine =
      with_operand m kept input machine state typed shown next id values.0.type (λ v. on_all Now ids (λ vs. go (v ∷ vs))) values.0.typed
      (λ v shaped held. with_values ids (λ vs. go (v ∷ vs)) values.1 (λ vs are. fine (v ∷ vs) (record { type = values.0.type; known = values.0.typed; shaped = shaped; held = held }, are)))

  have_shapes : (ids : List ℕ) (vs : List Value) → AreStanding ids vs → HaveShapes m ids vs
  have_shapes [] [] are = tt
  have_shapes [] (v ∷ vs) are = absurd are
  have_shapes (id ∷ ids) [] are = absurd are
  have_shapes (id ∷ ids) (v ∷ vs) are =
      ((λ type known. let both : Some are.0.type ≡ Some type = sym are.0.known ∙ known in let same : are.0.type ≡ type = cc in subst (λ t. is_shaped m t v ≡ true) same are.0.shaped), have_shapes ids vs are.1)

  words_gathered : (ids : List ℕ) (vs : List Value) → AreStanding ids vs → flat_all vs ≡ gathered m machine.standing.slots machine.slots ids
  words_gathered [] [] are = refl
  words_gathered [] (v ∷ vs) are = absurd are
  words_gathered (id ∷ ids) [] are = absurd are
  words_gathered (id ∷ ids) (v ∷ vs) are =
      let size : length (flat v) ≡ count_in m (type_of (defined_as m id)) = counted_in m (whole m) are.0.type v are.0.shaped ∙ ap (count_in m) (sym are.0.known) in
      ap (λ l. flat v ++ l) (words_gathered ids vs are.1) ∙ ap (λ l. l ++ gathered m machine.standing.slots machine.slots ids) (sym (ap (λ n. take n (drop (from m machine id) machine.slots)) (sym size) ∙ are.0.held.is))

  in_front_all : (at : ℕ) → at ≡ End → (ids : List ℕ) (vs : List Value) → AreStanding ids vs → AllByRecursion (IsInFront m machine.standing.slots at) ids
  in_front_all at top [] [] are = tt
  in_front_all at top [] (v ∷ vs) are = absurd are
  in_front_all at top (id ∷ ids) [] are = absurd are
  in_front_all at top (id ∷ ids) (v ∷ vs) are =
      let size : length (flat v) ≡ count_in m (type_of (defined_as m id)) = counted_in m (whole m) are.0.type v are.0.shaped ∙ ap (count_in m) (sym are.0.known) in
      let below = are.0.held.below in
      ((below_bound m kept id are.0.type are.0.known, omega (arith, below, size, top)), in_front_all at top ids vs are.1)

  lanes_all : (component : ℕ) → is_component m component ≡ true → (ids : List ℕ) (vs : List Value) → list_all (λ part. is_of_scalar m component (type_of (defined_as m part))) ids ≡ true → AreStanding ids vs → list_all is_lanes vs ≡ true
  lanes_all component scalar [] [] scalars are = refl
  lanes_all component scalar [] (v ∷ vs) scalars are = absurd are
  lanes_all component scalar (id ∷ ids) [] scalars are = absurd are
  lanes_all component scalar (id ∷ ids) (v ∷ vs) scalars are =
      let both = and_parts (is_of_scalar m component (type_of (defined_as m id))) (list_all (λ part. is_of_scalar m component (type_of (defined_as m part))) ids) scalars in
      let has = part_lanes m component are.0.type scalar (subst (λ o. is_of_scalar m component o ≡ true) are.0.known both.0) in
      and_from (is_lanes v) (list_all is_lanes vs) (type_lanes m kept are.0.type has.0 v has.1 are.0.shaped) (lanes_all component scalar ids vs both.1 are.1)

  flat_constructed : (s : Shape) (ids : List ℕ) (vs : List Value) → ((first : Bool) × (is_made m first s ≡ true)) → is_built m ids s ≡ true → AreStanding ids vs → flat (constructed (is_vector s) vs) ≡ flat_all vs
  flat_constructed (OfVector component count) ids vs made built are =
      let scalar = (and_parts (is_component m component) _ (and_parts (is_component m component && _) _ (and_parts (is_component m component && _ && _) made.0 made.1).0).0).0 in
      let all = lanes_all component scalar ids vs (and_parts (list_all (λ part. is_of_scalar m component (type_of (defined_as m part))) ids) (sum (map (size_of m) ids) == count) built).0 are in
      made_flat (all_components vs) ∙ all_flat vs all
  flat_constructed _ ids vs made built are = flat_many vs

  pub constructs : (type id : ℕ) (parts : List ℕ) → read p.instr ≡ Some (instruction.CompositeConstruct type id parts) → PutsAll m id parts machine next
      → Leads m next (on_all Now parts (λ vs. giving_value Now id (constructed (is_vector (shape_of (defined_as m type))) vs)))
  constructs type id parts reads puts =
      with_values parts (λ vs. giving_value Now id (constructed (is_vector (shape_of (defined_as m type))) vs)) (built_values m kept parts (shape_of (defined_as m type)) (made_at m kept type) built) given
    where
      built : is_built m parts (shape_of (defined_as m type)) ≡ true
      built = operands m kept input machine next state good typed shown p more comes (instruction.CompositeConstruct type id parts) reads

      given : (vs : List Value) → AreStanding parts vs → Leads m next (giving_value Now id (constructed (is_vector (shape_of (defined_as m type))) vs))
      given vs are =
          let v = constructed (is_vector (shape_of (defined_as m type))) vs in
          let d = instruction.CompositeConstruct type id parts in
          let shaped = constructed_shaped m kept type parts vs (have_shapes parts vs are) built in
          let words_are : flat (constructed (is_vector (shape_of (defined_as m type))) vs) ≡ gathered m machine.standing.slots machine.slots parts =
          flat_constructed (shape_of (defined_as m type)) parts vs (made_at m kept type) built are ∙ words_gathered parts vs are in
          let there = room_there m kept input machine state good typed shown p more comes d reads id type refl refl v machine.choices shaped in
          let top = at_top m kept input machine state good typed shown p more comes d reads id type refl refl v machine.choices shaped in
          let room_for : HasRoomToGather m machine.standing.slots (to m machine id) machine.slots parts = record {
            room = let size = ap length words_are in omega (arith, there, size);
            each = in_front_all (to m machine id) top parts vs are;
            places = shown.places;
          } in
          gives_words m kept input machine state good typed shown p more comes d reads id type refl refl v state.choices shaped (gathered m machine.standing.slots machine.slots parts) words_are next
          (subst (λ l. Puts machine (to m machine id) (gathered m machine.standing.slots machine.slots parts) l next) shown.shows.choices_are (puts room_for (number_fits m machine state shown p more comes (Gives type) (ap kind reads) refl)))

-- one operand more, as the code puts it
pub gather_more : (m : Module) (base at : ℕ) (slots ids : List ℕ) (fits : HasRoomToGather m base at slots ids) (k : ℕ) (now : List ℕ) (end : ℕ) → SoFar m base at slots ids k now end → k < length ids → (count from end_then : ℕ) (later : List ℕ)
    → (count_in m (type_of (defined_as m (slice_index ids k))) ≤ most → count ≡ count_in m (type_of (defined_as m (slice_index ids k)))) → (slice_index ids k < m.bound → stands m base (slice_index ids k) ≤ most → from ≡ stands m base (slice_index ids k))
    → (from + count ≤ end → end + count ≤ length now → later ≡ with_words now end (take count (drop from now))) → end_then ≡ min (end + count) 18446744073709551615 → SoFar m base at slots ids (k + 1) later end_then
gather_more m base at slots ids fits k now end so_far low count from end_then later counts stands_at puts sum =
    let here = cut_at ids k low in
    let room = counted m base at slots ids fits k (slice_index ids k) now end so_far here in
    let front = in_front m base at slots ids fits k (slice_index ids k) now end so_far here in
    let places = fits.places in
    let below = front.1 in
    step m base at slots ids fits k (slice_index ids k) now end so_far here count from end_then later (counts (omega (arith, room, places))) (stands_at front.0 (omega (arith, room, below, places))) puts sum

-- all of them are put
pub gathered_all : (m : Module) (base at : ℕ) (slots ids : List ℕ) (k : ℕ) (now : List ℕ) (end : ℕ) → SoFar m base at slots ids k now end → length ids ≤ k → now ≡ with_words slots at (gathered m base slots ids)
gathered_all m base at slots ids k now end so_far over = so_far.put ∙ ap (λ l. with_words slots at (gathered m base slots l)) (take_all k ids over)
