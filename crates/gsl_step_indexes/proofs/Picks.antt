-- Components of vectors at indexes, in words.
use Rattle.std.proofs.Common.{◌≡◌, refl, sym, ap, ◌∙◌, subst, ℕ, zero, suc, ◌+◌, ◌<◌, ◌≤◌, Bool, true, false, ◌&&◌, ◌||◌, List, [], ◌∷◌, length, take, drop, Option, Some, None, inl, inr, arith}
use Rattle.std.specs.Prelude.{slice_get, slice_index}
use Rattle.std.proofs.lemmas.Bool.{and_parts, cases_lt, false≢true, or_left}
use Rattle.gsl_base.specs.declared.input.Input.{Input}
use Rattle.gsl_instr.specs.declared.instruction.Instruction.TheVariants as instruction
use Rattle.gsl_words.specs.declared.module.Module.{Module}
use Rattle.gsl_values.specs.declared.value.Value.{Value}
use Rattle.gsl_tree.specs.Values.{parts_in, word_in}
use Rattle.gsl_valid.specs.Instruction.{read}
use Rattle.gsl_valid.specs.Kinds.{Gives, OfVector, Shape, kind, shape_of, type_of}
use Rattle.gsl_valid.specs.OperandRules.{component_in, is_picked, is_picked_of, size_in}
use Rattle.gsl_valid.specs.Placed.{Placed}
use Rattle.gsl_valid.specs.Search.{whole}
use Rattle.gsl_valid.specs.TypeRules.{is_component, is_made}
use Rattle.gsl_valid.specs.Types.{Lanes, Scalar, defined_as, is_int_type, is_int_value, is_type, lanes_in, lanes_with, scalar_in}
use Rattle.gsl_machine.specs.State.{State, Whole, give, on_whole}
use Rattle.gsl_machine.specs.Steps.{picking}
use Rattle.gsl_region.specs.Flat.{flat}
use Rattle.gsl_leaves.specs.Leaves.{leaves, parts_as}
use Rattle.gsl_leaves_law.proofs.Counted.{counted_in}
use Rattle.gsl_leaves_law.proofs.Parts.{parts_counted, unfolded}
use Rattle.gsl_operations_law.proofs.Lanes.{pick_words}
use Rattle.gsl_positions.specs.Positions.{place_of}
use Rattle.gsl_slots.specs.Holding.{IsHeld}
use Rattle.gsl_frames.specs.Frames.{place}
use Rattle.gsl_sound.specs.Sound.{Good}
use Rattle.gsl_sound_code.proofs.Looks.{Kept, made_at}
use Rattle.gsl_sound_types.specs.Typed.{Typed}
use Rattle.gsl_sound_values.specs.Shaped.{is_shaped}
use Rattle.gsl_sound_values.proofs.Counted.{HasLanes}
use Rattle.gsl_sound_values.proofs.Parts.{component_shaped}
use Rattle.gsl_operands.specs.Operands.{stands}
use Rattle.gsl_leaves.specs.Table.{most}
use Rattle.gsl_step.specs.Machine.{IsShown, Puts}
use Rattle.gsl_step.specs.declared.machine.Machine.{Machine}
use Rattle.gsl_step.proofs.Giving.{at_top, gives_words, room_there}
use Rattle.gsl_step.proofs.Leading.{word_stands}
use Rattle.gsl_step.proofs.Operands.{Top, below_bound, with_value}
use Rattle.gsl_step.proofs.Passing.{number_fits}
use Rattle.gsl_step_memory.proofs.Led.{word_of_row}
use Rattle.gsl_step_values.proofs.Gathered.{vector_lanes}
use Rattle.gsl_step_values.proofs.Two.{lanes_are, operands, words_sized}
use Rattle.gsl_step_indexes.specs.Indexes.{HasRoomToPick, PutsPicked, parts_if, word_of}
use Rattle.gsl_step_indexes.specs.Straying.{Tells}
use Rattle.gsl_step_indexes.proofs.Telling.{place_told}

-- what a list has at a number
pub part_of_list : (vs : List Value) (k : ℕ) → k < length vs → (v : Value) × (slice_get vs k ≡ Some v)
part_of_list [] k low = absurd (omega (arith, low))
part_of_list (v ∷ vs) zero low = (v, refl)
part_of_list (v ∷ vs) (suc k) low = part_of_list vs k (omega (arith, low))

pub nothing_behind : (vs : List Value) (k : ℕ) → length vs ≤ k → slice_get vs k ≡ None
nothing_behind [] zero over = refl
nothing_behind [] (suc k) over = refl
nothing_behind (v ∷ vs) zero over = absurd (omega (arith, over))
nothing_behind (v ∷ vs) (suc k) over = nothing_behind vs k (omega (arith, over))

module _ (m : Module) (kept : Kept m) (input : Input) (machine next : Machine) (goes : Bool) (state : State) (good : Good m input state) (typed : Typed m state) (shown : IsShown m machine state) (p : Placed) (more : List Placed) (comes : state.rest ≡ p ∷ more) where
  abbrev Now : State
  Now = record state { rest = more }

  abbrev End : ℕ
  End = Top m kept input machine state typed shown

  -- a vector whose components are picked has components
  picked_lanes : (type vector : ℕ) → is_type type (component_in (shape_of (defined_as m vector))) ≡ true → HasLanes m vector
  picked_lanes type vector is = by_shape (shape_of (defined_as m vector)) (made_at m kept vector) is
    where
      by_shape : (s : Shape) → ((made : Bool) × (is_made m made s ≡ true)) → is_type type (component_in s) ≡ true → (lanes : Lanes) × (lanes_in m s ≡ Some lanes)
      by_shape (OfVector c n) made is = vector_lanes n (shape_of (defined_as m c)) (and_parts (is_component m c) _ (and_parts (is_component m c && _) _ (and_parts (is_component m c && _ && _) made.0 made.1).0).0).0
      by_shape _ made is = absurd (false≢true is)

  -- and as many words as parts
  sized : (type : ℕ) (s : Shape) → is_type type (component_in s) ≡ true → (lanes : Lanes) × (lanes_in m s ≡ Some lanes) → size_in (lanes_in m s) ≡ parts_as m s
  sized type (OfVector c n) is has = by_scalar (scalar_in (shape_of (defined_as m c))) has
    where
      by_scalar : (o : Option Scalar) → (lanes : Lanes) × (lanes_with n o ≡ Some lanes) → size_in (lanes_with n o) ≡ n
      by_scalar None has = let e : None ≡ Some has.0 = has.1 in absurd (cc)
      by_scalar (Some s) has = refl
  sized type _ is has = absurd (false≢true is)

  -- What a machine does that reads the word of an index, where it is below a count or not.
  pub record Picks (id vector word count : ℕ) : Type 0 where
    pub below : word < count → (goes ≡ true) × PutsPicked m id vector word machine next
    pub over : count ≤ word → (goes ≡ false) × (next ≡ machine)

  pub picks : (type id vector index word count : ℕ) → read p.instr ≡ Some (instruction.VectorExtractDynamic type id vector index)
      → (index < m.bound → stands m machine.standing.slots index ≤ most → stands m machine.standing.slots index < length machine.slots → word ≡ word_of m machine index) → count ≡ parts_if m (type_of (defined_as m vector)) → Picks id vector word count
      → Tells m next goes (on_whole (state.ids vector) (λ v. on_whole (state.ids index) (λ i. picking p.at Now id v (slice_get (parts_in v) (word_in i)))))
  picks type id vector index word count reads is_word is_count does = by_vector (type_of (defined_as m vector)) refl rule.0
    where
      rule : (is_picked m type vector ≡ true) × (is_int_value m index ≡ true)
      rule = and_parts (is_picked m type vector) (is_int_value m index) (operands m kept input machine next state good typed shown p more comes (instruction.VectorExtractDynamic type id vector index) reads)

      given : (other : ℕ) (v : Value) → type_of (defined_as m vector) ≡ Some other → is_type type (component_in (shape_of (defined_as m other))) ≡ true → is_shaped m other v ≡ true → IsHeld machine.slots End (stands m machine.standing.slots vector) (flat v)
          → word < length (parts_in v) → (c : Value) → slice_get (parts_in v) word ≡ Some c → PutsPicked m id vector word machine next → IsShown m next (record state { rest = more; ids = give state.ids id (Whole c) })
      given other v known is shaped held low c here puts =
          let d = instruction.VectorExtractDynamic type id vector index in
          let lanes = lanes_are m kept other (picked_lanes type other is) v shaped in
          let result : is_shaped m type c ≡ true = component_shaped m kept type other word v c is shaped here in
          let one : flat c ≡ slice_index (flat v) word ∷ [] = pick_words v c word lanes here in
          let size : length (flat c) ≡ 1 = ap length one in
          let there = room_there m kept input machine state good typed shown p more comes d reads id type refl refl c machine.choices result in
          let top = at_top m kept input machine state good typed shown p more comes d reads id type refl refl c machine.choices result in
          let below = held.below in
          let long : length (parts_in v) ≡ length (flat v) = parts_counted m (shape_of (defined_as m other)) v (unfolded m kept other v shaped) ∙ sym (sized type (shape_of (defined_as m other)) is (picked_lanes type other is)) ∙ sym (words_sized m kept other (picked_lanes type other is) v shaped) in
          let words_are : flat c ≡ slice_index machine.slots (stands m machine.standing.slots vector + word) ∷ [] =
          one ∙ ap (λ n. n ∷ []) (sym (word_of_row machine.slots (flat v) (stands m machine.standing.slots vector) (length (flat v)) word held.is (omega (arith, low, long)))) in
          let room_for : HasRoomToPick m machine id vector word = record {
            room = omega (arith, there, size);
            low = below_bound m kept vector other known;
            within = omega (arith, below, long, low, top, there, size);
            places = shown.places;
            number_fits = number_fits m machine state shown p more comes (Gives type) (ap kind reads) refl;
          } in
          gives_words m kept input machine state good typed shown p more comes d reads id type refl refl c state.choices result (slice_index machine.slots (stands m machine.standing.slots vector + word) ∷ []) words_are next
          (subst (λ l. Puts machine (machine.standing.slots + place m id) (slice_index machine.slots (stands m machine.standing.slots vector + word) ∷ []) l next) shown.shows.choices_are (puts room_for))

      by_count : (other : ℕ) (v : Value) → type_of (defined_as m vector) ≡ Some other → is_type type (component_in (shape_of (defined_as m other))) ≡ true → is_shaped m other v ≡ true → IsHeld machine.slots End (stands m machine.standing.slots vector) (flat v)
          → Tells m next goes (picking p.at Now id v (slice_get (parts_in v) word))
      by_count other v known is shaped held =
          let counted : count ≡ length (parts_in v) = is_count ∙ ap (parts_if m) known ∙ sym (parts_counted m (shape_of (defined_as m other)) v (unfolded m kept other v shaped)) in
          elim (cases_lt word count) [
            | inl low ↦ (
                let at = part_of_list (parts_in v) word (omega (arith, low, counted)) in
                subst (λ o. Tells m next goes (picking p.at Now id v o)) (sym at.1) ((does.below low).0, given other v known is shaped held (omega (arith, low, counted)) at.0 at.1 (does.below low).1)
                )
            | inr over ↦ (
                let high : count ≤ word = omega (arith, over) in
                subst (λ o. Tells m next goes (picking p.at Now id v o)) (sym (nothing_behind (parts_in v) word (omega (arith, high, counted)))) ((does.over high).0, place_told m machine state p more shown comes ∙ ap (λ (x : Machine). place_of m x.standing.at) (sym (does.over high).1))
                )
          ]

      by_index : (other : ℕ) (v : Value) → type_of (defined_as m vector) ≡ Some other → is_type type (component_in (shape_of (defined_as m other))) ≡ true → is_shaped m other v ≡ true → IsHeld machine.slots End (stands m machine.standing.slots vector) (flat v)
          → (o : Option ℕ) → type_of (defined_as m index) ≡ o → is_int_type m o ≡ true → Tells m next goes (on_whole (state.ids index) (λ i. picking p.at Now id v (slice_get (parts_in v) (word_in i))))
      by_index other v known is shaped held None e int = absurd (false≢true int)
      by_index other v known is shaped held (Some t) e int =
          with_value m kept input machine state typed shown (Tells m next goes) tt index t (λ i. picking p.at Now id v (slice_get (parts_in v) (word_in i))) e
          (λ i held_i shaped_i stands_i.
          let w = word_stands m kept t i machine.slots End (stands m machine.standing.slots index) (or_left _ _ int) shaped_i stands_i in
          let low = w.0 in
          let places = shown.places in
          let same : word ≡ word_in i = is_word (below_bound m kept index t e) (omega (arith, low, places)) low ∙ w.1 in
          subst (λ n. Tells m next goes (picking p.at Now id v (slice_get (parts_in v) n))) same (by_count other v known is shaped held))

      by_vector : (o : Option ℕ) → type_of (defined_as m vector) ≡ o → is_picked_of m type o ≡ true → Tells m next goes (on_whole (state.ids vector) (λ v. on_whole (state.ids index) (λ i. picking p.at Now id v (slice_get (parts_in v) (word_in i)))))
      by_vector None e is = absurd (false≢true is)
      by_vector (Some other) e is =
          with_value m kept input machine state typed shown (Tells m next goes) tt vector other (λ v. on_whole (state.ids index) (λ i. picking p.at Now id v (slice_get (parts_in v) (word_in i)))) e
          (λ v held_v shaped stands_v. by_index other v e is shaped stands_v (type_of (defined_as m index)) refl rule.1)
