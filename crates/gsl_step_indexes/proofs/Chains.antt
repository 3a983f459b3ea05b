-- Where chains of indexes lead, among words.
use Rattle.std.proofs.Common.{◌≡◌, refl, sym, ap, ◌∙◌, subst, ℕ, ◌+◌, ◌<◌, ◌≤◌, Bool, true, false, ◌&&◌, if◌then◌else◌, is_some, List, [], ◌∷◌, ◌++◌, length, Option, Some, None, arith}
use Rattle.std.specs.Prelude.{◌==◌, min, nat_lt, slice_get, slice_index}
use Rattle.std.proofs.lemmas.Bool.{and_parts, cond-false, cond-true, eqb-true, false≢true, or_left, true≢false}
use Rattle.gsl_base.specs.declared.input.Input.{Input}
use Rattle.gsl_instr.specs.declared.instruction.Instruction.{Instruction}
use Rattle.gsl_instr.specs.declared.instruction.Instruction.TheVariants as instruction
use Rattle.gsl_words.specs.declared.module.Module.{Module}
use Rattle.gsl_values.specs.declared.value.Value.{Value}
use Rattle.gsl_values.specs.declared.value.Value.TheVariants.{Word, outs-Word}
use Rattle.gsl_tree.specs.Operations.{value_at}
use Rattle.gsl_tree.specs.Values.{parts_in, word_in, word_layer}
use Rattle.gsl_valid.specs.CallRules.{target}
use Rattle.gsl_valid.specs.ConstantRules.{is_constant}
use Rattle.gsl_valid.specs.Instruction.{passes_if, read}
use Rattle.gsl_valid.specs.Kinds.{Fixes, Gives, Kind, Shape, OfVector, OfArray, OfRuntimeArray, OfStruct, Value as Fixed, Truth, Word as OneWord, Parts, Zeros, constant_in, constant_is, kind, shape_of, type_in, type_of, value_of, word_if, word_in as word_of_fixed}
use Rattle.gsl_valid.specs.MemoryRules.{is_base, is_part, leads_to, member_at, memory_of, part_at, part_by}
use Rattle.gsl_valid.specs.MemoryRules as rules
use Rattle.gsl_valid.specs.OperandRules.{part_of_at}
use Rattle.gsl_valid.specs.Placed.{Placed}
use Rattle.gsl_valid.specs.Types.{Target, defined_as, is_block_class, is_int_shape, is_int_type, is_int_value, target_of}
use Rattle.gsl_machine.specs.Constants.{constant}
use Rattle.gsl_machine.specs.Memory.{along as leads_along, into, into_variable}
use Rattle.gsl_machine.specs.State.{Held, InVariable, Outcome, Pointer, Points, State, Strayed, Stuck, Whole, giving, on, on_pointer, on_whole}
use Rattle.gsl_leaves.specs.Leaves.{ahead, leaves, parts_as}
use Rattle.gsl_leaves.specs.Table.{most, told}
use Rattle.gsl_leaves_law.proofs.Parts.{parts_counted, unfolded}
use Rattle.gsl_memory_law.specs.Typed.{place_by}
use Rattle.gsl_memory_law.proofs.Typed.{part_shaped, place_on, type_on}
use Rattle.gsl_positions.specs.Positions.{place_of}
use Rattle.gsl_frames.specs.Frames.{held_words, place, pointer_words, words_by}
use Rattle.gsl_sound.specs.Sound.{Good}
use Rattle.gsl_sound.proofs.Memories.{pointer_of}
use Rattle.gsl_sound_code.proofs.Looks.{Kept, constant_at}
use Rattle.gsl_sound_ids.proofs.Plain.{IsPointer}
use Rattle.gsl_sound_types.specs.Typed.{LeadsTo, PointsTo, Typed, types_in}
use Rattle.gsl_sound_types.proofs.Holding.{pointer_of_type}
use Rattle.gsl_sound_types.proofs.Parts.{constant_word, part_named}
use Rattle.gsl_sound_values.specs.Shaped.{is_shaped}
use Rattle.gsl_shown.specs.Shown.{held_as, two_words}
use Rattle.gsl_operands.specs.Operands.{stands}
use Rattle.gsl_step.specs.Machine.{IsShown, Puts}
use Rattle.gsl_step.specs.declared.machine.Machine.{Machine}
use Rattle.gsl_step.proofs.Giving.{gives_held, held_room, rules_kept}
use Rattle.gsl_step.proofs.Leading.{word_stands}
use Rattle.gsl_step.proofs.Operands.{Top, below_bound, with_value}
use Rattle.gsl_step.proofs.Passing.{number_fits}
use Rattle.gsl_step_values.proofs.Two.{told_low}
use Rattle.gsl_step_memory.specs.Pointers.{IsTold, into_block, is_block_target, led_to}
use Rattle.gsl_step_memory.proofs.Led.{IsLed, there, with_place}
use Rattle.gsl_step_indexes.specs.Indexes.{HasRoomToPoint, IsToldAlong, PutsPointer, along, further, parts_if, pointee_if, word_of}
use Rattle.gsl_step_indexes.specs.Straying.{Tells}
use Rattle.gsl_step_indexes.proofs.Telling.{place_told}

-- An index is an Int.
record IsInt (m : Module) (index : ℕ) : Type 0 where
  type : ℕ
  known : type_of (defined_as m index) ≡ Some type
  int : is_int_shape (shape_of (defined_as m type)) ≡ true

module _ (m : Module) (kept : Kept m) where
  word_int : (id word : ℕ) → value_of (defined_as m id) ≡ Some word → IsInt m id
  word_int id word is = by_kind (kind (defined_as m id)) refl is
    where
      by_fixed : (type : ℕ) (value : Fixed) → kind (defined_as m id) ≡ Fixes type value → word_of_fixed value ≡ Some word → IsInt m id
      by_fixed type Truth e is = absurd (cc)
      by_fixed type (OneWord w) e is = record { type = type; known = ap type_in e; int = ap (λ k. is_constant m (constant_in k)) (sym e) ∙ constant_at m kept id }
      by_fixed type (Parts parts) e is = absurd (cc)
      by_fixed type Zeros e is = absurd (cc)

      by_kind : (k : Kind) → kind (defined_as m id) ≡ k → word_if (constant_in k) ≡ Some word → IsInt m id
      by_kind (Fixes type value) e is = by_fixed type value e is
      by_kind _ e is = absurd (cc)

  int_value : (index : ℕ) (o : Option ℕ) → type_of (defined_as m index) ≡ o → is_int_type m o ≡ true → IsInt m index
  int_value index None e is = absurd (false≢true is)
  int_value index (Some type) e is = record { type = type; known = e; int = is }

  index_int : (index : ℕ) (s : Shape) (part : ℕ) → part_by (is_int_value m index) (value_of (defined_as m index)) s ≡ Some part → IsInt m index
  index_int index s part is = by_shape s is
    where
      by_indexed : (b : Bool) (type : ℕ) → is_int_value m index ≡ b → (if b then Some type else None) ≡ Some part → IsInt m index
      by_indexed true type e is = int_value index (type_of (defined_as m index)) refl e
      by_indexed false type e is = absurd (cc)

      by_member : (members : List ℕ) (o : Option ℕ) → value_of (defined_as m index) ≡ o → member_at members o ≡ Some part → IsInt m index
      by_member members None e is = absurd (cc)
      by_member members (Some k) e is = word_int index k e

      by_shape : (s : Shape) → part_by (is_int_value m index) (value_of (defined_as m index)) s ≡ Some part → IsInt m index
      by_shape (OfVector component count) is = by_indexed (is_int_value m index) component refl is
      by_shape (OfArray element length) is = by_indexed (is_int_value m index) element refl is
      by_shape (OfRuntimeArray element) is = by_indexed (is_int_value m index) element refl is
      by_shape (OfStruct id members) is = by_member members (value_of (defined_as m index)) refl is
      by_shape _ is = absurd (cc)

part_is : (type : ℕ) (o : Option ℕ) → is_part type o ≡ true → o ≡ Some type
part_is type None is = absurd (false≢true is)
part_is type (Some part) is = ap Some (eqb-true part type is)

some_constant : (o : Option (ℕ × Fixed)) (k : ℕ) → word_if o ≡ Some k → is_some o ≡ true
some_constant None k is = absurd (cc)
some_constant (Some c) k is = refl

module _ (m : Module) (kept : Kept m) (input : Input) (machine : Machine) (state : State) (good : Good m input state) (typed : Typed m state) (shown : IsShown m machine state) (p : Placed) (more : List Placed) (comes : state.rest ≡ p ∷ more) where
  abbrev Now : State
  Now = record state { rest = more }

  abbrev Place : ℕ → List ℕ → ℕ
  Place number path = place_by m (types_in m state) number path

  abbrev Leads : ℕ → List ℕ → ℕ → Type 0
  Leads number path part = LeadsTo m (types_in m state) number path part

  -- a chain leads where its indexes lead among the words, and strays where they do not lead on
  module _ (P : Outcome → Type 0) (stuck : P Stuck) (last : ℕ) (found : Option ℕ) (go : Pointer → Outcome) (fine : (number : ℕ) (path : List ℕ) → Leads number path last → found ≡ Some (Place number path) → P (go (InVariable number path))) (strays : found ≡ None → P (Strayed p.at)) where
    abbrev Finds : ℕ → ℕ → List ℕ → Type 0
    Finds part at indexes = IsToldAlong m machine (Some part) at indexes → found ≡ along m machine (Some part) at indexes

    one_more : (number : ℕ) (path : List ℕ) (part at index next : ℕ) (indexes : List ℕ) → Leads number path part → at ≡ Place number path → rules.part_of m part index ≡ Some next → Finds part at (index ∷ indexes)
        → ((number : ℕ) (path : List ℕ) (at : ℕ) → Leads number path next → at ≡ Place number path → Finds next at indexes → P (leads_along m input p.at Now (InVariable number path) indexes go))
        → P (leads_along m input p.at Now (InVariable number path) (index ∷ indexes) go)
    one_more number path part at index next indexes lead at_is named finds later =
        with_value m kept input machine state typed shown P stuck index int.type (λ v. into m input p.at Now (InVariable number path) (word_in v) (λ to. leads_along m input p.at Now to indexes go)) int.known
        (λ v held shaped_v stands_v.
        let w = word_stands m kept int.type v machine.slots (Top m kept input machine state typed shown) (stands m machine.standing.slots index) (or_left _ _ int.int) shaped_v stands_v in
        let low = w.0 in
        let places = shown.places in
        by_old v held (slice_get state.variables number) refl w.1 (below_bound m kept index int.type int.known) (omega (arith, low, places)) low)
      where
        int : IsInt m index
        int = index_int m kept index (shape_of (defined_as m part)) next named

        agree : (v : Value) → state.ids index ≡ Some (Whole v) → (k : ℕ) → value_of (defined_as m index) ≡ Some k → word_in v ≡ k
        agree v held k is =
            let fixed : Whole v ≡ Whole (constant m index) = typed.frame.held.constants index (Whole v) held (some_constant (constant_is (defined_as m index)) k is) in
            let same : v ≡ constant m index = cc in
            ap word_in (same ∙ constant_word m kept index k is) ∙ ap word_layer (outs-Word k)

        by_test : (v old : Value) → state.ids index ≡ Some (Whole v) → is_shaped m part (value_at old path) ≡ true → (b : Bool) → nat_lt (word_in v) (length (parts_in (value_at old path))) ≡ b → word_of m machine index ≡ word_in v
            → (index < m.bound) → (stands m machine.standing.slots index ≤ most) → (stands m machine.standing.slots index < length machine.slots)
            → P (if b then leads_along m input p.at Now (InVariable number (path ++ word_in v ∷ [])) indexes go else Strayed p.at)
        by_test v old held shaped b below word_is bound low within = by b below
          where
            counted : nat_lt (word_of m machine index) (parts_if m (Some part)) ≡ nat_lt (word_in v) (length (parts_in (value_at old path)))
            counted = ap (λ n. nat_lt n (parts_if m (Some part))) word_is ∙ ap (nat_lt (word_in v)) (sym (parts_counted m (shape_of (defined_as m part)) (value_at old path) (unfolded m kept part (value_at old path) shaped)))

            by : (b : Bool) → nat_lt (word_in v) (length (parts_in (value_at old path))) ≡ b → P (if b then leads_along m input p.at Now (InVariable number (path ++ word_in v ∷ [])) indexes go else Strayed p.at)
            by true below =
                let test : nat_lt (word_of m machine index) (parts_if m (Some part)) ≡ true = counted ∙ below in
                let part_is : part_of_at m (word_in v) (shape_of (defined_as m part)) ≡ Some next = part_named m kept part (word_in v) next (is_int_value m index) (value_of (defined_as m index)) (value_at old path) named (agree v held) shaped below in
                let further_lead : Leads number (path ++ word_in v ∷ []) next = record { type = lead.type; is = lead.is; leads = type_on m path lead.type part (word_in v) lead.leads ∙ part_is } in
                let there_is = there m kept input machine state good typed shown number (path ++ word_in v ∷ []) next further_lead in
                let reach = shown.reach in
                let on = place_on m (types_in m state) path number lead.type part (word_in v) lead.is lead.leads in
                let told_is : told (ahead m part (word_in v)) ≡ ahead m part (word_in v) = told_low (ahead m part (word_in v)) (omega (arith, there_is, reach, on)) in
                let at_next : further m (Some part) at (word_of m machine index) ≡ Place number (path ++ word_in v ∷ []) =
                ap (further m (Some part) at) word_is ∙ (let e : min (at + told (ahead m part (word_in v))) 18446744073709551615 ≡ Place number (path ++ word_in v ∷ []) = omega (arith, there_is, reach, on, told_is, at_is) in e) in
                let part_then : part_of_at m (word_of m machine index) (shape_of (defined_as m part)) ≡ Some next = ap (λ n. part_of_at m n (shape_of (defined_as m part))) word_is ∙ part_is in
                later number (path ++ word_in v ∷ []) (further m (Some part) at (word_of m machine index)) further_lead at_next
                (λ told_rest. finds (bound, low, within, λ t. subst (λ o. IsToldAlong m machine o (further m (Some part) at (word_of m machine index)) indexes) (sym part_then) told_rest)
                ∙ cond-true (nat_lt (word_of m machine index) (parts_if m (Some part))) _ None test ∙ ap (λ o. along m machine o (further m (Some part) at (word_of m machine index)) indexes) part_then)
            by false below =
                let test : nat_lt (word_of m machine index) (parts_if m (Some part)) ≡ false = counted ∙ below in
                strays (finds (bound, low, within, λ t. absurd (true≢false (sym t ∙ test))) ∙ cond-false (nat_lt (word_of m machine index) (parts_if m (Some part))) _ None test)

        by_old : (v : Value) → state.ids index ≡ Some (Whole v) → (o : Option Value) → slice_get state.variables number ≡ o → word_of m machine index ≡ word_in v → (index < m.bound) → (stands m machine.standing.slots index ≤ most) → (stands m machine.standing.slots index < length machine.slots)
            → P (on o (into_variable m input p.at number path (word_in v) (λ to. leads_along m input p.at Now to indexes go)))
        by_old v held None here word_is bound low within = stuck
        by_old v held (Some old) here word_is bound low within =
            by_test v old held (part_shaped m kept (types_in m state) path state.variables number lead.type part typed.variables lead.is lead.leads old here) (nat_lt (word_in v) (length (parts_in (value_at old path)))) refl word_is bound low within

    no_part : (indexes : List ℕ) → part_at m None indexes ≡ Some last → ⊥
    no_part [] is = cc
    no_part (index ∷ indexes) is = cc

    pub leads_on : (indexes : List ℕ) (number : ℕ) (path : List ℕ) (part at : ℕ) → Leads number path part → at ≡ Place number path → part_at m (Some part) indexes ≡ Some last → Finds part at indexes → P (leads_along m input p.at Now (InVariable number path) indexes go)
    leads_on [] number path part at lead at_is is finds =
        let same : part ≡ last = cc in
        fine number path (subst (Leads number path) same lead) (finds tt ∙ ap Some at_is)
    leads_on (index ∷ indexes) number path part at lead at_is is finds =
        by_part (rules.part_of m part index) refl (λ next number path at lead at_is is finds. leads_on indexes number path next at lead at_is is finds) is
      where
        by_part : (o : Option ℕ) → rules.part_of m part index ≡ o
            → ((next number : ℕ) (path : List ℕ) (at : ℕ) → Leads number path next → at ≡ Place number path → part_at m (Some next) indexes ≡ Some last → Finds next at indexes → P (leads_along m input p.at Now (InVariable number path) indexes go))
            → part_at m o indexes ≡ Some last → P (leads_along m input p.at Now (InVariable number path) (index ∷ indexes) go)
        by_part None e later is = absurd (no_part indexes is)
        by_part (Some next) e later is = one_more number path part at index next indexes lead at_is e finds (λ number path at lead at_is finds. later next number path at lead at_is is finds)

  -- ---- the instruction

  -- What a machine does that finds where a chain leads, or that it strays.
  pub record Chains (next : Machine) (goes : Bool) (id : ℕ) (found : Option ℕ) : Type 0 where
    pub there : (at : ℕ) → found ≡ Some at → (goes ≡ true) × PutsPointer m id at machine next
    pub nowhere : found ≡ None → (goes ≡ false) × (next ≡ machine)

  pub chains : (next : Machine) (goes : Bool) (type id base from whole : ℕ) (indexes : List ℕ) (found : Option ℕ) → read p.instr ≡ Some (instruction.AccessChain type id base indexes) → into_block m base ≡ false → (IsTold m machine base → from ≡ led_to m machine base)
      → whole ≡ pointee_if (target m base) → (IsToldAlong m machine (Some whole) from indexes → found ≡ along m machine (Some whole) from indexes) → Chains next goes id found
      → Tells m next goes (on_pointer (state.ids base) (λ from. leads_along m input p.at Now from indexes (λ to. giving Now id (Points to))))
  chains next goes type id base from whole indexes found reads plain is_from is_whole finds does = by_target (target_of (defined_as m type)) refl begin.2
    where
      d : Instruction
      d = instruction.AccessChain type id base indexes

      memory : memory_of m (instruction.AccessChain type id base indexes) ≡ true
      memory = ap (passes_if (memory_of m)) (sym reads) ∙ (rules_kept m kept input state good p more comes).1.memory

      begin : (pointer : IsPointer m base) × (target m base ≡ Some pointer.target) × (leads_to m (Some pointer.target) indexes (target_of (defined_as m type)) ≡ true)
      begin = pointer_of m (λ t. leads_to m t indexes (target_of (defined_as m type))) base refl (and_parts (is_base (kind (defined_as m base))) (leads_to m (target m base) indexes (target_of (defined_as m type))) memory).1

      points : (t : Target) → target_of (defined_as m type) ≡ Some t → t.class ≡ begin.0.target.class → (number : ℕ) (path : List ℕ) → Leads number path t.pointee → found ≡ Some (Place number path) → Tells m next goes (giving Now id (Points (InVariable number path)))
      points t target_is class_is number path lead here =
          let it = does.there (Place number path) here in
          let plain_class : is_block_class t.class ≡ false = ap is_block_class class_is ∙ sym (ap is_block_target begin.1) ∙ plain in
          let of = pointer_of_type m kept (types_in m state) type t (InVariable number path) target_is (plain_class, lead) in
          let there_is = held_room m kept input machine state good typed shown p more comes d reads id type refl refl (Points (InVariable number path)) state.choices of in
          let room_for : HasRoomToPoint m machine id = record {
            room = there_is;
            places = shown.places;
            number = number_fits m machine state shown p more comes (Gives type) (ap kind reads) refl;
          } in (
            it.0,
            gives_held m kept input machine state good typed shown p more comes d reads id type refl refl (Points (InVariable number path)) state.choices of (0 ∷ two_words (Place number path)) refl next
                (subst (λ l. Puts machine (machine.standing.slots + place m id) (0 ∷ two_words (Place number path)) l next) shown.shows.choices_are (it.1 room_for)),
          )

      by_target : (o : Option Target) → target_of (defined_as m type) ≡ o → leads_to m (Some begin.0.target) indexes o ≡ true → Tells m next goes (on_pointer (state.ids base) (λ from. leads_along m input p.at Now from indexes (λ to. giving Now id (Points to))))
      by_target None e is = absurd (false≢true is)
      by_target (Some t) e is =
          let both = and_parts (begin.0.target.class == t.class) (is_part t.pointee (part_at m (Some begin.0.target.pointee) indexes)) is in
          let same : begin.0.target.class ≡ t.class = eqb-true begin.0.target.class t.class both.0 in
          let whole_is : whole ≡ begin.0.target.pointee = is_whole ∙ ap pointee_if begin.1 in
          with_place m kept input machine state good typed shown (Tells m next goes) tt base begin.0.type begin.0.target (λ from. leads_along m input p.at Now from indexes (λ to. giving Now id (Points to))) begin.0.typed begin.0.points (sym (ap is_block_target begin.1) ∙ plain)
          (λ number path lead led. leads_on (Tells m next goes) tt t.pointee found (λ to. giving Now id (Points to)) (λ number path lead here. points t e (sym same) number path lead here)
          (λ none. ((does.nowhere none).0, place_told m machine state p more shown comes ∙ ap (λ (x : Machine). place_of m x.standing.at) (sym (does.nowhere none).1)))
          indexes number path begin.0.target.pointee from lead (is_from led.told ∙ led.is) (part_is t.pointee (part_at m (Some begin.0.target.pointee) indexes) both.1)
          (subst (λ n. IsToldAlong m machine (Some n) from indexes → found ≡ along m machine (Some n) from indexes) whole_is finds))
