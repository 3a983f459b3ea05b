-- What is stored in variables.
use Rattle.std.proofs.Common.{◌≡◌, refl, sym, ap, ◌∙◌, subst, ℕ, ◌+◌, ◌<◌, ◌≤◌, ◌^◌, Bool, false, true, ◌&&◌, List, [], ◌∷◌, length, map, set, take, drop, Option, Some, None, arith}
use Rattle.std.specs.List.{AllByRecursion}
use Rattle.std.specs.Prelude.{◌==◌, slice_get}
use Rattle.std.proofs.lemmas.Bool.{and_parts, eqb-true, false≢true}
use Rattle.gsl_base.specs.declared.input.Input.{Input}
use Rattle.gsl_instr.specs.declared.enumerant.storage_class.TheConstants as storage_class
use Rattle.gsl_instr.specs.declared.instruction.Instruction.{Instruction}
use Rattle.gsl_instr.specs.declared.instruction.Instruction.TheVariants as instruction
use Rattle.gsl_words.specs.declared.module.Module.{Module}
use Rattle.gsl_values.specs.declared.value.Value.{Value}
use Rattle.gsl_tree.specs.Operations.{with_value_at}
use Rattle.gsl_valid.specs.CallRules.{is_last, target}
use Rattle.gsl_valid.specs.Ids.{result}
use Rattle.gsl_valid.specs.Instruction.{read}
use Rattle.gsl_valid.specs.Kinds.{Does, Fixes, Holds, Kind, Value as Fixed, Variable, constant_in, constant_is, constant_type, kind, type_in, type_of, variable_is}
use Rattle.gsl_valid.specs.MemoryRules.{is_moved, may_store}
use Rattle.gsl_valid.specs.Placed.{Placed}
use Rattle.gsl_valid.specs.Search.{whole}
use Rattle.gsl_valid.specs.Types.{defined_as, has_type, initialises, is_block_class, is_type}
use Rattle.gsl_machine.specs.Constants.{constant}
use Rattle.gsl_machine.specs.Functions.{begins_as, initial}
use Rattle.gsl_machine.specs.Memory.{storing, with_variable}
use Rattle.gsl_machine.specs.State.{Going, InVariable, Outcome, State, on, on_pointer, on_whole}
use Rattle.gsl_region.specs.Flat.{flat}
use Rattle.gsl_region.specs.Showing.{with_words}
use Rattle.gsl_leaves.specs.Leaves.{leaves}
use Rattle.gsl_leaves.specs.Table.{most}
use Rattle.gsl_leaves_law.proofs.Counted.{counted_in}
use Rattle.gsl_memory_law.specs.Typed.{place_by}
use Rattle.gsl_slots.specs.Holding.{IsHeld}
use Rattle.gsl_frames.specs.Frames.{place}
use Rattle.gsl_sound.specs.Sound.{Good}
use Rattle.gsl_sound.proofs.Memories.{pointer_of}
use Rattle.gsl_sound_code.proofs.Looks.{Kept}
use Rattle.gsl_sound_ids.proofs.Plain.{IsPointer, has_type_is}
use Rattle.gsl_sound_types.specs.Typed.{LeadsTo, Typed, types_in}
use Rattle.gsl_sound_types.proofs.Memories.{initial_shaped, local_one}
use Rattle.gsl_sound_values.specs.Shaped.{is_shaped}
use Rattle.gsl_shown.specs.Shown.{Shows}
use Rattle.gsl_shown.proofs.Giving.{length_with}
use Rattle.gsl_shown_memory.specs.Passing.{passes}
use Rattle.gsl_shown_memory.proofs.Passed.{stored_shown}
use Rattle.gsl_operands.specs.Operands.{constants, constants_below, if_constant, stands, stands_at}
use Rattle.gsl_step.specs.Machine.{IsShown, Leads, stood}
use Rattle.gsl_step.specs.declared.machine.Machine.{Machine}
use Rattle.gsl_step.specs.declared.standing.Standing.{Standing}
use Rattle.gsl_step.proofs.Giving.{end_there, rules_kept}
use Rattle.gsl_step.proofs.Operands.{Top, below_bound, fixed_stands, with_operand}
use Rattle.gsl_step.proofs.Passing.{number_fits}
use Rattle.gsl_step_memory.specs.Moved.{HasRoomToStore, PutsStored, Stores, first_of}
use Rattle.gsl_step_memory.specs.Pointers.{IsTold, into_block, is_block_target, led_to}
use Rattle.gsl_step_memory.proofs.Led.{IsLed, long_enough, there, with_place}
use Rattle.gsl_step_memory.proofs.Loads.{memory_is}

constant_kind : (k : Kind) (c : ℕ × Fixed) → constant_in k ≡ Some c → k ≡ Fixes c.0 c.1
constant_kind (Fixes type value) c is = let same : (type, value) ≡ c = cc in ap (λ (d : ℕ × Fixed). Fixes d.0 d.1) same
constant_kind _ c is = absurd (cc)

module _ (m : Module) (kept : Kept m) (input : Input) (machine next : Machine) (state : State) (good : Good m input state) (typed : Typed m state) (shown : IsShown m machine state) (p : Placed) (more : List Placed) (comes : state.rest ≡ p ∷ more) where
  abbrev Now : State
  Now = record state { rest = more }

  abbrev End : ℕ
  End = Top m kept input machine state typed shown

  -- with the words of a value at the place of a part of a variable the machine shows the state in which it is stored there
  module _ (number : ℕ) (path : List ℕ) (part : ℕ) (lead : LeadsTo m (types_in m state) number path part) (old new : Value) (here : slice_get state.variables number ≡ Some old) (shaped : is_shaped m part new ≡ true) (is : passes (kind (read p.instr)) ≡ true) where
    abbrev At : ℕ
    At = place_by m (types_in m state) number path

    abbrev Then : State
    Then = record state { rest = more; variables = set state.variables number (with_value_at old path new) }

    size : length (flat new) ≡ leaves m part
    size = counted_in m (whole m) part new shaped

    pub shows_stored : Stores machine At (flat new) next → IsShown m next Then
    shows_stored puts =
        let f : Standing = record machine.standing { at = machine.standing.at + 1 } in
        let within = there m kept input machine state good typed shown number path part lead in
        let counted = size in
        let reach = shown.reach in
        let long = length_with machine.words (flat new) At (omega (arith, within, counted)) in
        let stored = stored_shown m (stood machine.standing) (map stood machine.callers) machine.slots machine.words machine.buffers machine.choices state shown.shows p more comes is kept typed number path part old new lead here shaped in
        record {
          shows = subst (λ s. Shows m s (map stood next.callers) next.slots next.words next.buffers next.choices Then) (ap stood (sym puts.standing))
              (subst (λ l. Shows m (stood f) (map stood l) next.slots next.words next.buffers next.choices Then) (sym puts.callers)
              (subst (λ l. Shows m (stood f) (map stood machine.callers) l next.words next.buffers next.choices Then) (sym puts.slots)
              (subst (λ l. Shows m (stood f) (map stood machine.callers) machine.slots l next.buffers next.choices Then) (sym puts.variables)
              (subst (λ l. Shows m (stood f) (map stood machine.callers) machine.slots (with_words machine.words At (flat new)) l next.choices Then) (sym puts.buffers)
              (subst (λ l. Shows m (stood f) (map stood machine.callers) machine.slots (with_words machine.words At (flat new)) machine.buffers l Then) (sym puts.left) stored)))));
          constants_are = ap (take (length (constants m))) puts.slots ∙ shown.constants_are;
          behind = (subst (λ (f : Standing). length (constants m) ≤ f.slots) (sym puts.standing) shown.behind.0, subst (AllByRecursion (λ (f : Standing). length (constants m) ≤ f.slots)) (sym puts.callers) shown.behind.1);
          places = subst (λ (l : List ℕ). length l ≤ most) (sym puts.slots) shown.places;
          reach = let same = ap length puts.variables in omega (arith, same, long, reach);
          numbers = shown.numbers;
        }

  -- the words of a value that stands among the slots are put to the place of a part of a variable
  puts_words : (k : Kind) → kind (read p.instr) ≡ k → is_last k ≡ false → passes k ≡ true → (number : ℕ) (path : List ℕ) (part : ℕ) → LeadsTo m (types_in m state) number path part → (value at : ℕ) (v : Value) → type_of (defined_as m value) ≡ Some part → is_shaped m part v ≡ true
      → IsHeld machine.slots End (stands m machine.standing.slots value) (flat v) → at ≡ place_by m (types_in m state) number path → PutsStored m value at machine next → Leads m next (storing m input Now (InVariable number path) v Going)
  puts_words k kind_is goes_on is number path part lead value at v known shaped held at_is puts = by_old (slice_get state.variables number) refl
    where
      by_old : (o : Option Value) → slice_get state.variables number ≡ o → Leads m next (on o (λ old. Going (with_variable Now number (with_value_at old path v))))
      by_old None here = tt
      by_old (Some old) here =
          let size : length (flat v) ≡ leaves m part = counted_in m (whole m) part v shaped in
          let within = there m kept input machine state good typed shown number path part lead in
          let below = held.below in
          let top = end_there m kept input machine state good typed shown in
          let room_for : HasRoomToStore m machine value at (leaves m part) = record {
            low = below_bound m kept value part known;
            within = omega (arith, below, top, size);
            room = omega (arith, within, at_is);
            places = shown.places;
            number = number_fits m machine state shown p more comes k kind_is goes_on;
          } in
          let words_are : take (leaves m part) (drop (stands m machine.standing.slots value) machine.slots) ≡ flat v = ap (λ n. take n (drop (stands m machine.standing.slots value) machine.slots)) (sym size) ∙ held.is in
          shows_stored number path part lead old v here shaped (ap passes kind_is ∙ is)
          (subst (λ n. Stores machine n (flat v) next) at_is (subst (λ w. Stores machine at w next) words_are (puts part known room_for)))

  class_plain : (class : ℕ) → (class == storage_class.FUNCTION) ≡ true → is_block_class class ≡ false
  class_plain class is = ap is_block_class (eqb-true class storage_class.FUNCTION is)

  pub stores : (pointer value at : ℕ) → read p.instr ≡ Some (instruction.Store pointer value) → into_block m pointer ≡ false → (IsTold m machine pointer → at ≡ led_to m machine pointer) → PutsStored m value at machine next
      → Leads m next (on_pointer (state.ids pointer) (λ to. on_whole (state.ids value) (λ v. storing m input Now to v Going)))
  stores pointer value at reads plain is_at puts =
      with_place m kept input machine state good typed shown (Leads m next) tt pointer to.0.type to.0.target (λ to. on_whole (state.ids value) (λ v. storing m input Now to v Going)) to.0.typed to.0.points (sym (ap is_block_target to.1) ∙ plain)
      (λ number path lead led. with_operand m kept input machine state typed shown next value to.0.target.pointee (λ v. storing m input Now (InVariable number path) v Going) known
      (λ v shaped held. puts_words Does (ap kind reads) refl refl number path to.0.target.pointee lead value at v known shaped held (is_at led.told ∙ led.is) puts))
    where
      d : Instruction
      d = instruction.Store pointer value

      to : (at : IsPointer m pointer) × (target m pointer ≡ Some at.target) × (may_store m pointer value (Some at.target) ≡ true)
      to = pointer_of m (may_store m pointer value) pointer refl (memory_is m kept input machine next state good typed shown p more comes d reads)

      known : type_of (defined_as m value) ≡ Some to.0.target.pointee
      known = has_type_is m to.0.target.pointee value (and_parts (has_type m to.0.target.pointee value) (is_moved m to.0.target) (and_parts (has_type m to.0.target.pointee value && is_moved m to.0.target) _ to.2).0).0

  -- ---- variables

  -- the words of a constant stand where those of an operand do
  constant_stands : (id : ℕ) (c : ℕ × Fixed) → constant_is (defined_as m id) ≡ Some c → id < m.bound → IsHeld machine.slots End (stands m machine.standing.slots id) (flat (constant m id))
  constant_stands id c is low =
      subst (λ n. IsHeld machine.slots End n (flat (constant m id))) (sym (ap (λ o. stands_at (if_constant o (length (constants_below m id))) (machine.standing.slots + place m id)) is)) (fixed_stands m kept input machine state typed shown id low)

  begins : (v : Variable) (type at number : ℕ) (path : List ℕ) → LeadsTo m (types_in m state) number path type → kind (read p.instr) ≡ Holds v → initialises m type v.initialiser ≡ true → at ≡ place_by m (types_in m state) number path → PutsStored m (first_of v.initialiser) at machine next
      → Leads m next (storing m input Now (InVariable number path) (begins_as m v) Going)
  begins v type at number path lead kind_is is at_is puts = by_initialiser v.initialiser is (initial_shaped m kept v type is) puts
    where
      by_constant : (id : ℕ) (o : Option (ℕ × Fixed)) → constant_is (defined_as m id) ≡ o → is_type type (constant_type o) ≡ true → is_shaped m type (constant m id) ≡ true → PutsStored m id at machine next → Leads m next (storing m input Now (InVariable number path) (constant m id) Going)
      by_constant id None e is shaped puts = absurd (false≢true is)
      by_constant id (Some c) e is shaped puts =
          let known : type_of (defined_as m id) ≡ Some type = ap type_in (constant_kind (kind (defined_as m id)) c e) ∙ ap Some (eqb-true c.0 type is) in
          puts_words (Holds v) kind_is refl refl number path type lead id at (constant m id) known shaped (constant_stands id c e (below_bound m kept id type known)) at_is puts

      by_initialiser : (ids : List ℕ) → initialises m type ids ≡ true → is_shaped m type (initial m v ids) ≡ true → PutsStored m (first_of ids) at machine next → Leads m next (storing m input Now (InVariable number path) (initial m v ids) Going)
      by_initialiser [] is shaped puts = absurd (false≢true is)
      by_initialiser (id ∷ []) is shaped puts = by_constant id (constant_is (defined_as m id)) refl is shaped puts
      by_initialiser (id ∷ other ∷ ids) is shaped puts = absurd (false≢true is)

  pub declares : (type id class at : ℕ) (initialiser : List ℕ) → read p.instr ≡ Some (instruction.Variable type id class initialiser) → (IsTold m machine id → at ≡ led_to m machine id) → PutsStored m (first_of initialiser) at machine next
      → Leads m next (on_pointer (state.ids id) (λ to. storing m input Now to (begins_as m (record { type = type; id = id; class = class; initialiser = initialiser })) Going))
  declares type id class at initialiser reads is_at puts =
      let v : Variable = record { type = type; id = id; class = class; initialiser = initialiser } in
      let rules = rules_kept m kept input state good p more comes in
      let local = local_one m good.runs.before p.instr rules.0 v rules.1 good.runs.spot.started (ap variable_is reads) in
      let known : type_of (defined_as m id) ≡ Some type = ap type_of (rules.1.own id (ap result reads) ∙ reads) in
      with_place m kept input machine state good typed shown (Leads m next) tt id type local.target (λ to. storing m input Now to (begins_as m v) Going) known local.points (class_plain local.target.class local.class)
      (λ number path lead led. begins v local.target.pointee at number path lead (ap kind reads) local.begins (is_at led.told ∙ led.is) puts)
