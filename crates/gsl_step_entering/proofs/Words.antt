-- The words of what a function is given, and of what its variables begin as.
use Rattle.std.proofs.Common.{◌≡◌, refl, sym, ap, ◌∙◌, subst, ℕ, ◌+◌, ◌<◌, ◌≤◌, Bool, true, false, ◌&&◌, ◌||◌, not, if◌then◌else◌, is_some, List, [], ◌∷◌, ◌++◌, length, map, take, drop, Option, Some, None, inl, inr, arith}
use Rattle.std.specs.List.{AllByRecursion, cons_option, flat_map, list_all}
use Rattle.std.specs.Prelude.{◌==◌}
use Rattle.std.proofs.lemmas.Bool.{and_parts, cond-true, eqb-true, false≢true, or_right, true≢false}
use Rattle.gsl_base.specs.declared.input.Input.{Input}
use Rattle.gsl_instr.specs.declared.enumerant.storage_class.TheConstants as storage_class
use Rattle.gsl_words.specs.declared.module.Module.{Module}
use Rattle.gsl_values.specs.declared.value.Value.{Value}
use Rattle.gsl_valid.specs.CallRules.{is_own, is_parameter, is_pointer, is_some_target, points, takes}
use Rattle.gsl_valid.specs.ConstantRules.{have_each}
use Rattle.gsl_valid.specs.Ids.{defined}
use Rattle.gsl_valid.specs.Instruction.{read}
use Rattle.gsl_valid.specs.Kinds.{Calls, Fixes, Gives, Holds, Kind, Value as Fixed, Variable, constant_in, constant_is, constant_type, kind, type_in, type_of, variable_in, variable_is}
use Rattle.gsl_valid.specs.LocalityRules.{gives_value}
use Rattle.gsl_valid.specs.Placed.{Code, Placed}
use Rattle.gsl_valid.specs.Search.{whole}
use Rattle.gsl_valid.specs.Types.{Target, defined_as, has_type, initialises, is_block_class, is_type, is_variable_of, target_of}
use Rattle.gsl_machine.specs.Constants.{constant}
use Rattle.gsl_machine.specs.Functions.{begins_as, initial, variables_of}
use Rattle.gsl_machine.specs.State.{Held, InBlock, InVariable, Outcome, Points, State, Stuck, Whole, on}
use Rattle.gsl_machine.specs.Steps.{on_each}
use Rattle.gsl_region.specs.Flat.{flat, flat_all}
use Rattle.gsl_region.specs.Showing.{with_words}
use Rattle.gsl_leaves.specs.Leaves.{leaves}
use Rattle.gsl_leaves.specs.Table.{most}
use Rattle.gsl_leaves_law.proofs.Counted.{counted_in}
use Rattle.gsl_slots.specs.Holding.{IsHeld}
use Rattle.gsl_slots.proofs.Held.{front_of}
use Rattle.gsl_frames.specs.Frames.{held_words, place}
use Rattle.gsl_sound.specs.Sound.{Good}
use Rattle.gsl_sound_code.specs.Spots.{Spot}
use Rattle.gsl_sound_code.proofs.Looks.{Kept}
use Rattle.gsl_sound_code.proofs.Walks.{walk}
use Rattle.gsl_sound_ids.proofs.Globals.{sorted}
use Rattle.gsl_sound_ids.proofs.Plain.{has_type_is}
use Rattle.gsl_sound_ids.proofs.Variables.{own_id}
use Rattle.gsl_sound_types.specs.Typed.{IsAs, LeadsTo, Typed, types_in}
use Rattle.gsl_sound_types.proofs.Holding.{value_of_type}
use Rattle.gsl_sound_types.proofs.Memories.{IsLocal, initial_shaped, local_one}
use Rattle.gsl_sound_values.specs.Shaped.{is_shaped}
use Rattle.gsl_shown.specs.Shown.{held_as, two_words}
use Rattle.gsl_shown.proofs.Counted.{held_counted}
use Rattle.gsl_shown.proofs.Giving.{length_with}
use Rattle.gsl_shown_calls.specs.Calling.{StandFor}
use Rattle.gsl_operands.specs.Operands.{constants_below, if_constant, stands, stands_at}
use Rattle.gsl_step.specs.Machine.{IsShown}
use Rattle.gsl_step.specs.declared.machine.Machine.{Machine}
use Rattle.gsl_step.proofs.Operands.{Top, below_bound, fixed_stands, operand_stands, pointed_at}
use Rattle.gsl_step_memory.specs.Moved.{first_of}
use Rattle.gsl_step_memory.specs.Pointers.{IsToldAs, led_as}
use Rattle.gsl_step_memory.proofs.Led.{IsLed, leads}
use Rattle.gsl_step_values.specs.Parts.{count_in}
use Rattle.gsl_step_entering.specs.Begun.{AreTold, IsToldOf, initial_in, initial_of}
use Rattle.gsl_step_entering.specs.Passed.{IsArgument, IsArgumentAs, argument, argument_as, count_if, count_of}

constant_kind : (k : Kind) (c : ℕ × Fixed) → constant_in k ≡ Some c → k ≡ Fixes c.0 c.1
constant_kind (Fixes type value) c is = let same : (type, value) ≡ c = cc in ap (λ (d : ℕ × Fixed). Fixes d.0 d.1) same
constant_kind _ c is = absurd (cc)

near_none : (k : Kind) → gives_value k ≡ true → (constant_in k ≡ None) × (variable_in k ≡ None)
near_none (Calls type function arguments) is = (refl, refl)
near_none (Gives type) is = (refl, refl)
near_none _ is = absurd (false≢true is)

-- goes on with what ids stand for in their order
pub with_each : (P : Outcome → Type 0) → P Stuck → (state : State) (ids : List ℕ) (go : List Held → Outcome) → ((held : List Held) → StandFor state.ids ids held → P (go held)) → P (on_each state ids go)
with_each P stuck state [] go fine = fine [] tt
with_each P stuck state (id ∷ ids) go fine = by_held (state.ids id) refl (λ h is. with_each P stuck state ids (λ more. go (h ∷ more)) (λ held stand. fine (h ∷ held) (is, stand)))
  where
    by_held : (o : Option Held) → state.ids id ≡ o → ((h : Held) → state.ids id ≡ Some h → P (on_each state ids (λ more. go (h ∷ more)))) → P (on o (λ held. on_each state ids (λ more. go (held ∷ more))))
    by_held None is later = stuck
    by_held (Some h) is later = later h is

module _ (m : Module) (kept : Kept m) (input : Input) (machine : Machine) (state : State) (good : Good m input state) (typed : Typed m state) (shown : IsShown m machine state) (base : ℕ) (room : Top m kept input machine state typed shown ≤ base) where
  abbrev End : ℕ
  End = Top m kept input machine state typed shown

  -- The words of an argument are those of what it stands for.
  abbrev IsGivenAs : ℕ → Held → Type 0
  IsGivenAs id h = (argument m machine.standing machine.slots id ≡ held_as m (types_in m state) h) × IsArgument m machine.standing base id

  from_slots : (id type : ℕ) (h : Held) → type_of (defined_as m id) ≡ Some type → state.ids id ≡ Some h → variable_is (defined_as m id) ≡ None → IsHeld machine.slots End (stands m machine.standing.slots id) (held_as m (types_in m state) h) → IsGivenAs id h
  from_slots id type h known is none held =
      let size : length (held_as m (types_in m state) h) ≡ held_words m type = held_counted m kept (types_in m state) type h (typed.frame.held.each id type h is known) in
      let count : count_of m id ≡ held_words m type = ap (count_if m) known in
      let below = held.below in (
        ap (argument_as m machine.standing machine.slots id) none ∙ ap (λ n. take n (drop (stands m machine.standing.slots id) machine.slots)) (count ∙ sym size) ∙ held.is,
        subst (IsArgumentAs m machine.standing base id) (sym none) (below_bound m kept id type known, omega (arith, below, size, count, room)),
      )

  from_near : (id type : ℕ) (h : Held) → type_of (defined_as m id) ≡ Some type → state.ids id ≡ Some h → (takes (kind (defined_as m id)) || gives_value (kind (defined_as m id))) ≡ true → constant_in (kind (defined_as m id)) ≡ None → variable_in (kind (defined_as m id)) ≡ None → IsGivenAs id h
  from_near id type h known is slot none no_variable =
      let at : stands m machine.standing.slots id ≡ machine.standing.slots + place m id = ap (λ o. stands_at (if_constant o (length (constants_below m id))) (machine.standing.slots + place m id)) none in
      from_slots id type h known is no_variable
      (subst (λ n. IsHeld machine.slots End n (held_as m (types_in m state) h)) (sym at) (shown.shows.ids.held.each id h (cond-true (takes (kind (defined_as m id)) || gives_value (kind (defined_as m id))) (state.ids id) None slot ∙ is)))

  from_constant : (id type : ℕ) (value : Fixed) (h : Held) → type_of (defined_as m id) ≡ Some type → state.ids id ≡ Some h → kind (defined_as m id) ≡ Fixes type value → IsGivenAs id h
  from_constant id type value (Whole v) known is fixed = from_slots id type (Whole v) known is (ap variable_in fixed) (operand_stands m kept input machine state typed shown id type v known is)
  from_constant id type value (Points to) known is fixed =
      let held : Points to ≡ Whole (constant m id) = typed.frame.held.constants id (Points to) is (ap (λ k. is_some (constant_in k)) fixed) in absurd (cc)

  from_variable : (id type : ℕ) (v : Variable) (h : Held) → type_of (defined_as m id) ≡ Some type → state.ids id ≡ Some h → kind (defined_as m id) ≡ Holds v → v.type ≡ type → (v.class == storage_class.FUNCTION) ≡ true → IsGivenAs id h
  from_variable id type v h known is here same local = by_held h is
    where
      known_v : variable_is (defined_as m id) ≡ Some v
      known_v = ap variable_in here

      pointed : (t : Target) × (target_of (defined_as m v.type) ≡ Some t) × (t.class ≡ v.class)
      pointed = pointed_at m kept id v known_v

      of : (h : Held) → state.ids id ≡ Some h → IsAs m (types_in m state) type (Some pointed.0) h
      of h is = subst (λ x. IsAs m (types_in m state) type x h) (ap (λ t. target_of (defined_as m t)) (sym same) ∙ pointed.1) (typed.frame.held.each id type h is known)

      by_held : (h : Held) → state.ids id ≡ Some h → IsGivenAs id h
      by_held (Whole w) is = absurd (of (Whole w) is)
      by_held (Points (InBlock variable offset pointee)) is =
          absurd (true≢false (sym (of (Points (InBlock variable offset pointee)) is).0 ∙ ap is_block_class (pointed.2 ∙ eqb-true v.class storage_class.FUNCTION local)))
      by_held (Points (InVariable number path)) is =
          let lead = (of (Points (InVariable number path)) is).1 in
          let led = leads m kept input machine state good typed shown id type pointed.0 number path known lead is in
          let place_is = sym (ap (led_as m machine id) known_v) ∙ led.is in (
            ap (argument_as m machine.standing machine.slots id) known_v ∙ ap (λ n. 0 ∷ two_words n) place_is,
            subst (IsArgumentAs m machine.standing base id) (sym known_v) (subst (IsToldAs m machine id) known_v led.told),
          )

  own_variable : (code : Code) (id type : ℕ) (v : Variable) → type_of (defined_as m id) ≡ Some type → kind (defined_as m id) ≡ Holds v → v.type ≡ type → is_own m code id ≡ true → (v.class == storage_class.FUNCTION) ≡ true
  own_variable code id type v known here same own =
      let pointed = pointed_at m kept id v (ap variable_in here) in
      let pointer : is_pointer m id ≡ true = ap (λ o. is_some_target (points m o)) known ∙ ap (λ t. is_some_target (target_of (defined_as m t))) (sym same) ∙ ap is_some_target pointed.1 in
      let rest : (defined code id && (is_variable_of storage_class.FUNCTION (variable_is (defined_as m id)) || is_parameter (defined_as m id))) ≡ true =
      sym (ap (λ b. not b || defined code id && (is_variable_of storage_class.FUNCTION (variable_is (defined_as m id)) || is_parameter (defined_as m id))) pointer) ∙ own in
      let either = (and_parts (defined code id) (is_variable_of storage_class.FUNCTION (variable_is (defined_as m id)) || is_parameter (defined_as m id)) rest).1 in
      by_either (v.class == storage_class.FUNCTION) (sym (ap (λ k. is_variable_of storage_class.FUNCTION (variable_in k) || takes k) here) ∙ either)
    where
      by_either : (b : Bool) → (b || false) ≡ true → b ≡ true
      by_either true is = refl
      by_either false is = is

  argument_is : (code : Code) (id type : ℕ) (h : Held) → type_of (defined_as m id) ≡ Some type → state.ids id ≡ Some h → is_own m code id ≡ true → IsGivenAs id h
  argument_is code id type h known is own = elim (sorted (kind (defined_as m id)) type known) [
    | inl fixed ↦ from_constant id type fixed.0 h known is fixed.1
    | inr other ↦ elim other [
      | inl variable ↦ from_variable id type variable.0 h known is variable.1 variable.2 (own_variable code id type variable.0 known variable.1 variable.2 own)
      | inr near ↦ elim near [
        | inl parameter ↦ from_near id type h known is (ap (λ k. takes k || gives_value k) parameter) (ap constant_in parameter) (ap variable_in parameter)
        | inr gives ↦ (let none = near_none (kind (defined_as m id)) gives in from_near id type h known is (or_right (takes (kind (defined_as m id))) _ gives) none.0 none.1)
      ]
    ]
  ]

  pub all_arguments : (code : Code) (parameters ids : List ℕ) (held : List Held) → have_each (has_type m) parameters ids ≡ true → list_all (is_own m code) ids ≡ true → StandFor state.ids ids held
      → (flat_map (argument m machine.standing machine.slots) ids ≡ flat_map (held_as m (types_in m state)) held) × AllByRecursion (IsArgument m machine.standing base) ids
  all_arguments code [] [] [] have own stand = (refl, tt)
  all_arguments code [] [] (h ∷ held) have own stand = absurd stand
  all_arguments code [] (id ∷ ids) held have own stand = absurd (false≢true have)
  all_arguments code (type ∷ types) [] held have own stand = absurd (false≢true have)
  all_arguments code (type ∷ types) (id ∷ ids) [] have own stand = absurd stand
  all_arguments code (type ∷ types) (id ∷ ids) (h ∷ held) have own stand =
      let both = and_parts (has_type m type id) (have_each (has_type m) types ids) have in
      let owns = and_parts (is_own m code id) (list_all (is_own m code) ids) own in
      let one = argument_is code id type h (has_type_is m type id both.0) stand.0 owns.0 in
      let later = all_arguments code types ids held both.1 owns.1 stand.1 in
      (ap (λ l. l ++ flat_map (argument m machine.standing machine.slots) ids) one.0 ∙ ap (λ l. held_as m (types_in m state) h ++ l) later.0, (one.1, later.1))

  -- ---- what variables begin as

  module _ (new : List ℕ) (inside : base + length new ≤ length machine.slots) where
    abbrev Slots : List ℕ
    Slots = with_words machine.slots base new

    initial_is : (v : Variable) → IsLocal m v → (initial_of m Slots (Some v) ≡ flat (begins_as m v)) × IsToldOf m Slots (Some v)
    initial_is v local = by_initialiser v.initialiser local.begins (initial_shaped m kept v local.target.pointee local.begins)
      where
        by_constant : (id : ℕ) (o : Option (ℕ × Fixed)) → constant_is (defined_as m id) ≡ o → is_type local.target.pointee (constant_type o) ≡ true → is_shaped m local.target.pointee (constant m id) ≡ true
            → (take (count_in m (type_of (defined_as m id))) (drop (stands m 0 id) Slots) ≡ flat (constant m id)) × ((id < m.bound) × (stands m 0 id + count_in m (type_of (defined_as m id)) ≤ length Slots))
        by_constant id None e is shaped = absurd (false≢true is)
        by_constant id (Some c) e is shaped =
            let type = local.target.pointee in
            let known : type_of (defined_as m id) ≡ Some type = ap type_in (constant_kind (kind (defined_as m id)) c e) ∙ ap Some (eqb-true c.0 type is) in
            let low = below_bound m kept id type known in
            let held = fixed_stands m kept input machine state typed shown id low in
            let below = held.below in
            let here : stands m 0 id ≡ length (constants_below m id) = ap (λ o. stands_at (if_constant o (length (constants_below m id))) (0 + place m id)) e in
            let count : count_in m (type_of (defined_as m id)) ≡ length (flat (constant m id)) = ap (count_in m) known ∙ sym (counted_in m (whole m) type (constant m id) shaped) in
            let long = length_with machine.slots new base inside in (
              ap (λ n. take n (drop (stands m 0 id) Slots)) count ∙ ap (λ n. take (length (flat (constant m id))) (drop n Slots)) here
                  ∙ front_of machine.slots new (length (constants_below m id)) (length (flat (constant m id))) base (omega (arith, below, room)) (omega (arith, inside)) ∙ held.is,
              (low, omega (arith, here, count, below, room, inside, long)),
            )

        by_initialiser : (ids : List ℕ) → initialises m local.target.pointee ids ≡ true → is_shaped m local.target.pointee (initial m v ids) ≡ true
            → (take (count_in m (type_of (defined_as m (first_of ids)))) (drop (stands m 0 (first_of ids)) Slots) ≡ flat (initial m v ids)) × ((first_of ids < m.bound) × (stands m 0 (first_of ids) + count_in m (type_of (defined_as m (first_of ids))) ≤ length Slots))
        by_initialiser [] is shaped = absurd (false≢true is)
        by_initialiser (id ∷ []) is shaped = by_constant id (constant_is (defined_as m id)) refl is shaped
        by_initialiser (id ∷ other ∷ ids) is shaped = absurd (false≢true is)

    pub all_initial : (rest : List Placed) → AllByRecursion (λ p. (v : Variable) → variable_is (read p.instr) ≡ Some v → IsLocal m v) rest → (initial_in m Slots rest ≡ flat_all (map (begins_as m) (variables_of rest))) × AreTold m Slots rest
    all_initial [] all = (refl, tt)
    all_initial (p ∷ rest) all = by_variable (variable_is (read p.instr)) refl (all_initial rest all.1)
      where
        by_variable : (o : Option Variable) → variable_is (read p.instr) ≡ o → (initial_in m Slots rest ≡ flat_all (map (begins_as m) (variables_of rest))) × AreTold m Slots rest
            → (initial_of m Slots o ++ initial_in m Slots rest ≡ flat_all (map (begins_as m) (cons_option o (variables_of rest)))) × (IsToldOf m Slots o × AreTold m Slots rest)
        by_variable None e later = (later.0, (tt, later.1))
        by_variable (Some v) e later =
            let one = initial_is v (all.0 v e) in
            (ap (λ l. l ++ initial_in m Slots rest) one.0 ∙ ap (λ l. flat (begins_as m v) ++ l) later.0, (one.1, later.1))
