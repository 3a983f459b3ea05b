-- The words of an operand stand where they are said to.
use Rattle.std.proofs.Common.{◌≡◌, refl, sym, ap, ◌∙◌, subst, ℕ, zero, suc, ◌+◌, ◌<◌, Bool, true, false, ◌&&◌, ◌||◌, if◌then◌else◌, is_some, List, [], ◌∷◌, ◌++◌, length, take, drop, Option, Some, None, inl, inr, arith, append_assoc, append-nil, length-append}
use Rattle.std.specs.Prelude.{◌==◌, nat_le, nat_lt}
use Rattle.std.proofs.lemmas.Bool.{and_parts, cases_lt, cond-true, eqb-true, false≢true, ltb-true, true≢false}
use Rattle.std.proofs.lemmas.List.{take-append-drop}
use Rattle.gsl_base.specs.declared.input.Input.{Input}
use Rattle.gsl_instr.specs.declared.enumerant.storage_class.TheConstants as storage_class
use Rattle.gsl_instr.specs.declared.instruction.Instruction.{Instruction}
use Rattle.gsl_words.specs.declared.module.Instr.{Instr}
use Rattle.gsl_words.specs.declared.module.Module.{Module}
use Rattle.gsl_values.specs.declared.value.Value.{Value}
use Rattle.gsl_valid.specs.CallRules.{takes}
use Rattle.gsl_valid.specs.FunctionRules.{outside}
use Rattle.gsl_valid.specs.GlobalRules.{begins_with, holds, is_global, is_global_of}
use Rattle.gsl_valid.specs.Ids.{defines, definition, result}
use Rattle.gsl_valid.specs.IdsDefinedOnce.{is_new}
use Rattle.gsl_valid.specs.Instruction.{read}
use Rattle.gsl_valid.specs.Kinds.{Kind, Begins, Calls, Ended as LastOne, Gives, Variable, constant_in, kind, type_of, variable_in, variable_is}
use Rattle.gsl_valid.specs.LocalityRules.{gives_value}
use Rattle.gsl_valid.specs.Placed.{Code}
use Rattle.gsl_valid.specs.Types.{Target, defined_as, target_of}
use Rattle.gsl_valid.specs.Where.{bounds_one, inside_after, stands_after, where_at}
use Rattle.gsl_machine.specs.Constants.{constant}
use Rattle.gsl_machine.specs.State.{Held, Outcome, Points, State, Stuck, Whole, on_whole}
use Rattle.gsl_region.specs.Flat.{flat}
use Rattle.gsl_region.proofs.Focus.{middle}
use Rattle.gsl_kinds.specs.Runtimes.{front}
use Rattle.gsl_slots.specs.Holding.{IsHeld}
use Rattle.gsl_frames.specs.Frames.{place, taken_in}
use Rattle.gsl_sound_code.specs.Rules.{KeepAll}
use Rattle.gsl_sound_code.proofs.Looks.{Kept, found}
use Rattle.gsl_sound_code.proofs.Spots.{stays_started}
use Rattle.gsl_sound_ids.proofs.Globals.{sorted}
use Rattle.gsl_sound_ids.proofs.Variables.{local_variable}
use Rattle.gsl_sound_types.specs.Typed.{IsAs, Typed, types_in}
use Rattle.gsl_sound_types.proofs.Holding.{of_value}
use Rattle.gsl_sound_types.proofs.Memories.{local_one}
use Rattle.gsl_sound_values.specs.Shaped.{is_shaped}
use Rattle.gsl_operands.specs.Operands.{constants, constants_below, if_constant, stands, stands_at}
use Rattle.gsl_step.specs.Machine.{IsShown, Leads}
use Rattle.gsl_step.specs.declared.machine.Machine.{Machine}

-- ---- constants in a row

pub split_below : (m : Module) (bound id : ℕ) → id < bound → (rest : List ℕ) × (constants_below m bound ≡ constants_below m id ++ (flat (constant m id) ++ rest))
unfolding constants_below
split_below m zero id low = absurd (omega (arith, low))
split_below m (suc bound) id low = elim (cases_lt id bound) [
  | inl less ↦ (
      let s = split_below m bound id less in (
        s.0 ++ flat (constant m bound),
        ap (λ l. l ++ flat (constant m bound)) s.1 ∙ append_assoc (constants_below m id) (flat (constant m id) ++ s.0) (flat (constant m bound))
            ∙ ap (λ l. constants_below m id ++ l) (append_assoc (flat (constant m id)) s.0 (flat (constant m bound))),
      )
      )
  | inr other ↦ (
      let same : bound ≡ id = omega (arith, low, other) in (
        [],
        ap (λ n. constants_below m n ++ flat (constant m n)) same ∙ ap (λ l. constants_below m id ++ l) (sym (append-nil (flat (constant m id)))),
      )
      )
]

-- ---- variables

-- A function has begun where code is inside one.
abbrev Started : Module → Code → Type 0
Started m before = (where_at m before).inside ≡ true → outside (where_at m before).standing ≡ false

inside_same : (b : Bool) (k : Kind) → bounds_one k ≡ false → inside_after b k ≡ b
inside_same b (Begins type id function_type) bounds = absurd (true≢false bounds)
inside_same b LastOne bounds = absurd (true≢false bounds)
inside_same b _ bounds = refl

start_one : (m : Module) (before : Code) (i : Instr) → Started m before → Started m (i ∷ before)
start_one m before i started = by_kind (kind (read i)) refl
  where
    by_kind : (k : Kind) → kind (read i) ≡ k → inside_after (where_at m before).inside (kind (read i)) ≡ true → outside (stands_after m (where_at m before).standing (kind (read i))) ≡ false
    by_kind (Begins type id function_type) is inside = ap (λ k. outside (stands_after m (where_at m before).standing k)) is
    by_kind LastOne is inside = absurd (false≢true (sym (ap (inside_after (where_at m before).inside) is) ∙ inside))
    by_kind k is inside =
        stays_started m (where_at m before).standing (kind (read i)) (ap bounds_one is) (started (sym (inside_same (where_at m before).inside (kind (read i)) (ap bounds_one is)) ∙ inside))

-- The type of a variable is one of pointers of its class.
abbrev pub IsPointed : Module → Variable → Type 0
IsPointed m v = (t : Target) × (target_of (defined_as m v.type) ≡ Some t) × (t.class ≡ v.class)

pointed : (m : Module) (before code : Code) (id : ℕ) (v : Variable) → KeepAll m before code → Started m before → variable_is (definition code id) ≡ Some v → IsPointed m v
pointed m before [] id v keep started is = absurd (cc)
pointed m before (i ∷ code) id v keep started is = by_test (defines i id) (pointed m (i ∷ before) code id v keep.1 (start_one m before i started)) is
  where
    by_target : (o : Option Target) → is_global_of m v.class v.initialiser o ≡ true → (t : Target) × (o ≡ Some t) × (t.class ≡ v.class)
    by_target None kept = absurd (false≢true kept)
    by_target (Some t) kept =
        (t, refl, eqb-true t.class v.class (and_parts (t.class == v.class) (holds m v.class t.pointee) (and_parts (t.class == v.class && holds m v.class t.pointee) (begins_with m v.class t.pointee v.initialiser) kept).0).0)

    by_inside : (b : Bool) → (where_at m before).inside ≡ b → variable_is (read i) ≡ Some v → IsPointed m v
    by_inside true inside is =
        let class = (local_variable m before i code v keep.0 (started inside) is).0 in
        let local = local_one m before i code v keep.0 (started inside) is in
        (local.target, local.points, eqb-true local.target.class storage_class.FUNCTION local.class ∙ sym (eqb-true v.class storage_class.FUNCTION class))
    by_inside false inside is =
        by_target (target_of (defined_as m v.type)) (ap (is_global m) (sym is) ∙ sym (ap (λ b. b || is_global m (variable_is (read i))) inside) ∙ keep.0.global)

    by_test : (b : Bool) → (variable_is (definition code id) ≡ Some v → IsPointed m v) → variable_is (if b then read i else definition code id) ≡ Some v → IsPointed m v
    by_test true later is = by_inside (where_at m before).inside refl is
    by_test false later is = later is

pub pointed_at : (m : Module) (kept : Kept m) (id : ℕ) (v : Variable) → variable_is (defined_as m id) ≡ Some v → IsPointed m v
pointed_at m kept id v known = pointed m [] m.instrs id v kept.all (λ inside. absurd (false≢true inside)) known

-- ---- operands

given_fixed : (k : Kind) → gives_value k ≡ true → constant_in k ≡ None
given_fixed (Calls type function arguments) is = refl
given_fixed (Gives type) is = refl
given_fixed _ is = absurd (false≢true is)

given_slots : (k : Kind) → gives_value k ≡ true → (takes k || gives_value k) ≡ true
given_slots (Calls type function arguments) is = refl
given_slots (Gives type) is = refl
given_slots _ is = absurd (false≢true is)

pub below_bound : (m : Module) (kept : Kept m) (id type : ℕ) → type_of (defined_as m id) ≡ Some type → id < m.bound
below_bound m kept id type typed = by_definition (defined_as m id) refl typed
  where
    by_once : (before : Code) (i : Instr) (o : Option ℕ) → o ≡ Some id → is_new m.bound before o ≡ true → id < m.bound
    by_once before i None is new = absurd (cc)
    by_once before i (Some n) is new =
        let same : n ≡ id = cc in
        let parts = and_parts (nat_le 1 n && nat_lt n m.bound) _ new in
        subst (λ k. k < m.bound) same (ltb-true n m.bound (and_parts (nat_le 1 n) (nat_lt n m.bound) parts.0).1)

    by_definition : (o : Option Instruction) → defined_as m id ≡ o → type_of o ≡ Some type → id < m.bound
    by_definition None here is = absurd (cc)
    by_definition (Some d) here is =
        let f = found m [] m.instrs id d kept.all here in
        by_once f.before f.instr (result (read f.instr)) f.gives f.keeps.once

module _ (m : Module) (kept : Kept m) (input : Input) (machine : Machine) (state : State) (typed : Typed m state) (shown : IsShown m machine state) where
  -- the end of what is held in the slots of the function
  abbrev pub Top : ℕ
  Top = machine.standing.slots + (taken_in m (front m machine.standing.at)).top

  pub fixed_stands : (id : ℕ) → id < m.bound → IsHeld machine.slots Top (length (constants_below m id)) (flat (constant m id))
  fixed_stands id low =
      let s = split_below m m.bound id low in
      let words = flat (constant m id) in
      let all : machine.slots ≡ constants_below m id ++ (words ++ (s.0 ++ drop (length (constants m)) machine.slots)) =
      sym (take-append-drop (length (constants m)) machine.slots)
      ∙ ap (λ l. l ++ drop (length (constants m)) machine.slots) (shown.constants_are ∙ s.1)
      ∙ append_assoc (constants_below m id) (words ++ s.0) (drop (length (constants m)) machine.slots)
      ∙ ap (λ l. constants_below m id ++ l) (append_assoc words s.0 (drop (length (constants m)) machine.slots)) in
      let size : length (constants m) ≡ length (constants_below m id) + length (words ++ s.0) = ap length s.1 ∙ length-append (constants_below m id) (words ++ s.0) in
      let inner = length-append words s.0 in
      let behind = shown.behind.0 in
      record {
        below = omega (arith, size, inner, behind);
        is = ap (λ l. take (length words) (drop (length (constants_below m id)) l)) all
            ∙ middle (constants_below m id) words (s.0 ++ drop (length (constants m)) machine.slots) (length (constants_below m id)) (length words) refl refl;
      }

  -- what an id stands for that has a type stands where its words do
  pub operand_stands : (id type : ℕ) (v : Value) → type_of (defined_as m id) ≡ Some type → state.ids id ≡ Some (Whole v) → IsHeld machine.slots Top (stands m machine.standing.slots id) (flat v)
  operand_stands id type v known is = elim (sorted (kind (defined_as m id)) type known) [
    | inl fixed ↦ (
        let constant_is_it = ap (λ k. is_some (constant_in k)) fixed.1 in
        let held : Whole v ≡ Whole (constant m id) = typed.frame.held.constants id (Whole v) is constant_is_it in
        let same : v ≡ constant m id = cc in
        subst (λ n. IsHeld machine.slots Top n (flat v)) (sym (ap (λ k. stands_at (if_constant (constant_in k) (length (constants_below m id))) (machine.standing.slots + place m id)) fixed.1))
        (subst (λ w. IsHeld machine.slots Top (length (constants_below m id)) (flat w)) (sym same) (fixed_stands id (below_bound m kept id type known)))
        )
    | inr other ↦ elim other [
      | inl variable ↦ (
          let p = pointed_at m kept id variable.0 (ap variable_in variable.1) in
          let target : target_of (defined_as m type) ≡ Some p.0 = ap (λ t. target_of (defined_as m t)) (sym variable.2) ∙ p.1 in
          absurd (subst (λ x. IsAs m (types_in m state) type x (Whole v)) target (typed.frame.held.each id type (Whole v) is known))
          )
      | inr near ↦ (
          let slot : (takes (kind (defined_as m id)) || gives_value (kind (defined_as m id))) ≡ true = elim near [
            | inl parameter ↦ ap (λ k. takes k || gives_value k) parameter
            | inr gives ↦ given_slots (kind (defined_as m id)) gives
          ] in
          let none : constant_in (kind (defined_as m id)) ≡ None = elim near [
            | inl parameter ↦ ap constant_in parameter
            | inr gives ↦ given_fixed (kind (defined_as m id)) gives
          ] in
          subst (λ n. IsHeld machine.slots Top n (flat v)) (sym (ap (λ o. stands_at (if_constant o (length (constants_below m id))) (machine.standing.slots + place m id)) none))
          (shown.shows.ids.held.each id (Whole v) (cond-true (takes (kind (defined_as m id)) || gives_value (kind (defined_as m id))) (state.ids id) None slot ∙ is))
          )
    ]
  ]

  -- goes on with the value of an id of a type, whose words stand in the slots
  pub with_value : (P : Outcome → Type 0) → P Stuck → (id type : ℕ) (go : Value → Outcome) → type_of (defined_as m id) ≡ Some type
      → ((v : Value) → state.ids id ≡ Some (Whole v) → is_shaped m type v ≡ true → IsHeld machine.slots Top (stands m machine.standing.slots id) (flat v) → P (go v)) → P (on_whole (state.ids id) go)
  with_value P stuck id type go known fine = by_held (state.ids id) refl
    where
      by_held : (o : Option Held) → state.ids id ≡ o → P (on_whole o go)
      by_held None is = stuck
      by_held (Some (Whole v)) is = fine v is (of_value m kept (types_in m state) type v (typed.frame.held.each id type (Whole v) is known)) (operand_stands id type v known is)
      by_held (Some (Points to)) is = stuck

  pub with_operand : (next : Machine) (id type : ℕ) (go : Value → Outcome) → type_of (defined_as m id) ≡ Some type
      → ((v : Value) → is_shaped m type v ≡ true → IsHeld machine.slots Top (stands m machine.standing.slots id) (flat v) → Leads m next (go v)) → Leads m next (on_whole (state.ids id) go)
  with_operand next id type go known fine = with_value (Leads m next) tt id type go known (λ v is shaped held. fine v shaped held)
