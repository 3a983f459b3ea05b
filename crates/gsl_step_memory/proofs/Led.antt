-- Where pointers lead, as their words tell.
use Rattle.std.proofs.Common.{◌≡◌, refl, sym, ap, ◌∙◌, subst, ℕ, zero, suc, ◌+◌, ◌*◌, ◌/◌, ◌%◌, ◌^◌, ◌<◌, ◌≤◌, Bool, true, false, ◌||◌, if◌then◌else◌, is_some, ◌⊎◌, List, [], ◌∷◌, ◌++◌, length, take, drop, Option, Some, None, inl, inr, arith, append_assoc}
use Rattle.std.specs.Prelude.{◌==◌, min, slice_get, slice_index}
use Rattle.std.proofs.lemmas.Bool.{cond-true, false≢true, or_right, true≢false}
use Rattle.std.proofs.lemmas.List.{get_or-drop, get_or-take, length-drop, length-take}
use Rattle.gsl_base.specs.declared.input.Input.{Input}
use Rattle.gsl_instr.specs.declared.enumerant.storage_class.TheConstants as storage_class
use Rattle.gsl_words.specs.declared.module.Module.{Module}
use Rattle.gsl_valid.specs.CallRules.{takes}
use Rattle.gsl_valid.specs.Kinds.{Calls, Gives, Holds, Kind, Variable, constant_in, kind, type_of, variable_in, variable_is}
use Rattle.gsl_valid.specs.LocalityRules.{gives_value}
use Rattle.gsl_valid.specs.Types.{Target, defined_as, is_block_class, target_of}
use Rattle.gsl_machine.specs.Constants.{constant}
use Rattle.gsl_machine.specs.State.{Held, InBlock, InVariable, Outcome, Pointer, Points, State, Stuck, Whole, on_pointer}
use Rattle.gsl_region.specs.Showing.{with_words}
use Rattle.gsl_leaves.specs.Leaves.{leaves}
use Rattle.gsl_leaves.specs.Table.{most}
use Rattle.gsl_memory_law.specs.Typed.{place_by}
use Rattle.gsl_memory_law.proofs.Typed.{room}
use Rattle.gsl_slots.specs.Holding.{IsHeld}
use Rattle.gsl_frames.specs.Frames.{place}
use Rattle.gsl_sound.specs.Sound.{Good}
use Rattle.gsl_sound_code.proofs.Looks.{Kept}
use Rattle.gsl_sound_ids.proofs.Globals.{sorted}
use Rattle.gsl_sound_ids.proofs.Variables.{own_id}
use Rattle.gsl_sound_types.specs.Typed.{LeadsTo, PointsTo, Typed, types_below, types_in, types_of}
use Rattle.gsl_sound_types.proofs.Holding.{of_pointer}
use Rattle.gsl_shown.specs.Shown.{held_as, two_words}
use Rattle.gsl_shown_variables.proofs.Outer.{outer_stand}
use Rattle.gsl_shown_variables.proofs.Own.{own_stand}
use Rattle.gsl_machine.specs.Functions.{variables_of}
use Rattle.gsl_machine.specs.Interfaces.{value_variables}
use Rattle.gsl_operands.specs.Operands.{if_constant, stands, stands_at, constants_below}
use Rattle.gsl_step.specs.Machine.{IsShown, stood}
use Rattle.gsl_step.specs.declared.machine.Machine.{Machine}
use Rattle.gsl_step.proofs.Operands.{Top, below_bound}
use Rattle.gsl_step_memory.specs.Pointers.{IsTold, IsToldAs, begin_of, led_as, led_to, long_at}
use Rattle.gsl_step_memory.proofs.Seats.{module_first, variable_seat}

-- ---- words

-- so many words that are there
pub long_enough : (words row : List ℕ) (n : ℕ) → take n words ≡ row → length row ≡ n → n ≤ length words
long_enough words row n is long = let both = length-take n words in let same = ap length is in omega (arith, both, same, long)

-- the word of a number among words that stand at a place
pub word_of_row : (words row : List ℕ) (at n k : ℕ) → take n (drop at words) ≡ row → k < n → slice_index words (at + k) ≡ slice_index row k
word_of_row words row at n k is low = sym (get_or-take n (drop at words) k 0 low ∙ get_or-drop at words k 0) ∙ ap (λ l. slice_index l k) is

pub long_back : (n : ℕ) → n % 2 ^ 32 + 2 ^ 32 * (n / 2 ^ 32) ≡ n
long_back n = omega arith

-- the count that two words behind another tell
pub told_long : (words : List ℕ) (at first n : ℕ) → take 3 (drop at words) ≡ first ∷ two_words n → (at + 2 < length words) × (long_at words (at + 1) ≡ n)
told_long words at first n is =
    let low : slice_index words (at + 1) ≡ n % 2 ^ 32 = word_of_row words (first ∷ two_words n) at 3 1 is (omega arith) in
    let high : slice_index words (at + 1 + 1) ≡ n / 2 ^ 32 = ap (slice_index words) (let e : at + 1 + 1 ≡ at + 2 = omega arith in e) ∙ word_of_row words (first ∷ two_words n) at 3 2 is (omega arith) in
    let there = long_enough (drop at words) (first ∷ two_words n) 3 is refl in
    let dropped = length-drop at words in
    (omega (arith, there, dropped), ap (λ x. x + 2 ^ 32 * slice_index words (at + 1 + 1)) low ∙ ap (λ x. n % 2 ^ 32 + 2 ^ 32 * x) high ∙ long_back n)

near_fixed : (k : Kind) → gives_value k ≡ true → (constant_in k ≡ None) × (variable_in k ≡ None)
near_fixed (Calls type function arguments) is = (refl, refl)
near_fixed (Gives type) is = (refl, refl)
near_fixed _ is = absurd (false≢true is)

-- the place of a pointer into variables
abbrev at_pointer : Module → State → Pointer → ℕ
at_pointer m state (InBlock variable offset pointee) = 0
at_pointer m state (InVariable number path) = place_by m (types_in m state) number path

module _ (m : Module) (kept : Kept m) (input : Input) (machine : Machine) (state : State) (good : Good m input state) (typed : Typed m state) (shown : IsShown m machine state) where
  -- An id leads to a place that its words tell.
  pub record IsLed (id number : ℕ) (path : List ℕ) : Type 0 where
    pub told : IsTold m machine id
    pub is : led_to m machine id ≡ place_by m (types_in m state) number path

  abbrev Place : ℕ → List ℕ → ℕ
  Place number path = place_by m (types_in m state) number path

  -- all that a pointer leads to is there
  pub there : (number : ℕ) (path : List ℕ) (part : ℕ) → LeadsTo m (types_in m state) number path part → Place number path + leaves m part ≤ length machine.words
  there number path part lead = room m kept (types_in m state) path state.variables number lead.type part typed.variables lead.is lead.leads machine.words shown.shows.variables

  of_slots : (id number : ℕ) (path : List ℕ) (type : ℕ) → type_of (defined_as m id) ≡ Some type → (takes (kind (defined_as m id)) || gives_value (kind (defined_as m id))) ≡ true → constant_in (kind (defined_as m id)) ≡ None → variable_in (kind (defined_as m id)) ≡ None
      → state.ids id ≡ Some (Points (InVariable number path)) → IsLed id number path
  of_slots id number path type known slot none no_variable is =
      let held = shown.shows.ids.held.each id (Points (InVariable number path)) (cond-true (takes (kind (defined_as m id)) || gives_value (kind (defined_as m id))) (state.ids id) None slot ∙ is) in
      let at : stands m machine.standing.slots id ≡ machine.standing.slots + place m id = ap (λ o. stands_at (if_constant o (length (constants_below m id))) (machine.standing.slots + place m id)) none in
      let row : take 3 (drop (machine.standing.slots + place m id) machine.slots) ≡ 0 ∷ two_words (Place number path) = held.is in
      let words = told_long machine.slots (stands m machine.standing.slots id) 0 (Place number path) (subst (λ n. take 3 (drop n machine.slots) ≡ 0 ∷ two_words (Place number path)) (sym at) row) in
      record {
        told = subst (IsToldAs m machine id) (sym no_variable) (below_bound m kept id type known, words.0, shown.places);
        is = ap (led_as m machine id) no_variable ∙ words.1;
      }

  of_variable : (id number : ℕ) (path : List ℕ) (v : Variable) (part : ℕ) → LeadsTo m (types_in m state) number path part → kind (defined_as m id) ≡ Holds v → state.ids id ≡ Some (Points (InVariable number path)) → v.id ≡ id → IsLed id number path
  of_variable id number path v part lead here is named =
      let known : variable_is (defined_as m id) ≡ Some v = ap variable_in here in
      let lasting = typed.frame.lasts in
      let own : state.own id ≡ Some (Points (InVariable number path)) = sym (lasting.same id (ap gives_value here)) ∙ is in
      let within = there number path part lead in
      let reach = shown.reach in
      let led : led_as m machine id (Some v) ≡ Place number path → IsLed id number path = λ e. record {
        told = subst (IsToldAs m machine id) (sym known) (omega (arith, e, within, reach));
        is = ap (led_as m machine id) known ∙ e;
      } in
      elim (variable_seat m kept good.returned state.body good.runs.start good.runs.first id v known lasting.arguments (length (types_below m state.waiting)) number path (ap (λ ids. ids id) (sym lasting.own_is) ∙ own)) [
        | inl s ↦ (
            let stand = own_stand m kept input (stood machine.standing) _ machine.slots machine.words machine.buffers machine.choices state s.1.0 v good shown.shows s.1.1 in
            led (ap (λ b. (if b then machine.standing.variables else 0) + place m id) s.0 ∙ ap (λ n. machine.standing.variables + place m n) (sym named) ∙ sym stand ∙ sym (ap (at_pointer m state) s.1.2))
            )
        | inr s ↦ (
            let first = module_first m state.waiting in
            let all : types_in m state ≡ types_of m (value_variables m) ++ (first.0 ++ types_of m (variables_of state.body)) = ap (λ l. l ++ types_of m (variables_of state.body)) first.1 ∙ append_assoc (types_of m (value_variables m)) first.0 (types_of m (variables_of state.body)) in
            let stand = outer_stand m kept (first.0 ++ types_of m (variables_of state.body)) s.1.0 v s.1.1 in
            let zero_first : 0 + place m id ≡ place m v.id = (let e = ap (place m) named in omega (arith, e)) in
            led (ap (λ b. (if b then machine.standing.variables else 0) + place m id) s.0 ∙ zero_first ∙ sym stand ∙ ap (λ l. place_by m l s.1.0 []) (sym all) ∙ ap (λ n. Place n []) (let e : s.1.0 ≡ 0 + s.1.0 = omega arith in e) ∙ sym (ap (at_pointer m state) s.1.2))
            )
      ]

  pub leads : (id type : ℕ) (t : Target) (number : ℕ) (path : List ℕ) → type_of (defined_as m id) ≡ Some type → LeadsTo m (types_in m state) number path t.pointee → state.ids id ≡ Some (Points (InVariable number path)) → IsLed id number path
  leads id type t number path known lead is = elim (sorted (kind (defined_as m id)) type known) [
    | inl fixed ↦ (
        let held : Points (InVariable number path) ≡ Whole (constant m id) = typed.frame.held.constants id (Points (InVariable number path)) is (ap (λ k. is_some (constant_in k)) fixed.1) in
        absurd (cc)
        )
    | inr other ↦ elim other [
      | inl variable ↦ of_variable id number path variable.0 t.pointee lead variable.1 is (own_id m kept id variable.0 (ap variable_in variable.1))
      | inr near ↦ elim near [
        | inl parameter ↦ of_slots id number path type known (ap (λ k. takes k || gives_value k) parameter) (ap constant_in parameter) (ap variable_in parameter) is
        | inr gives ↦ (let none = near_fixed (kind (defined_as m id)) gives in of_slots id number path type known (or_right (takes (kind (defined_as m id))) _ gives) none.0 none.1 is)
      ]
    ]
  ]

  -- goes on with the part of a variable to which an id leads that is no pointer into a block
  pub with_place : (P : Outcome → Type 0) → P Stuck → (id type : ℕ) (t : Target) (go : Pointer → Outcome) → type_of (defined_as m id) ≡ Some type → target_of (defined_as m type) ≡ Some t → is_block_class t.class ≡ false
      → ((number : ℕ) (path : List ℕ) → LeadsTo m (types_in m state) number path t.pointee → IsLed id number path → P (go (InVariable number path))) → P (on_pointer (state.ids id) go)
  with_place P stuck id type t go known target plain fine = by_held (state.ids id) refl
    where
      by_held : (o : Option Held) → state.ids id ≡ o → P (on_pointer o go)
      by_held None is = stuck
      by_held (Some (Whole v)) is = stuck
      by_held (Some (Points (InBlock variable offset pointee))) is =
          let points = of_pointer m kept (types_in m state) type t (InBlock variable offset pointee) target (typed.frame.held.each id type (Points (InBlock variable offset pointee)) is known) in
          absurd (true≢false (sym points.0 ∙ plain))
      by_held (Some (Points (InVariable number path))) is =
          let points = of_pointer m kept (types_in m state) type t (InVariable number path) target (typed.frame.held.each id type (Points (InVariable number path)) is known) in
          fine number path points.1 (leads id type t number path known points.1 is)
