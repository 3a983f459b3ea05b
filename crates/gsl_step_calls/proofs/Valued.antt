-- Functions that give a value.
use Rattle.std.proofs.Common.{◌≡◌, refl, sym, ap, ◌∙◌, subst, ℕ, ◌+◌, ◌<◌, ◌≤◌, ◌⊎◌, true, false, not, is_some, List, [], ◌∷◌, ◌++◌, length, map, take, drop, Option, Some, None, inl, inr, arith, length-append}
use Rattle.std.proofs.lemmas.Bool.{and_parts}
use Rattle.gsl_base.specs.declared.input.Input.{Input}
use Rattle.gsl_instr.specs.declared.instruction.Instruction.TheVariants as instruction
use Rattle.gsl_words.specs.declared.module.Module.{Module}
use Rattle.gsl_values.specs.declared.value.Value.{Value}
use Rattle.gsl_valid.specs.Instruction.{passes_if, read}
use Rattle.gsl_valid.specs.Kinds.{Calls, Value as Fixed, constant_is, kind, type_of}
use Rattle.gsl_valid.specs.Placed.{Placed}
use Rattle.gsl_valid.specs.ReturnRules as rules
use Rattle.gsl_valid.specs.Search.{whole}
use Rattle.gsl_valid.specs.Types.{defined_as, has_type, is_void}
use Rattle.gsl_machine.specs.Constants.{constant}
use Rattle.gsl_machine.specs.Functions.{back_in}
use Rattle.gsl_machine.specs.State.{Held, Points, State, Waiting, Whole, give, on_whole}
use Rattle.gsl_machine.specs.Steps.{returning, with_value}
use Rattle.gsl_region.specs.Flat.{flat}
use Rattle.gsl_region.specs.Showing.{with_words}
use Rattle.gsl_leaves.specs.Leaves.{leaves}
use Rattle.gsl_leaves_law.proofs.Counted.{counted_in}
use Rattle.gsl_slots.specs.Holding.{IsHeld}
use Rattle.gsl_slots.proofs.Held.{front_of}
use Rattle.gsl_frames.specs.Frames.{frame, held_words, place}
use Rattle.gsl_sound.specs.Sound.{Good, WaitEach}
use Rattle.gsl_sound_code.proofs.Looks.{Kept}
use Rattle.gsl_sound_ids.proofs.Plain.{has_type_is}
use Rattle.gsl_sound_types.specs.Typed.{Typed, types_in}
use Rattle.gsl_sound_types.proofs.Holding.{value_of_type}
use Rattle.gsl_sound_values.specs.Shaped.{is_shaped}
use Rattle.gsl_shown.specs.Shown.{IsCall, ShowsEach}
use Rattle.gsl_shown.proofs.Counted.{held_counted}
use Rattle.gsl_shown.proofs.Giving.{length_with}
use Rattle.gsl_shown_calls.proofs.Returned.{place_is as call_place, room as call_room, top_fits as call_fits_in, type_is, value_returned}
use Rattle.gsl_operands.specs.Operands.{constants, constants_below, if_constant, stands, stands_at}
use Rattle.gsl_step.specs.Machine.{IsShown, stood}
use Rattle.gsl_step.specs.declared.machine.Machine.{Machine}
use Rattle.gsl_step.specs.declared.standing.Standing.{Standing}
use Rattle.gsl_step.proofs.Giving.{end_there, rules_kept}
use Rattle.gsl_step.proofs.Operands.{Top, below_bound, split_below, with_value as with_value_of}
use Rattle.gsl_step_calls.specs.Ending.{Comes, HasRoomToReturn, Returns}
use Rattle.gsl_step_calls.specs.declared.next.Next.TheVariants.{Ends, Goes}
use Rattle.gsl_step_calls.proofs.Ended.{behind_callers, call_fits, ends_run, shown_again, shows_callers}

module _ (m : Module) (kept : Kept m) (input : Input) (machine : Machine) (state : State) (good : Good m input state) (typed : Typed m state) (shown : IsShown m machine state) (p : Placed) (more : List Placed) (comes : state.rest ≡ p ∷ more) where
  abbrev Now : State
  Now = record state { rest = more }

  abbrev End : ℕ
  End = Top m kept input machine state typed shown

  -- what stands in the slots of a function, or is a constant, is apart from what ends in front of these slots and begins behind all constants
  apart : (value at count : ℕ) (v : Value) → value < m.bound → state.ids value ≡ Some (Whole v) → length (flat v) ≡ count → length (constants m) ≤ at → at + count ≤ machine.standing.slots
      → (stands m machine.standing.slots value + count ≤ at) ⊎ (at + count ≤ stands m machine.standing.slots value)
  apart value at count v low is size above below = by_constant (constant_is (defined_as m value)) refl
    where
      by_constant : (o : Option (ℕ × Fixed)) → constant_is (defined_as m value) ≡ o → (stands m machine.standing.slots value + count ≤ at) ⊎ (at + count ≤ stands m machine.standing.slots value)
      by_constant None e =
          let here : stands m machine.standing.slots value ≡ machine.standing.slots + place m value = ap (λ o. stands_at (if_constant o (length (constants_below m value))) (machine.standing.slots + place m value)) e in
          inr (omega (arith, here, below))
      by_constant (Some c) e =
          let here : stands m machine.standing.slots value ≡ length (constants_below m value) = ap (λ o. stands_at (if_constant o (length (constants_below m value))) (machine.standing.slots + place m value)) e in
          let held : Whole v ≡ Whole (constant m value) = typed.frame.held.constants value (Whole v) is (ap is_some e) in
          let same : v ≡ constant m value = cc in
          let words : length (flat v) ≡ length (flat (constant m value)) = ap (λ w. length (flat w)) same in
          let s = split_below m m.bound value low in
          let all = ap length s.1 in
          let outer = length-append (constants_below m value) (flat (constant m value) ++ s.0) in
          let inner = length-append (flat (constant m value)) s.0 in
          inl (omega (arith, here, words, size, all, outer, inner, above))

  module _ (caller : Standing) (callers : List Standing) (waits : machine.callers ≡ caller ∷ callers) (next : Machine) where
    abbrev Left : Machine
    Left = record machine { callers = callers }

    returns_one : (value : ℕ) (v : Value) → type_of (defined_as m value) ≡ Some good.returned → state.ids value ≡ Some (Whole v) → is_shaped m good.returned v ≡ true → IsHeld machine.slots End (stands m machine.standing.slots value) (flat v) → Returns m value caller Left next
        → (w : List Waiting) → state.waiting ≡ w → Comes m next Goes (returning m Now w (with_value v))
    returns_one value v known is shaped held puts [] e = absurd (subst (ShowsEach m machine.slots machine.standing.slots (stood caller ∷ map stood callers)) e (shows_callers m machine state shown more caller callers waits).waiting)
    returns_one value v known is shaped held puts (call ∷ calls) e =
        let shows = shows_callers m machine state shown more caller callers waits in
        let each = subst (ShowsEach m machine.slots machine.standing.slots (stood caller ∷ map stood callers)) e shows.waiting in
        let called : IsCall m caller.at call.result = each.0 in
        let w = subst (WaitEach m (length state.variables) good.returned) e good.waiting in
        let kind_is : kind (defined_as m call.result) ≡ Calls good.returned w.1.function w.1.arguments = ap kind w.1.own ∙ w.1.is in
        let type_same : called.type ≡ good.returned = type_is m (stood machine.standing) (stood caller) (map stood callers) machine.slots machine.words machine.buffers machine.choices state call calls e shows kept good.returned w.1.function w.1.arguments kind_is in
        let size : length (flat v) ≡ held_words m called.type =
        held_counted m kept (types_in m state) good.returned (Whole v) (value_of_type m kept (types_in m state) good.returned v shaped) ∙ ap (held_words m) (sym type_same) in
        let counted : length (flat v) ≡ leaves m good.returned = counted_in m (whole m) good.returned v shaped in
        let at_is = call_place m (stood machine.standing) (stood caller) (map stood callers) machine.slots machine.words machine.buffers machine.choices state call calls e shows kept input good v size in
        let room = call_room m (stood machine.standing) (stood caller) (map stood callers) machine.slots machine.words machine.buffers machine.choices state call calls e shows kept input good v size in
        let fits = call_fits_in m (stood machine.standing) (stood caller) (map stood callers) machine.slots machine.words machine.buffers machine.choices state call calls e shows kept input good v size in
        let first_is : machine.standing.slots ≡ caller.slots + (frame m call.body).most = each.2 in
        let low = (behind_callers m machine state shown more caller callers waits).0 in
        let below = held.below in
        let top = end_there m kept input machine state good typed shown in
        let at = caller.slots + place m call.result in
        let inside : caller.slots + place m call.result + length (flat v) ≤ length machine.slots = omega (arith, room, at_is) in
        let room_for : HasRoomToReturn m Left caller value call.result (leaves m good.returned) = record {
          instr = called.instr;
          here = called.here;
          gives = called.gives;
          low = below_bound m kept value good.returned known;
          there = omega (arith, below, top, counted);
          room = omega (arith, inside, counted);
          apart = apart value (caller.slots + place m call.result) (leaves m good.returned) v (below_bound m kept value good.returned known) is counted (omega (arith, low)) (omega (arith, fits, at_is, first_is, counted));
          places = shown.places;
          number = call_fits m machine state shown more caller callers waits call calls e;
        } in
        let it = puts call.result good.returned known room_for in
        let words_are : take (leaves m good.returned) (drop (stands m machine.standing.slots value) machine.slots) ≡ flat v = ap (λ n. take n (drop (stands m machine.standing.slots value) machine.slots)) (sym counted) ∙ held.is in
        let back = value_returned m (stood machine.standing) (stood caller) (map stood callers) machine.slots machine.words machine.buffers machine.choices state call calls e shows kept input good v size in
        let later : State = record (back_in call calls state) { ids = give call.ids call.result (Whole v) } in
        let long = length_with machine.slots (flat v) (caller.slots + place m call.result) inside in
        let places = shown.places in (
          refl,
          shown_again m next (record caller { at = caller.at + 1 }) callers (with_words machine.slots (caller.slots + place m call.result) (flat v)) machine.words machine.buffers machine.choices later
              it.standing it.callers (it.slots ∙ ap (with_words machine.slots (caller.slots + place m call.result)) words_are) it.variables it.buffers it.left
              (record {
                shows = back;
                constants_are = front_of machine.slots (flat v) 0 (length (constants m)) (caller.slots + place m call.result) (omega (arith, low)) (omega (arith, inside)) ∙ shown.constants_are;
                behind = behind_callers m machine state shown more caller callers waits;
                places = omega (arith, long, places);
                reach = shown.reach;
                numbers = shown.numbers;
              }),
        )

    pub returns_value : (value : ℕ) → read p.instr ≡ Some (instruction.ReturnValue value) → Returns m value caller Left next → Comes m next Goes (on_whole (state.ids value) (λ v. returning m Now state.waiting (with_value v)))
    returns_value value reads puts =
        let rule = (rules_kept m kept input state good p more comes).1.returns in
        let both = and_parts (not (is_void m good.returned)) (has_type m good.returned value)
        (ap (rules.begins_value m value) (sym good.runs.spot.function) ∙ ap (passes_if (rules.may_return m good.runs.before)) (sym reads) ∙ rule) in
        let known = has_type_is m good.returned value both.1 in
        with_value_of m kept input machine state typed shown (Comes m next Goes) tt value good.returned (λ v. returning m Now state.waiting (with_value v)) known
        (λ v is shaped held. returns_one value v known is shaped held puts state.waiting refl)

  pub ends_with : (next : Machine) (value : ℕ) → machine.callers ≡ [] → next ≡ record machine { callers = [] } → Comes m next (Ends false) (on_whole (state.ids value) (λ v. returning m Now state.waiting (with_value v)))
  ends_with next value none is = by_held (state.ids value)
    where
      by_held : (o : Option Held) → Comes m next (Ends false) (on_whole o (λ v. returning m Now state.waiting (with_value v)))
      by_held None = tt
      by_held (Some (Whole v)) = ends_run m machine state shown more next (with_value v) none is
      by_held (Some (Points to)) = tt
