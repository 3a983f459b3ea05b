-- A function is left: its caller goes on behind the call.
use Rattle.std.proofs.Common.{◌≡◌, sym, ap, ◌∙◌, subst, ℕ, ◌+◌, ◌≤◌, List, [], ◌∷◌, ◌++◌, length, drop, Some, arith}
use Rattle.gsl_base.specs.declared.input.Buffer.{Buffer}
use Rattle.gsl_base.specs.declared.input.Input.{Input}
use Rattle.gsl_words.specs.declared.module.Module.{Module}
use Rattle.gsl_values.specs.declared.value.Value.{Value}
use Rattle.gsl_valid.specs.Kinds.{Calls, kind, type_in}
use Rattle.gsl_valid.specs.Types.{defined_as}
use Rattle.gsl_machine.specs.Functions.{back_in, variables_of}
use Rattle.gsl_machine.specs.State.{Held, State, Waiting, Whole, give}
use Rattle.gsl_region.specs.Flat.{flat}
use Rattle.gsl_region.specs.Showing.{with_words}
use Rattle.gsl_region.proofs.Focus.{ended}
use Rattle.gsl_kinds.specs.Runtimes.{front}
use Rattle.gsl_slots.specs.Holding.{Holds}
use Rattle.gsl_slots.proofs.Held.{given, kept as kept_below}
use Rattle.gsl_sound.specs.Sound.{Good, WaitEach}
use Rattle.gsl_sound_code.proofs.Looks.{Kept}
use Rattle.gsl_sound_types.specs.Typed.{types_below, types_of}
use Rattle.gsl_frames.specs.declared.taken.Taken.{Taken}
use Rattle.gsl_frames.specs.Frames.{frame, held_words, place, sum, taken_in, variable_words}
use Rattle.gsl_frames.specs.Taken.{in_front, taken_by}
use Rattle.gsl_shown.specs.Shown.{IsCall, Shows, ShowsEach, ShowsIds, Standing, held_as, in_slots}
use Rattle.gsl_shown.proofs.Bounds.{bounded_in, grows}
use Rattle.gsl_shown.proofs.Giving.{give_slots, kept_each, length_with}
use Rattle.gsl_shown.proofs.Places.{keep_from, place_given, stays_in}
use Rattle.gsl_shown_calls.proofs.Behind.{all_behind, behind_shown, parameters_behind, top_behind}

module _ (m : Module) (f g : Standing) (callers : List Standing) (slots words : List ℕ) (buffers : List Buffer) (choices : List ℕ) (state : State) (call : Waiting) (calls : List Waiting) (waits : state.waiting ≡ call ∷ calls)
    (shows : Shows m f (g ∷ callers) slots words buffers choices state) where
  abbrev each : ShowsEach m slots f.slots (g ∷ callers) (call ∷ calls)
  each = subst (ShowsEach m slots f.slots (g ∷ callers)) waits shows.waiting

  abbrev called : IsCall m g.at call.result
  called = each.0

  abbrev ids : ShowsIds m (types_below m calls) g call.body slots call.own call.ids
  ids = each.4

  pub return_shown : Shows m (record g { at = g.at + 1 }) callers slots words buffers choices (back_in call calls state)
  return_shown = record {
    rest = each.1;
    ids = behind_shown m (types_below m calls) g call.body slots call.own call.ids ids called.instr called.here called.type called.function called.arguments called.is;
    variables = ended words state.variables call.count shows.variables;
    waiting = each.5;
    buffers_are = shows.buffers_are;
    choices_are = shows.choices_are;
  }

  module _ (kept : Kept m) (input : Input) (good : Good m input state) (v : Value) (size : length (flat v) ≡ held_words m called.type) where
    abbrev T : Taken
    T = taken_in m (front m g.at)

    abbrev Words : Held → List ℕ
    Words = held_as m (types_below m calls ++ types_of m (variables_of call.body))

    abbrev At : ℕ → ℕ
    At id = g.slots + place m id

    pub place_is : place m call.result ≡ T.top
    place_is = place_given m kept g.at call.result called.instr (drop (g.at + 1) m.instrs) called.here called.gives ∙ ap (λ k. in_front k T) called.is

    pub top_fits : T.top + length (flat v) ≤ (frame m call.body).most
    top_fits =
        let w = subst (WaitEach m (length state.variables) good.returned) waits good.waiting in
        let all = stays_in m kept call.body w.0 (w.1.instr ∷ w.1.before) call.rest w.1.spot in
        let grown = grows m call.rest (taken_in m (front m (g.at + 1))) all in
        let low = (bounded_in m (front m (g.at + 1))).top in
        let top = top_behind m (types_below m calls) g call.body slots call.own call.ids ids called.instr called.here called.type called.function called.arguments called.is in
        let same = ap (λ (t : Taken). t.most)
        (ap (λ l. taken_by sum (held_words m) (variable_words m) l (taken_in m (front m (g.at + 1)))) each.1
        ∙ all_behind m (types_below m calls) g call.body slots call.own call.ids ids called.instr called.here called.type called.function called.arguments called.is) in
        omega (arith, grown, low, same, size, top)

    pub room : g.slots + T.top + length (flat v) ≤ length slots
    room = let fits = top_fits in let most = ids.room in omega (arith, fits, most)

    value_shown : Shows m (record g { at = g.at + 1 }) callers (with_words slots (g.slots + T.top) (flat v)) words buffers choices (record (back_in call calls state) { ids = give call.ids call.result (Whole v) })
    value_shown =
        let fits = room in
        let next = top_behind m (types_below m calls) g call.body slots call.own call.ids ids called.instr called.here called.type called.function called.arguments called.is in
        let top_is : g.slots + T.top + length (flat v) ≡ g.slots + (taken_in m (front m (g.at + 1))).top = omega (arith, size, next) in
        let bounds = (bounded_in m (front m g.at)).parameters in
        let parameters = parameters_behind m (types_below m calls) g call.body slots call.own call.ids ids called.instr called.here called.type called.function called.arguments called.is in
        record {
          rest = each.1;
          ids = record {
            body_is = ids.body_is;
            fresh = ids.fresh;
            variables_are = ids.variables_are;
            room = subst (λ n. g.slots + (frame m call.body).most ≤ n) (sym (length_with slots (flat v) (g.slots + T.top) fits)) ids.room;
            in_all = all_behind m (types_below m calls) g call.body slots call.own call.ids ids called.instr called.here called.type called.function called.arguments called.is;
            held = subst (λ n. Holds Words At (with_words slots (g.slots + T.top) (flat v)) n (in_slots m (give call.ids call.result (Whole v)))) top_is
                (give_slots m Words At (with_words slots (g.slots + T.top) (flat v)) (g.slots + T.top + length (flat v)) call.ids call.result (Whole v)
                (given Words At slots (g.slots + T.top) (in_slots m call.ids) ids.held call.result (Whole v) (ap (λ n. g.slots + n) place_is) fits));
            lasting = subst (λ n. Holds Words At (with_words slots (g.slots + T.top) (flat v)) (g.slots + n) (in_slots m call.own)) (sym parameters)
                (kept_below Words At slots (g.slots + T.parameters) (in_slots m call.own) ids.lasting (flat v) (g.slots + T.top) (omega (arith, bounds)) (omega (arith, fits)));
          };
          variables = ended words state.variables call.count shows.variables;
          waiting = kept_each m (flat v) slots (g.slots + T.top) fits g.slots callers calls (omega arith) each.5;
          buffers_are = shows.buffers_are;
          choices_are = shows.choices_are;
        }

    pub value_returned : Shows m (record g { at = g.at + 1 }) callers (with_words slots (g.slots + place m call.result) (flat v)) words buffers choices (record (back_in call calls state) { ids = give call.ids call.result (Whole v) })
    value_returned =
        subst (λ n. Shows m (record g { at = g.at + 1 }) callers (with_words slots (g.slots + n) (flat v)) words buffers choices (record (back_in call calls state) { ids = give call.ids call.result (Whole v) })) (sym place_is) value_shown

  -- the type that the call gives, by its id
  pub type_is : (kept : Kept m) (type function : ℕ) (arguments : List ℕ) → kind (defined_as m call.result) ≡ Calls type function arguments → called.type ≡ type
  type_is kept type function arguments is =
      let keeps = (keep_from m [] m.instrs g.at called.instr (drop (g.at + 1) m.instrs) kept.all called.here).0 in
      let same : Some called.type ≡ Some type = sym (ap type_in (ap kind (keeps.own call.result called.gives) ∙ called.is)) ∙ ap type_in is in
      cc
