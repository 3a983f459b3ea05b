-- An instruction gives an id something: its words stand in the slots at its place.
use Rattle.std.proofs.Common.{◌≡◌, refl, sym, ap, ◌∙◌, subst, ℕ, ◌+◌, ◌≤◌, Bool, true, false, ◌||◌, if◌then◌else◌, List, [], ◌∷◌, ◌++◌, length, drop, take, Some, None, arith, length-append}
use Rattle.std.specs.Prelude.{◌==◌}
use Rattle.std.proofs.lemmas.List.{length-drop, length-take-le}
use Rattle.std.proofs.lemmas.Option.{none-some}
use Rattle.gsl_base.specs.declared.input.Buffer.{Buffer}
use Rattle.gsl_base.specs.declared.input.Input.{Input}
use Rattle.gsl_words.specs.declared.module.Module.{Module}
use Rattle.gsl_valid.specs.CallRules.{takes}
use Rattle.gsl_valid.specs.Ids.{result}
use Rattle.gsl_valid.specs.Instruction.{read}
use Rattle.gsl_valid.specs.Kinds.{Gives, kind}
use Rattle.gsl_valid.specs.LocalityRules.{gives_value}
use Rattle.gsl_valid.specs.Placed.{Placed}
use Rattle.gsl_valid.specs.Types.{defined_as}
use Rattle.gsl_valid.specs.Where.{bounds_one}
use Rattle.gsl_machine.specs.State.{Held, Ids, State, Waiting, give}
use Rattle.gsl_region.specs.Showing.{with_words}
use Rattle.gsl_kinds.specs.Runtimes.{front}
use Rattle.gsl_slots.specs.Holding.{Holds}
use Rattle.gsl_slots.proofs.Held.{given, kept as kept_below}
use Rattle.gsl_sound.specs.Sound.{Good}
use Rattle.gsl_sound_code.specs.Spots.{Spot}
use Rattle.gsl_sound_code.proofs.Looks.{Kept}
use Rattle.gsl_sound_code.proofs.Walks.{step_of}
use Rattle.gsl_sound_types.specs.Typed.{types_below, types_in}
use Rattle.gsl_frames.specs.declared.taken.Taken.{Taken}
use Rattle.gsl_frames.specs.Frames.{frame, held_words, place, taken_in}
use Rattle.gsl_frames.specs.Taken.{in_front}
use Rattle.gsl_shown.specs.Shown.{Shows, ShowsEach, ShowsIds, Standing, held_as, in_slots}
use Rattle.gsl_shown.proofs.Bounds.{Bounded, after, bounded_in, grows}
use Rattle.gsl_shown.proofs.Places.{StandsAt, place_given, stays_in}
use Rattle.gsl_shown.proofs.Passing.{in_all_behind, in_all_next, stands, taken_next}

pub length_with : (slots new : List ℕ) (at : ℕ) → at + length new ≤ length slots → length (with_words slots at new) ≡ length slots
length_with slots new at room =
    let front : length (take at slots) ≡ at = length-take-le at slots (omega (arith, room)) in
    let behind = length-drop (at + length new) slots in
    let all = length-append (take at slots) (new ++ drop (at + length new) slots) in
    let later = length-append new (drop (at + length new) slots) in
    omega (arith, front, behind, all, later, room)

-- among ids that have slots, one more
pub give_slots : (m : Module) (words : Held → List ℕ) (at : ℕ → ℕ) (slots : List ℕ) (top : ℕ) (ids : Ids) (id : ℕ) (held : Held) → Holds words at slots top (give (in_slots m ids) id held) → Holds words at slots top (in_slots m (give ids id held))
give_slots m words at slots top ids id held holds = record { each = λ other it is. holds.each other it (by_slot other it (takes (kind (defined_as m other)) || gives_value (kind (defined_as m other))) refl is) }
  where
    by_slot : (other : ℕ) (it : Held) (b : Bool) → (takes (kind (defined_as m other)) || gives_value (kind (defined_as m other))) ≡ b → (if b then (if other == id then Some held else ids other) else None) ≡ Some it
        → (if other == id then Some held else (if takes (kind (defined_as m other)) || gives_value (kind (defined_as m other)) then ids other else None)) ≡ Some it
    by_slot other it true slot is = ap (λ b. if other == id then Some held else (if b then ids other else None)) slot ∙ is
    by_slot other it false slot is = absurd (none-some it is)

module _ (m : Module) (new : List ℕ) (slots : List ℕ) (at : ℕ) (room : at + length new ≤ length slots) where
  abbrev Now : List ℕ
  Now = with_words slots at new

  -- those who wait keep what they have
  pub kept_each : (first : ℕ) (callers : List Standing) (calls : List Waiting) → first ≤ at → ShowsEach m slots first callers calls → ShowsEach m Now first callers calls
  kept_each first [] [] above shows = tt
  kept_each first [] (call ∷ calls) above shows = absurd shows
  kept_each first (f ∷ callers) [] above shows = absurd shows
  kept_each first (f ∷ callers) (call ∷ calls) above shows =
      let ids : ShowsIds m (types_below m calls) f call.body slots call.own call.ids = shows.4 in
      let bounds = (bounded_in m (front m f.at)).parameters in
      let top = shows.3 in
      let is = shows.2 in (
        shows.0,
        shows.1,
        shows.2,
        shows.3,
        record {
          body_is = ids.body_is;
          fresh = ids.fresh;
          variables_are = ids.variables_are;
          room = subst (λ n. f.slots + (frame m call.body).most ≤ n) (sym (length_with slots new at room)) ids.room;
          in_all = ids.in_all;
          held = kept_below _ (λ id. f.slots + place m id) slots (f.slots + (taken_in m (front m f.at)).top) (in_slots m call.ids) ids.held new at (omega (arith, top, above)) (omega (arith, room));
          lasting = kept_below _ (λ id. f.slots + place m id) slots (f.slots + (taken_in m (front m f.at)).parameters) (in_slots m call.own) ids.lasting new at (omega (arith, bounds, top, above)) (omega (arith, room));
        },
        kept_each f.slots callers calls (omega (arith, is, above)) shows.5,
      )

module _ (m : Module) (kept : Kept m) (input : Input) (f : Standing) (callers : List Standing) (slots words : List ℕ) (buffers : List Buffer) (choices later : List ℕ) (state : State) (good : Good m input state)
    (shows : Shows m f callers slots words buffers choices state) (p : Placed) (more : List Placed) (comes : state.rest ≡ p ∷ more) (id type : ℕ) (held : Held) (gives : kind (read p.instr) ≡ Gives type) (result_is : result (read p.instr) ≡ Some id)
    (size : length (held_as m (types_in m state) held) ≡ held_words m type) where
  abbrev New : List ℕ
  New = held_as m (types_in m state) held

  abbrev T : Taken
  T = taken_in m (front m f.at)

  abbrev Next : Standing
  Next = record f { at = f.at + 1 }

  stood : StandsAt m f.at p more
  stood = stands m f callers slots words buffers choices state shows p more comes (Gives type) gives refl

  taken_then : taken_in m (front m (f.at + 1)) ≡ after m (Gives type) T
  taken_then = taken_next m f callers slots words buffers choices state shows p more comes (Gives type) gives refl

  -- there is room for it
  top_fits : T.top + length New ≤ (frame m state.body).most
  top_fits =
      let step = step_of m kept state.body good.returned good.runs.before p more (subst (Spot m state.body good.returned good.runs.before) comes good.runs.spot) in
      let all = stays_in m kept state.body good.returned (p.instr ∷ good.runs.before) more (step.goes (ap bounds_one gives)) in
      let grown = grows m more (after m (Gives type) T) all in
      let low = (subst Bounded taken_then (bounded_in m (front m (f.at + 1)))).top in
      let same = ap (λ (t : Taken). t.most) (in_all_behind m f callers slots words buffers choices state shows p more comes (Gives type) gives refl) in
      omega (arith, grown, low, same, size)

  pub room : f.slots + T.top + length New ≤ length slots
  room = let fits = top_fits in let most = shows.ids.room in omega (arith, fits, most)

  pub place_is : place m id ≡ T.top
  place_is = place_given m kept f.at id p.instr (drop (f.at + 1) m.instrs) stood.here result_is ∙ ap (λ k. in_front k T) gives

  abbrev W : Held → List ℕ
  W = held_as m (types_in m state)

  abbrev P : ℕ → ℕ
  P other = f.slots + place m other

  abbrev Given : State
  Given = record state { rest = more; ids = give state.ids id held; choices = later }

  shown : Shows m Next callers (with_words slots (f.slots + T.top) New) words buffers later Given
  shown =
      let fits = room in
      let next_top : (taken_in m (front m (f.at + 1))).top ≡ T.top + held_words m type = ap (λ (t : Taken). t.top) taken_then in
      let top_is : f.slots + T.top + length New ≡ f.slots + (taken_in m (front m (f.at + 1))).top = omega (arith, size, next_top) in
      let bounds = (bounded_in m (front m f.at)).parameters in
      record {
        rest = stood.behind_it;
        ids = record {
          body_is = shows.ids.body_is;
          fresh = shows.ids.fresh;
          variables_are = shows.ids.variables_are;
          room = subst (λ n. f.slots + (frame m state.body).most ≤ n) (sym (length_with slots New (f.slots + T.top) fits)) shows.ids.room;
          in_all = in_all_next m f callers slots words buffers choices state shows p more comes (Gives type) gives refl;
          held = subst (λ n. Holds W P (with_words slots (f.slots + T.top) New) n (in_slots m (give state.ids id held))) top_is
              (give_slots m W P (with_words slots (f.slots + T.top) New) (f.slots + T.top + length New) state.ids id held
              (given W P slots (f.slots + T.top) (in_slots m state.ids) shows.ids.held id held (ap (λ n. f.slots + n) place_is) fits));
          lasting = subst (λ n. Holds W P (with_words slots (f.slots + T.top) New) n (in_slots m state.own)) (ap (λ (t : Taken). f.slots + t.parameters) (sym taken_then))
              (kept_below W P slots (f.slots + T.parameters) (in_slots m state.own) shows.ids.lasting New (f.slots + T.top) (omega (arith, bounds)) (omega (arith, fits)));
        };
        variables = shows.variables;
        waiting = kept_each m New slots (f.slots + T.top) fits f.slots callers state.waiting (omega arith) shows.waiting;
        buffers_are = shows.buffers_are;
        choices_are = refl;
      }

  -- with its words at its place
  pub given_shown : Shows m Next callers (with_words slots (f.slots + place m id) New) words buffers later Given
  given_shown = subst (λ n. Shows m Next callers (with_words slots (f.slots + n) New) words buffers later Given) (sym place_is) shown
