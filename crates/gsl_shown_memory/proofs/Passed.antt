-- Behind an instruction that leaves the slots as they are.
use Rattle.std.proofs.Common.{◌≡◌, refl, sym, ap, ◌∙◌, subst, ℕ, ◌+◌, true, false, List, ◌∷◌, set, Some}
use Rattle.std.specs.Prelude.{slice_get}
use Rattle.std.proofs.lemmas.Bool.{false≢true}
use Rattle.gsl_base.specs.declared.input.Buffer.{Buffer}
use Rattle.gsl_words.specs.declared.module.Module.{Module}
use Rattle.gsl_values.specs.declared.value.Value.{Value}
use Rattle.gsl_tree.specs.Operations.{with_value_at}
use Rattle.gsl_valid.specs.CallRules.{is_last}
use Rattle.gsl_valid.specs.Instruction.{read}
use Rattle.gsl_valid.specs.Kinds.{Kind, Does, Holds, Merges, kind}
use Rattle.gsl_valid.specs.Placed.{Placed}
use Rattle.gsl_machine.specs.State.{Held, State}
use Rattle.gsl_region.specs.Flat.{flat}
use Rattle.gsl_region.specs.Showing.{with_words}
use Rattle.gsl_region.specs.Showing.{Shows as ShowsVariables}
use Rattle.gsl_kinds.specs.Runtimes.{front}
use Rattle.gsl_memory_law.specs.Typed.{place_by}
use Rattle.gsl_memory_law.proofs.Typed.{stored}
use Rattle.gsl_slots.specs.Holding.{Holds as HoldsIds}
use Rattle.gsl_sound_code.proofs.Looks.{Kept}
use Rattle.gsl_sound_types.specs.Typed.{LeadsTo, Typed, types_in}
use Rattle.gsl_sound_values.specs.Shaped.{is_shaped}
use Rattle.gsl_frames.specs.declared.taken.Taken.{Taken}
use Rattle.gsl_frames.specs.Frames.{place, taken_in}
use Rattle.gsl_shown.specs.Shown.{Shows, Standing, held_as, in_slots}
use Rattle.gsl_shown.proofs.Bounds.{after}
use Rattle.gsl_shown.proofs.Passing.{in_all_next, stands, taken_next}
use Rattle.gsl_shown_memory.specs.Passing.{passes}

goes_on : (k : Kind) → passes k ≡ true → is_last k ≡ false
goes_on (Holds v) is = refl
goes_on Does is = refl
goes_on Merges is = refl
goes_on _ is = absurd (false≢true is)

same_top : (m : Module) (k : Kind) (t : Taken) → passes k ≡ true → (after m k t).top ≡ t.top
same_top m (Holds v) t is = refl
same_top m Does t is = refl
same_top m Merges t is = refl
same_top m _ t is = absurd (false≢true is)

same_parameters : (m : Module) (k : Kind) (t : Taken) → passes k ≡ true → (after m k t).parameters ≡ t.parameters
same_parameters m (Holds v) t is = refl
same_parameters m Does t is = refl
same_parameters m Merges t is = refl
same_parameters m _ t is = absurd (false≢true is)

module _ (m : Module) (f : Standing) (callers : List Standing) (slots words : List ℕ) (buffers : List Buffer) (choices : List ℕ) (state : State) (shows : Shows m f callers slots words buffers choices state)
    (p : Placed) (more : List Placed) (comes : state.rest ≡ p ∷ more) (is : passes (kind (read p.instr)) ≡ true) where
  abbrev K : Kind
  K = kind (read p.instr)

  abbrev T : Taken
  T = taken_in m (front m f.at)

  abbrev Words : Held → List ℕ
  Words = held_as m (types_in m state)

  abbrev At : ℕ → ℕ
  At other = f.slots + place m other

  pub passed : (now : List ℕ) (variables : List Value) (later : List Buffer) → ShowsVariables now variables
      → Shows m (record f { at = f.at + 1 }) callers slots now later choices (record state { rest = more; variables = variables; buffers = later })
  passed now variables later shown =
      let taken = taken_next m f callers slots words buffers choices state shows p more comes K refl (goes_on K is) in
      let top : f.slots + T.top ≡ f.slots + (taken_in m (front m (f.at + 1))).top = ap (λ n. f.slots + n) (sym (ap (λ (t : Taken). t.top) taken ∙ same_top m K T is)) in
      let parameters : f.slots + T.parameters ≡ f.slots + (taken_in m (front m (f.at + 1))).parameters = ap (λ n. f.slots + n) (sym (ap (λ (t : Taken). t.parameters) taken ∙ same_parameters m K T is)) in
      record {
        rest = (stands m f callers slots words buffers choices state shows p more comes K refl (goes_on K is)).behind_it;
        ids = record {
          body_is = shows.ids.body_is;
          fresh = shows.ids.fresh;
          variables_are = shows.ids.variables_are;
          room = shows.ids.room;
          in_all = in_all_next m f callers slots words buffers choices state shows p more comes K refl (goes_on K is);
          held = subst (λ n. HoldsIds Words At slots n (in_slots m state.ids)) top shows.ids.held;
          lasting = subst (λ n. HoldsIds Words At slots n (in_slots m state.own)) parameters shows.ids.lasting;
        };
        variables = shown;
        waiting = shows.waiting;
        buffers_are = refl;
        choices_are = shows.choices_are;
      }

  -- a value is stored in a part of a variable
  pub stored_shown : (kept : Kept m) (typed : Typed m state) (number : ℕ) (path : List ℕ) (part : ℕ) (old new : Value) → LeadsTo m (types_in m state) number path part → slice_get state.variables number ≡ Some old → is_shaped m part new ≡ true
      → Shows m (record f { at = f.at + 1 }) callers slots (with_words words (place_by m (types_in m state) number path) (flat new)) buffers choices (record state { rest = more; variables = set state.variables number (with_value_at old path new) })
  stored_shown kept typed number path part old new leads here shaped =
      subst (λ b. Shows m (record f { at = f.at + 1 }) callers slots (with_words words (place_by m (types_in m state) number path) (flat new)) buffers choices (record state { rest = more; variables = set state.variables number (with_value_at old path new); buffers = b })) shows.buffers_are
      (passed (with_words words (place_by m (types_in m state) number path) (flat new)) (set state.variables number (with_value_at old path new)) buffers
      (stored m kept (types_in m state) path state.variables number leads.type part typed.variables leads.is leads.leads words old new shows.variables here shaped))
