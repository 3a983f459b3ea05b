-- From an instruction to the one behind it.
use Rattle.std.proofs.Common.{◌≡◌, refl, sym, ap, ◌∙◌, subst, ℕ, ◌+◌, false, List, ◌∷◌, drop}
use Rattle.gsl_base.specs.declared.input.Buffer.{Buffer}
use Rattle.gsl_words.specs.declared.module.Module.{Module}
use Rattle.gsl_valid.specs.CallRules.{is_last}
use Rattle.gsl_valid.specs.Instruction.{read}
use Rattle.gsl_valid.specs.Kinds.{Kind, Merges, Opens, kind}
use Rattle.gsl_valid.specs.Placed.{Placed}
use Rattle.gsl_machine.specs.State.{Held, State}
use Rattle.gsl_machine.specs.Steps.{in_new_block}
use Rattle.gsl_kinds.specs.Runtimes.{front}
use Rattle.gsl_leaves.proofs.Noted.{one_more}
use Rattle.gsl_positions.specs.Positions.{left}
use Rattle.gsl_slots.specs.Holding.{Holds}
use Rattle.gsl_sound_types.specs.Typed.{types_in}
use Rattle.gsl_frames.specs.declared.taken.Taken.{Taken}
use Rattle.gsl_frames.specs.Frames.{frame, held_words, place, sum, taken_in, variable_words}
use Rattle.gsl_frames.specs.Taken.{taken_by}
use Rattle.gsl_shown.specs.Shown.{Shows, Standing, held_as, in_slots}
use Rattle.gsl_shown.proofs.Bounds.{after}
use Rattle.gsl_shown.proofs.Places.{StandsAt, stands_at}

module _ (m : Module) (f : Standing) (callers : List Standing) (slots words : List ℕ) (buffers : List Buffer) (choices : List ℕ) (state : State) (shows : Shows m f callers slots words buffers choices state)
    (p : Placed) (more : List Placed) (comes : state.rest ≡ p ∷ more) (k : Kind) (kind_is : kind (read p.instr) ≡ k) (goes_on : is_last k ≡ false) where
  abbrev T : Taken
  T = taken_in m (front m f.at)

  left_is : left m f.at ≡ p ∷ more
  left_is = sym shows.rest ∙ comes

  pub stands : StandsAt m f.at p more
  stands = stands_at m f.at p more left_is (ap is_last kind_is ∙ goes_on)

  next_front : front m (f.at + 1) ≡ p.instr ∷ front m f.at
  next_front = one_more m f.at p.instr (drop (f.at + 1) m.instrs) stands.within stands.here

  pub taken_next : taken_in m (front m (f.at + 1)) ≡ after m k T
  taken_next = ap (taken_in m) next_front ∙ ap (λ k. after m k T) kind_is

  -- what is still to come takes what is left of all
  pub in_all_behind : taken_by sum (held_words m) (variable_words m) more (after m k T) ≡ frame m state.body
  in_all_behind =
      ap (λ k. taken_by sum (held_words m) (variable_words m) more (after m k T)) (sym kind_is)
      ∙ ap (λ l. taken_by sum (held_words m) (variable_words m) l T) (sym left_is) ∙ shows.ids.in_all

  pub in_all_next : taken_by sum (held_words m) (variable_words m) (left m (f.at + 1)) (taken_in m (front m (f.at + 1))) ≡ frame m state.body
  in_all_next =
      ap (λ l. taken_by sum (held_words m) (variable_words m) l (taken_in m (front m (f.at + 1)))) (sym stands.behind_it)
      ∙ ap (taken_by sum (held_words m) (variable_words m) more) taken_next ∙ in_all_behind

module _ (m : Module) (f : Standing) (callers : List Standing) (slots words : List ℕ) (buffers : List Buffer) (choices : List ℕ) (state : State) (shows : Shows m f callers slots words buffers choices state)
    (p : Placed) (more : List Placed) (comes : state.rest ≡ p ∷ more) where
  abbrev Words : Held → List ℕ
  Words = held_as m (types_in m state)

  abbrev At : ℕ → ℕ
  At other = f.slots + place m other

  abbrev Next : Standing
  Next = record f { at = f.at + 1 }

  -- a block begins: what lasts is what may be used
  pub label_shown : kind (read p.instr) ≡ Opens → Shows m Next callers slots words buffers choices (in_new_block (record state { rest = more }))
  label_shown is =
      let taken = taken_next m f callers slots words buffers choices state shows p more comes Opens is refl in
      record {
        rest = (stands m f callers slots words buffers choices state shows p more comes Opens is refl).behind_it;
        ids = record {
          body_is = shows.ids.body_is;
          fresh = shows.ids.fresh;
          variables_are = shows.ids.variables_are;
          room = shows.ids.room;
          in_all = in_all_next m f callers slots words buffers choices state shows p more comes Opens is refl;
          held = subst (λ n. Holds Words At slots n (in_slots m state.own)) (ap (λ (t : Taken). f.slots + t.top) (sym taken)) shows.ids.lasting;
          lasting = subst (λ n. Holds Words At slots n (in_slots m state.own)) (ap (λ (t : Taken). f.slots + t.parameters) (sym taken)) shows.ids.lasting;
        };
        variables = shows.variables;
        waiting = shows.waiting;
        buffers_are = shows.buffers_are;
        choices_are = shows.choices_are;
      }

  -- a merge is passed
  pub merge_shown : kind (read p.instr) ≡ Merges → Shows m Next callers slots words buffers choices (record state { rest = more })
  merge_shown is =
      let taken = taken_next m f callers slots words buffers choices state shows p more comes Merges is refl in
      record {
        rest = (stands m f callers slots words buffers choices state shows p more comes Merges is refl).behind_it;
        ids = record {
          body_is = shows.ids.body_is;
          fresh = shows.ids.fresh;
          variables_are = shows.ids.variables_are;
          room = shows.ids.room;
          in_all = in_all_next m f callers slots words buffers choices state shows p more comes Merges is refl;
          held = subst (λ n. Holds Words At slots n (in_slots m state.ids)) (ap (λ (t : Taken). f.slots + t.top) (sym taken)) shows.ids.held;
          lasting = subst (λ n. Holds Words At slots n (in_slots m state.own)) (ap (λ (t : Taken). f.slots + t.parameters) (sym taken)) shows.ids.lasting;
        };
        variables = shows.variables;
        waiting = shows.waiting;
        buffers_are = shows.buffers_are;
        choices_are = shows.choices_are;
      }
