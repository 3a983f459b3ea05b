-- A branch leads to a label of its function.
use Rattle.std.proofs.Common.{◌≡◌, refl, sym, ap, ◌∙◌, subst, ℕ, zero, suc, ◌+◌, ◌<◌, ◌≤◌, Bool, true, false, ◌&&◌, if◌then◌else◌, List, [], ◌∷◌, length, drop, take, Some, None, inl, inr, arith}
use Rattle.std.specs.List.{AllByRecursion}
use Rattle.std.specs.Prelude.{◌==◌}
use Rattle.std.proofs.lemmas.Bool.{cases_lt, cond-false}
use Rattle.gsl_base.specs.declared.input.Buffer.{Buffer}
use Rattle.gsl_base.specs.declared.input.Input.{Input}
use Rattle.gsl_instr.specs.declared.op.TheConstants as op
use Rattle.gsl_words.specs.declared.module.Instr.{Instr}
use Rattle.gsl_words.specs.declared.module.Module.{Module}
use Rattle.gsl_words.specs.Instructions.{word_count}
use Rattle.gsl_valid.specs.Ids.{defines}
use Rattle.gsl_valid.specs.Placed.{Code, Placed, header_size, words_from}
use Rattle.gsl_machine.specs.Functions.{from_label}
use Rattle.gsl_machine.specs.State.{Held, State}
use Rattle.gsl_machine.specs.Steps.{in_new_block}
use Rattle.gsl_kinds.specs.Runtimes.{front}
use Rattle.gsl_leaves.proofs.Noted.{one_more}
use Rattle.gsl_positions.specs.Positions.{behind, left, place_of}
use Rattle.gsl_positions.proofs.Standing.{below, left_is, nothing_left}
use Rattle.gsl_slots.specs.Holding.{Holds}
use Rattle.gsl_slots.proofs.Held.{rises}
use Rattle.gsl_sound.specs.Sound.{Good}
use Rattle.gsl_sound_code.proofs.Looks.{Kept}
use Rattle.gsl_sound_code.proofs.Walks.{at_label}
use Rattle.gsl_sound_types.specs.Typed.{types_in}
use Rattle.gsl_frames.specs.declared.taken.Taken.{Taken}
use Rattle.gsl_frames.specs.Frames.{frame, held_words, place, sum, taken_in, variable_words}
use Rattle.gsl_frames.specs.Taken.{nothing_taken, taken_by}
use Rattle.gsl_shown.specs.Shown.{Shows, Standing, held_as, in_slots}
use Rattle.gsl_shown.proofs.Bounds.{bounded_in}
use Rattle.gsl_shown.proofs.Labels.{TakesNone, none_from_block, none_from_label, parameters_stay}
use Rattle.gsl_shown.proofs.Places.{instr_there}

none_some : (code : List Placed) → None ≡ Some code → ⊥
none_some code is = cc

-- ---- what is left tells where it begins

words_grow : (place : ℕ) (code : Code) → place ≤ words_from place code
words_grow place [] = omega arith
words_grow place (i ∷ code) = let later = words_grow (place + word_count i) code in omega (arith, later)

one_place : (place : ℕ) (code : Code) (a b : ℕ) → a ≤ length code → b ≤ length code → words_from place (take a code) ≡ words_from place (take b code) → a ≡ b
one_place place [] a b low high same = omega (arith, low, high)
one_place place (i ∷ code) zero zero low high same = refl
one_place place (i ∷ code) zero (suc b) low high same = absurd (let later = words_grow (place + word_count i) (take b code) in omega (arith, later, same))
one_place place (i ∷ code) (suc a) zero low high same = absurd (let later = words_grow (place + word_count i) (take a code) in omega (arith, later, same))
one_place place (i ∷ code) (suc a) (suc b) low high same = ap suc (one_place (place + word_count i) code a b (omega (arith, low)) (omega (arith, high)) same)

abbrev place_or : List Placed → ℕ
place_or [] = 0
place_or (p ∷ more) = p.at

pub one_number : (m : Module) (a b : ℕ) → a < length m.instrs → b < length m.instrs → left m a ≡ left m b → a ≡ b
unfolding place_of
one_number m a b low high same =
    let x = instr_there m.instrs a low in
    let y = instr_there m.instrs b high in
    let places : place_of m a ≡ place_of m b = sym (ap place_or (left_is m a x.0 x.1)) ∙ ap place_or same ∙ ap place_or (left_is m b y.0 y.1) in
    one_place header_size m.instrs a b (omega (arith, low)) (omega (arith, high)) places

module _ (m : Module) where
  -- what a function takes in all, told from an instruction on
  abbrev pub in_all_at : ℕ → Taken
  in_all_at at = taken_by sum (held_words m) (variable_words m) (left m at) (taken_in m (front m at))

  pub next_same : (at : ℕ) (i : Instr) → at < length m.instrs → drop at m.instrs ≡ i ∷ drop (at + 1) m.instrs → (i.op == op.FUNCTION_END) ≡ false → in_all_at (at + 1) ≡ in_all_at at
  next_same at i within here goes_on =
      ap (λ c. taken_by sum (held_words m) (variable_words m) (left m (at + 1)) (taken_in m c)) (one_more m at i (drop (at + 1) m.instrs) within here)
      ∙ sym
      (ap (λ l. taken_by sum (held_words m) (variable_words m) l (taken_in m (front m at)))
      (left_is m at i here ∙ ap (λ l. record { at = place_of m at; instr = i } ∷ l) (cond-false (i.op == op.FUNCTION_END) [] (left m (at + 1)) goes_on)))

  -- Some code of a function begins at a number.
  pub record ReachedAt (from : ℕ) (code : List Placed) : Type 0 where
    pub at : ℕ
    pub within : at < length m.instrs
    pub is : code ≡ left m at
    pub same : in_all_at at ≡ in_all_at from

  reach : (most at id : ℕ) (code : List Placed) → length m.instrs ≤ at + most → from_label (left m at) id ≡ Some code → ReachedAt at code
  reach zero at id code over found = absurd (none_some code (sym (ap (λ l. from_label l id) (nothing_left m at (omega (arith, over)))) ∙ found))
  reach (suc most) at id code over found = elim (cases_lt at (length m.instrs)) [
    | inl within ↦ (let it = instr_there m.instrs at within in go_on it.0 within it.1 (λ is. reach most (at + 1) id code (omega (arith, over)) is))
    | inr behind ↦ absurd (none_some code (sym (ap (λ l. from_label l id) (nothing_left m at behind)) ∙ found))
  ]
    where
      go_on : (i : Instr) → at < length m.instrs → drop at m.instrs ≡ i ∷ drop (at + 1) m.instrs → (from_label (left m (at + 1)) id ≡ Some code → ReachedAt (at + 1) code) → ReachedAt at code
      go_on i within here next = by_label (i.op == op.LABEL && defines i id) (sym (ap (λ l. from_label l id) (left_is m at i here)) ∙ found)
        where
          by_end : (b : Bool) → (i.op == op.FUNCTION_END) ≡ b → from_label (if b then [] else left m (at + 1)) id ≡ Some code → ReachedAt at code
          by_end true ends is = absurd (none_some code is)
          by_end false goes is = let later = next is in record { at = later.at; within = later.within; is = later.is; same = later.same ∙ next_same at i within here goes }

          by_label : (b : Bool) → (if b then Some (record { at = place_of m at; instr = i } ∷ behind m at i.op) else from_label (behind m at i.op) id) ≡ Some code → ReachedAt at code
          by_label true is =
              let same : record { at = place_of m at; instr = i } ∷ behind m at i.op ≡ code = cc in
              record { at = at; within = within; is = sym same ∙ sym (left_is m at i here); same = refl }
          by_label false is = by_end (i.op == op.FUNCTION_END) refl is

  -- what is found of a label, at the number where it begins
  pub label_reached : (from id at : ℕ) → from_label (left m from) id ≡ Some (left m at) → 0 < length (left m at) → in_all_at at ≡ in_all_at from
  label_reached from id at found some =
      let r = reach (length m.instrs) from id (left m at) (omega arith) found in
      let one = one_number m r.at at r.within (below m at some) (sym r.is) in
      ap in_all_at (sym one) ∙ r.same

module _ (m : Module) (kept : Kept m) (input : Input) (f : Standing) (callers : List Standing) (slots words : List ℕ) (buffers : List Buffer) (choices : List ℕ) (state : State) (good : Good m input state)
    (shows : Shows m f callers slots words buffers choices state) where
  -- the parameters are all those of the function
  parameters_here : (at : ℕ) → in_all_at m at ≡ frame m state.body → AllByRecursion TakesNone (left m at) → (taken_in m (front m at)).parameters ≡ (frame m state.body).parameters
  parameters_here at all none = sym (parameters_stay m (left m at) (taken_in m (front m at)) none) ∙ ap (λ (t : Taken). t.parameters) all

  now_none : AllByRecursion TakesNone state.rest
  now_none = elim good.runs.now [
    | inl inside ↦ none_from_block m kept state.body good.returned good.runs.before state.rest good.runs.spot inside.0
    | inr label ↦ none_from_label m kept state.body good.returned good.runs.before state.rest good.runs.spot label
  ]

  -- from the first of its instructions on, a function takes what it takes in all
  all_begun : in_all_at m f.body ≡ frame m state.body
  all_begun =
      ap (taken_by sum (held_words m) (variable_words m) (left m f.body)) shows.ids.fresh
      ∙ ap (λ l. taken_by sum (held_words m) (variable_words m) l nothing_taken) (sym shows.ids.body_is)

  abbrev Words : Held → List ℕ
  Words = held_as m (types_in m state)

  abbrev At : ℕ → ℕ
  At other = f.slots + place m other

  pub branch_shown : (label at : ℕ) → from_label state.body label ≡ Some (left m at) → Shows m (record f { at = at }) callers slots words buffers choices (in_new_block (record state { rest = left m at }))
  branch_shown label at found =
      let arrived = at_label m kept state.body good.returned good.runs.start state.body label (left m at) good.runs.first found in
      let some : 0 < length (left m at) = (let size : length (left m at) ≡ suc (length arrived.label.more) = ap length arrived.label.is in omega (arith, size)) in
      let all : in_all_at m at ≡ frame m state.body = label_reached m f.body label at (ap (λ l. from_label l label) (sym shows.ids.body_is) ∙ found) some ∙ all_begun in
      let here = parameters_here at all (none_from_label m kept state.body good.returned arrived.before (left m at) arrived.spot arrived.label) in
      let was = parameters_here f.at shows.ids.in_all (subst (AllByRecursion TakesNone) shows.rest now_none) in
      let same : f.slots + (taken_in m (front m f.at)).parameters ≡ f.slots + (taken_in m (front m at)).parameters = omega (arith, here, was) in
      let lasting : Holds Words At slots (f.slots + (taken_in m (front m at)).parameters) (in_slots m state.own) = subst (λ n. Holds Words At slots n (in_slots m state.own)) same shows.ids.lasting in
      let low = (bounded_in m (front m at)).parameters in
      record {
        rest = refl;
        ids = record {
          body_is = shows.ids.body_is;
          fresh = shows.ids.fresh;
          variables_are = shows.ids.variables_are;
          room = shows.ids.room;
          in_all = all;
          held = rises Words At slots (f.slots + (taken_in m (front m at)).parameters) (in_slots m state.own) lasting (f.slots + (taken_in m (front m at)).top) (omega (arith, low));
          lasting = lasting;
        };
        variables = shows.variables;
        waiting = shows.waiting;
        buffers_are = shows.buffers_are;
        choices_are = shows.choices_are;
      }
