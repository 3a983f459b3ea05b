-- Values and pointers that ids stand for; chains, loads and stores.
use Rattle.std.proofs.Common.{◌≡◌, refl, sym, subst, ℕ, zero, suc, ◌<◌, ◌≤◌, Bool, true, false, if◌then◌else◌, nat_lt, List, [], ◌∷◌, ◌++◌, length, set, slice_get, Option, Some, None, arith, length-set}
use Rattle.std.specs.List.{AllByRecursion}
use Rattle.gsl_base.specs.declared.input.Buffer.{Buffer}
use Rattle.gsl_base.specs.declared.input.Input.{Input}
use Rattle.gsl_instr.specs.declared.enumerant.decoration.TheConstants as decoration
use Rattle.gsl_words.specs.declared.module.Module.{Module}
use Rattle.gsl_values.specs.declared.value.Value.{Value}
use Rattle.gsl_tree.specs.Operations.{value_at, with_value_at}
use Rattle.gsl_tree.specs.Values.{components_in, of_components, parts_in, word_in}
use Rattle.gsl_views.specs.Buffers.{bytes_at, is_at, put_words, with_bytes}
use Rattle.gsl_valid.specs.Decorations.{number_on}
use Rattle.gsl_valid.specs.Kinds.{shape_of}
use Rattle.gsl_valid.specs.Placed.{Code}
use Rattle.gsl_valid.specs.Types.{defined_as, Target, target_of}
use Rattle.gsl_machine.specs.Interfaces.{value_variables}
use Rattle.gsl_machine.specs.Memory.{along, bytes_if, counting, into, into_block, into_variable, is_push, loading, part_as, parts_as, storing, with_block, with_bytes_if, with_variable, words_at}
use Rattle.gsl_machine.specs.State.{Going, InBlock, InVariable, Outcome, Pointer, State, Strayed, on, Held, Ids, Points, Whole, on_pointer, on_whole}
use Rattle.gsl_sound_ids.specs.Held.{Agrees, IsBlock, LeadsSomewhere, StandsInBlocks, usable_as, IsOf, HasBytes, HaveBytes, bytes_in}
use Rattle.gsl_sound.specs.Sound.{Fine, Good, Runs, WaitEach}
use Rattle.gsl_sound_ids.proofs.Laid.{part_stands}
use Rattle.gsl_sound_code.proofs.Looks.{Kept}
use Rattle.gsl_sound_ids.proofs.Plain.{IsValue, IsPointer, is_full, pointer_full, points_nowhere}

-- ---- values and pointers that ids stand for

module _ (m : Module) (input : Input) (count : ℕ) (body block : Code) (ids : Ids) (agrees : Agrees m count body block ids) where
  whole_case : (type : ℕ) (held : Held) (go : Value → Outcome) → target_of (defined_as m type) ≡ None → IsOf m count (target_of (defined_as m type)) held → ((v : Value) → Fine m input (go v)) → Fine m input (on_whole (Some held) go)
  whole_case type (Whole v) go none of fine = fine v
  whole_case type (Points to) go none of fine = absurd (subst (λ t. IsOf m count t (Points to)) none of)

  pointer_case : (type : ℕ) (t : Target) (held : Held) (go : Pointer → Outcome) → target_of (defined_as m type) ≡ Some t → IsOf m count (target_of (defined_as m type)) held
      → ((to : Pointer) → LeadsSomewhere m count to → Fine m input (go to)) → Fine m input (on_pointer (Some held) go)
  pointer_case type t (Whole v) go is of fine = absurd (subst (λ o. IsOf m count o (Whole v)) is of)
  pointer_case type t (Points to) go is of fine = fine to (subst (λ o. IsOf m count o (Points to)) is of)

  pub fine_whole : (id : ℕ) (go : Value → Outcome) → usable_as body block id (defined_as m id) ≡ true → IsValue m id → ((v : Value) → Fine m input (go v)) → Fine m input (on_whole (ids id) go)
  fine_whole id go usable value fine =
      let g = agrees.given id value.type value.typed (is_full m value.type value.plain) usable in
      subst (λ o. Fine m input (on_whole o go)) (sym g.is) (whole_case value.type g.it go (points_nowhere m value.type value.plain) g.of fine)

  pub fine_pointer : (id : ℕ) (go : Pointer → Outcome) → usable_as body block id (defined_as m id) ≡ true → IsPointer m id → ((to : Pointer) → LeadsSomewhere m count to → Fine m input (go to)) → Fine m input (on_pointer (ids id) go)
  fine_pointer id go usable pointer fine =
      let g = agrees.given id pointer.type pointer.typed (pointer_full m pointer.type pointer.target pointer.points) usable in
      subst (λ o. Fine m input (on_pointer o go)) (sym g.is) (pointer_case pointer.type pointer.target g.it go pointer.points g.of fine)

-- ---- chains

-- a variable that is there
there : (variables : List Value) (number : ℕ) → number < length variables → (v : Value) × (slice_get variables number ≡ Some v)
there [] number below = absurd (omega (arith, below))
there (v ∷ variables) zero below = (v, refl)
there (v ∷ variables) (suc number) below = there variables number (omega (arith, below))

-- The id may be used, and is of a type of values.
pub record IsIndex (m : Module) (body block : Code) (id : ℕ) : Type 0 where
  pub usable : usable_as body block id (defined_as m id) ≡ true
  pub value : IsValue m id

module _ (m : Module) (kept : Kept m) (input : Input) (place : ℕ) (state : State) (bytes : HaveBytes m input state.buffers) where
  in_bytes : (variable offset pointee index : ℕ) (go : Pointer → Outcome) (them : List ℕ) → IsBlock m variable → StandsInBlocks m pointee → ((to : Pointer) → LeadsSomewhere m (length state.variables) to → Fine m input (go to))
      → Fine m input (into_block m input place variable offset pointee index go them)
  in_bytes variable offset pointee index go them block stands fine = by_test (nat_lt index (parts_as m (length them) offset pointee (shape_of (defined_as m pointee)))) refl
    where
      by_test : (b : Bool) → nat_lt index (parts_as m (length them) offset pointee (shape_of (defined_as m pointee))) ≡ b
          → Fine m input (if b then on (part_as m variable offset pointee index (shape_of (defined_as m pointee))) go else Strayed place)
      by_test true below =
          let part = part_stands m kept variable offset pointee index (length them) stands below in
          subst (λ o. Fine m input (on o go)) (sym part.is) (fine (InBlock variable part.offset part.pointee) (block, part.stands))
      by_test false below = tt

  in_parts : (number : ℕ) (path : List ℕ) (index : ℕ) (go : Pointer → Outcome) (v : Value) → ((to : Pointer) → LeadsSomewhere m (length state.variables) to → Fine m input (go to)) → number < length state.variables
      → Fine m input (into_variable m input place number path index go v)
  in_parts number path index go v fine below = by_test (nat_lt index (length (parts_in (value_at v path))))
    where
      by_test : (b : Bool) → Fine m input (if b then go (InVariable number (path ++ index ∷ [])) else Strayed place)
      by_test true = fine (InVariable number (path ++ index ∷ [])) below
      by_test false = tt

  fine_into : (from : Pointer) (index : ℕ) (go : Pointer → Outcome) → LeadsSomewhere m (length state.variables) from → ((to : Pointer) → LeadsSomewhere m (length state.variables) to → Fine m input (go to)) → Fine m input (into m input place state from index go)
  fine_into (InBlock variable offset pointee) index go leads fine =
      let b = bytes.each variable leads.0 in
      subst (λ o. Fine m input (on o (into_block m input place variable offset pointee index go))) (sym b.is) (in_bytes variable offset pointee index go b.it leads.0 leads.1 fine)
  fine_into (InVariable number path) index go leads fine =
      let v = there state.variables number leads in
      subst (λ o. Fine m input (on o (into_variable m input place number path index go))) (sym v.1) (in_parts number path index go v.0 fine leads)

  pub fine_along : (body block : Code) → Agrees m (length state.variables) body block state.ids → (indexes : List ℕ) → AllByRecursion (IsIndex m body block) indexes → (from : Pointer) (go : Pointer → Outcome) → LeadsSomewhere m (length state.variables) from
      → ((to : Pointer) → LeadsSomewhere m (length state.variables) to → Fine m input (go to)) → Fine m input (along m input place state from indexes go)
  fine_along body block agrees [] all from go leads fine = fine from leads
  fine_along body block agrees (index ∷ indexes) all from go leads fine =
      fine_whole m input (length state.variables) body block state.ids agrees index (λ v. into m input place state from (word_in v) (λ to. along m input place state to indexes go)) all.0.usable all.0.value
      (λ v. fine_into from (word_in v) (λ to. along m input place state to indexes go) leads (λ to next. fine_along body block agrees indexes all.1 to go next fine))

  pub fine_loading : (from : Pointer) (go : Value → Outcome) → LeadsSomewhere m (length state.variables) from → ((v : Value) → Fine m input (go v)) → Fine m input (loading m input state from go)
  fine_loading (InBlock variable offset pointee) go leads fine =
      let b = bytes.each variable leads.0 in
      subst (λ o. Fine m input (on o (λ them. go (of_components (words_at m offset pointee them))))) (sym b.is) (fine (of_components (words_at m offset pointee b.it)))
  fine_loading (InVariable number path) go leads fine =
      let v = there state.variables number leads in
      subst (λ o. Fine m input (on o (λ v. go (value_at v path)))) (sym v.1) (fine (value_at v.0 path))

  counted : (variable offset pointee member : ℕ) (go : ℕ → Outcome) (count_at : List ℕ → Pointer → Outcome)
      → ((them : List ℕ) (variable offset pointee : ℕ) → count_at them (InBlock variable offset pointee) ≡ go (parts_as m (length them) offset pointee (shape_of (defined_as m pointee))))
      → IsBlock m variable → StandsInBlocks m pointee → ((size : ℕ) → nat_lt member (parts_as m size offset pointee (shape_of (defined_as m pointee))) ≡ true) → ((n : ℕ) → Fine m input (go n))
      → Fine m input (on (bytes_in m input state.buffers variable) (λ them. on (part_as m variable offset pointee member (shape_of (defined_as m pointee))) (count_at them)))
  counted variable offset pointee member go count_at counts block stands below fine =
      let b = bytes.each variable block in
      let part = part_stands m kept variable offset pointee member (length b.it) stands (below (length b.it)) in
      subst (λ o. Fine m input (on o (λ them. on (part_as m variable offset pointee member (shape_of (defined_as m pointee))) (count_at them)))) (sym b.is)
      (subst (λ o. Fine m input (on o (count_at b.it))) (sym part.is) (subst (Fine m input) (sym (counts b.it variable part.offset part.pointee)) (fine _)))

  pub fine_counting : (variable offset pointee member : ℕ) (go : ℕ → Outcome) → IsBlock m variable → StandsInBlocks m pointee → ((size : ℕ) → nat_lt member (parts_as m size offset pointee (shape_of (defined_as m pointee))) ≡ true)
      → ((n : ℕ) → Fine m input (go n)) → Fine m input (counting m input state (InBlock variable offset pointee) member go)
  fine_counting variable offset pointee member go block stands below fine = counted variable offset pointee member go _ (λ them variable offset pointee. refl) block stands below fine

-- ---- stores

-- bytes that are there are there behind a store
still_there : (buffers : List Buffer) (set binding : ℕ) (bytes : List ℕ) (s b : ℕ) → HasBytes (bytes_at buffers s b) → HasBytes (bytes_at (with_bytes buffers set binding bytes) s b)
still_there [] set binding bytes s b has = has
still_there (buffer ∷ buffers) set binding bytes s b has = by_place (is_at set binding buffer) (still_there buffers set binding bytes s b)
  where
    changed : (w : Bool) → HasBytes (if w then Some buffer.bytes else bytes_at buffers s b) → HasBytes (if w then Some bytes else bytes_at buffers s b)
    changed true has = record { it = bytes; is = refl }
    changed false has = has

    other : (w : Bool) → HasBytes (if w then Some buffer.bytes else bytes_at buffers s b) → (HasBytes (bytes_at buffers s b) → HasBytes (bytes_at (with_bytes buffers set binding bytes) s b))
        → HasBytes (if w then Some buffer.bytes else bytes_at (with_bytes buffers set binding bytes) s b)
    other true has later = record { it = buffer.bytes; is = refl }
    other false has later = later has

    by_place : (here : Bool) → (HasBytes (bytes_at buffers s b) → HasBytes (bytes_at (with_bytes buffers set binding bytes) s b))
        → HasBytes (bytes_at (if here then record buffer { bytes = bytes } ∷ buffers else buffer ∷ with_bytes buffers set binding bytes) s b)
    by_place true later = changed (is_at s b buffer) has
    by_place false later = other (is_at s b buffer) has later

still_given : (buffers : List Buffer) (set binding : Option ℕ) (bytes : List ℕ) (s b : Option ℕ) → HasBytes (bytes_if buffers s b) → HasBytes (bytes_if (with_bytes_if buffers set binding bytes) s b)
still_given buffers None binding bytes s b has = has
still_given buffers (Some set) None bytes s b has = has
still_given buffers (Some set) (Some binding) bytes None b has = has
still_given buffers (Some set) (Some binding) bytes (Some s) None has = has
still_given buffers (Some set) (Some binding) bytes (Some s) (Some b) has = still_there buffers set binding bytes s b has

bytes_stay : (m : Module) (input : Input) (buffers : List Buffer) (set binding : Option ℕ) (bytes : List ℕ) → HaveBytes m input buffers → HaveBytes m input (with_bytes_if buffers set binding bytes)
bytes_stay m input buffers set binding bytes have = record { each = λ id block. by_push id (is_push m id) (have.each id block) }
  where
    by_push : (id : ℕ) (b : Bool) → HasBytes (if b then input.push else bytes_if buffers (number_on m decoration.DESCRIPTOR_SET id) (number_on m decoration.BINDING id))
        → HasBytes (if b then input.push else bytes_if (with_bytes_if buffers set binding bytes) (number_on m decoration.DESCRIPTOR_SET id) (number_on m decoration.BINDING id))
    by_push id true has = has
    by_push id false has = still_given buffers set binding bytes (number_on m decoration.DESCRIPTOR_SET id) (number_on m decoration.BINDING id) has

-- a state with other values of as many variables
variables_stay : (m : Module) (input : Input) (state : State) (variables : List Value) → length variables ≡ length state.variables → Good m input state → Good m input (record state { variables = variables })
variables_stay m input state variables same good = record {
  bytes = good.bytes;
  returned = good.returned;
  runs = subst (λ n. Runs m n good.returned state.rest state.body state.own state.ids) (sym same) good.runs;
  waiting = subst (λ n. WaitEach m n good.returned state.waiting) (sym same) good.waiting;
  enough = subst (λ n. length (value_variables m) ≤ n) (sym same) good.enough;
}

pub fine_storing : (m : Module) (input : Input) (state : State) → Good m input state → (to : Pointer) (v : Value) → LeadsSomewhere m (length state.variables) to → Fine m input (storing m input state to v Going)
fine_storing m input state good (InBlock variable offset pointee) v leads =
    let b = good.bytes.each variable leads.0 in
    subst (λ o. Fine m input (on o (λ them. Going (with_block m state variable (put_words offset (components_in v) them))))) (sym b.is)
    (record {
      bytes = bytes_stay m input state.buffers (number_on m decoration.DESCRIPTOR_SET variable) (number_on m decoration.BINDING variable) (put_words offset (components_in v) b.it) good.bytes;
      returned = good.returned;
      runs = good.runs;
      waiting = good.waiting;
      enough = good.enough;
    })
fine_storing m input state good (InVariable number path) v leads =
    let old = there state.variables number leads in
    subst (λ o. Fine m input (on o (λ old. Going (with_variable state number (with_value_at old path v))))) (sym old.1)
    (variables_stay m input state (set state.variables number (with_value_at old.0 path v)) (length-set state.variables number (with_value_at old.0 path v)) good)
