-- An instruction gives an id of its block a value: its words stand in the slots at the id's place.
use Rattle.std.proofs.Common.{◌≡◌, sym, ap, ◌∙◌, subst, ℕ, ◌+◌, ◌≤◌, true, List, ◌∷◌, length, map, take, Some, arith}
use Rattle.std.specs.List.{AllByRecursion}
use Rattle.gsl_base.specs.declared.input.Input.{Input}
use Rattle.gsl_instr.specs.declared.instruction.Instruction.{Instruction}
use Rattle.gsl_instr.specs.Instructions as table
use Rattle.gsl_words.specs.declared.module.Module.{Module}
use Rattle.gsl_values.specs.declared.value.Value.{Value}
use Rattle.gsl_valid.specs.Ids.{result}
use Rattle.gsl_valid.specs.Instruction.{read}
use Rattle.gsl_valid.specs.Kinds.{Gives, kind, kind_of}
use Rattle.gsl_valid.specs.Placed.{Code, Placed}
use Rattle.gsl_machine.specs.Machine.{step, step_on}
use Rattle.gsl_machine.specs.State.{Held, State, Whole, give, on}
use Rattle.gsl_machine.specs.Steps.{act}
use Rattle.gsl_region.specs.Flat.{flat}
use Rattle.gsl_region.specs.Showing.{with_words}
use Rattle.gsl_slots.proofs.Held.{front_of}
use Rattle.gsl_frames.specs.declared.taken.Taken.{Taken}
use Rattle.gsl_frames.specs.Frames.{frame, held_words, place, sum, taken_in, variable_words}
use Rattle.gsl_frames.specs.Taken.{taken_by}
use Rattle.gsl_leaves.specs.Table.{most}
use Rattle.gsl_sound.specs.Sound.{Good}
use Rattle.gsl_sound_code.specs.Rules.{Keeps}
use Rattle.gsl_sound_code.specs.Spots.{Spot}
use Rattle.gsl_sound_code.proofs.Looks.{Kept}
use Rattle.gsl_sound_code.proofs.Walks.{step_of}
use Rattle.gsl_sound_types.specs.Typed.{IsOfType, Typed, types_in}
use Rattle.gsl_sound_types.proofs.Holding.{value_of_type}
use Rattle.gsl_sound_values.specs.Shaped.{is_shaped}
use Rattle.gsl_shown.specs.Shown.{Shows, held_as}
use Rattle.gsl_kinds.specs.Runtimes.{front}
use Rattle.gsl_shown.proofs.Bounds.{bounded_in, grows}
use Rattle.gsl_shown.proofs.Counted.{held_counted}
use Rattle.gsl_shown.proofs.Places.{stays_in}
use Rattle.gsl_shown.proofs.Giving.{given_shown, length_with, place_is, room}
use Rattle.gsl_operands.specs.Operands.{constants}
use Rattle.gsl_step.specs.Machine.{IsShown, Leads, Puts, stood}
use Rattle.gsl_step.specs.declared.machine.Machine.{Machine}
use Rattle.gsl_step.specs.declared.standing.Standing.{Standing}
use Rattle.gsl_step.proofs.Operands.{Top}

-- what the next instruction does is the step
pub next_step : (m : Module) (input : Input) (state : State) (next : Machine) (p : Placed) (more : List Placed) (d : Instruction) → state.rest ≡ p ∷ more → read p.instr ≡ Some d → Leads m next (act m input p.at (record state { rest = more }) d)
    → Leads m next (step m input state)
next_step m input state next p more d comes reads leads =
    subst (λ l. Leads m next (step_on m input state l)) (sym comes) (subst (λ o. Leads m next (on o (act m input p.at (record state { rest = more })))) (sym reads) leads)

-- it keeps the rules
pub rules_kept : (m : Module) (kept : Kept m) (input : Input) (state : State) (good : Good m input state) (p : Placed) (more : List Placed) → state.rest ≡ p ∷ more → (code : Code) × Keeps m good.runs.before p.instr code
rules_kept m kept input state good p more comes =
    let s = step_of m kept state.body good.returned good.runs.before p more (subst (Spot m state.body good.returned good.runs.before) comes good.runs.spot) in (s.code, s.keeps)

module _ (m : Module) (kept : Kept m) (input : Input) (machine : Machine) (state : State) (good : Good m input state) (typed : Typed m state) (shown : IsShown m machine state) where
  -- what is held ends within what the function takes
  pub top_within : Top m kept input machine state typed shown ≤ machine.standing.slots + (frame m state.body).most
  top_within =
      let t = taken_in m (front m machine.standing.at) in
      let all = stays_in m kept state.body good.returned good.runs.before state.rest good.runs.spot in
      let grown = grows m state.rest t all in
      let low = (bounded_in m (front m machine.standing.at)).top in
      let same : (taken_by sum (held_words m) (variable_words m) state.rest t).most ≡ (frame m state.body).most =
      ap (λ l. (taken_by sum (held_words m) (variable_words m) l t).most) shown.shows.rest ∙ ap (λ (x : Taken). x.most) shown.shows.ids.in_all in
      omega (arith, grown, low, same)

  -- and among the slots
  pub end_there : Top m kept input machine state typed shown ≤ length machine.slots
  end_there = let top = top_within in let room = shown.shows.ids.room in omega (arith, top, room)

module _ (m : Module) (kept : Kept m) (input : Input) (machine : Machine) (state : State) (good : Good m input state) (typed : Typed m state) (shown : IsShown m machine state) (p : Placed) (more : List Placed) (comes : state.rest ≡ p ∷ more) (d : Instruction)
    (reads : read p.instr ≡ Some d) (id type : ℕ) (gives : kind_of d ≡ Gives type) (result_is : table.result_of d ≡ Some id) where
  abbrev pub At : ℕ
  At = machine.standing.slots + place m id

  kind_is : kind (read p.instr) ≡ Gives type
  kind_is = ap kind reads ∙ gives

  own : result (read p.instr) ≡ Some id
  own = ap result reads ∙ result_is

  -- what is held is of the type
  module _ (held : Held) (later : List ℕ) (of : IsOfType m (types_in m state) type held) where
    abbrev Words : List ℕ
    Words = held_as m (types_in m state) held

    size : length Words ≡ held_words m type
    size = held_counted m kept (types_in m state) type held of

    -- it is given at the end of what is held
    pub held_at_top : At ≡ Top m kept input machine state typed shown
    held_at_top = ap (λ n. machine.standing.slots + n)
        (place_is m kept input (stood machine.standing) (map stood machine.callers) machine.slots machine.words machine.buffers machine.choices later state good shown.shows p more comes id type held kind_is own size)

    pub held_room : At + length Words ≤ length machine.slots
    held_room =
        let there = room m kept input (stood machine.standing) (map stood machine.callers) machine.slots machine.words machine.buffers machine.choices later state good shown.shows p more comes id type held kind_is own size in
        let at = held_at_top in omega (arith, there, at)

    abbrev Then : State
    Then = record state { rest = more; ids = give state.ids id held; choices = later }

    pub gives_held : (words : List ℕ) → Words ≡ words → (next : Machine) → Puts machine At words later next → IsShown m next Then
    gives_held words is next puts =
        let slots_are : next.slots ≡ with_words machine.slots At Words = puts.slots ∙ ap (with_words machine.slots At) (sym is) in
        let there = held_room in
        let low = shown.behind.0 in
        let places = shown.places in
        let long = length_with machine.slots Words At there in
        let given = given_shown m kept input (stood machine.standing) (map stood machine.callers) machine.slots machine.words machine.buffers machine.choices later state good shown.shows p more comes id type held kind_is own size in
        record {
          shows = subst (λ f. Shows m f (map stood next.callers) next.slots next.words next.buffers next.choices Then) (ap stood (sym puts.standing))
              (subst (λ l. Shows m (stood (record machine.standing { at = machine.standing.at + 1 })) (map stood l) next.slots next.words next.buffers next.choices Then) (sym puts.callers)
              (subst (λ l. Shows m (stood (record machine.standing { at = machine.standing.at + 1 })) (map stood machine.callers) l next.words next.buffers next.choices Then) (sym slots_are)
              (subst (λ l. Shows m (stood (record machine.standing { at = machine.standing.at + 1 })) (map stood machine.callers) (with_words machine.slots At Words) l next.buffers next.choices Then) (sym puts.variables)
              (subst (λ l. Shows m (stood (record machine.standing { at = machine.standing.at + 1 })) (map stood machine.callers) (with_words machine.slots At Words) machine.words l next.choices Then) (sym puts.buffers)
              (subst (λ l. Shows m (stood (record machine.standing { at = machine.standing.at + 1 })) (map stood machine.callers) (with_words machine.slots At Words) machine.words machine.buffers l Then) (sym puts.left) given)))));
          constants_are = ap (take (length (constants m))) slots_are ∙ front_of machine.slots Words 0 (length (constants m)) At (omega (arith, low)) (omega (arith, there)) ∙ shown.constants_are;
          behind = (subst (λ (f : Standing). length (constants m) ≤ f.slots) (sym puts.standing) low, subst (AllByRecursion (λ (f : Standing). length (constants m) ≤ f.slots)) (sym puts.callers) shown.behind.1);
          places = let same = ap length slots_are in omega (arith, same, long, places);
          reach = subst (λ (l : List ℕ). length l ≤ most) (sym puts.variables) shown.reach;
          numbers = shown.numbers;
        }

  -- a value of the shape of the type
  module _ (v : Value) (later : List ℕ) (shaped : is_shaped m type v ≡ true) where
    of_value : IsOfType m (types_in m state) type (Whole v)
    of_value = value_of_type m kept (types_in m state) type v shaped

    pub at_top : At ≡ Top m kept input machine state typed shown
    at_top = held_at_top (Whole v) later of_value

    pub room_there : At + length (flat v) ≤ length machine.slots
    room_there = held_room (Whole v) later of_value

    abbrev Given : State
    Given = record state { rest = more; ids = give state.ids id (Whole v); choices = later }

    pub gives_words : (words : List ℕ) → flat v ≡ words → (next : Machine) → Puts machine At words later next → IsShown m next Given
    gives_words = gives_held (Whole v) later of_value
