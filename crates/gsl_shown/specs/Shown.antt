-- Which words show a state of a run of a valid module.
use Rattle.std.specs.Prelude.{◌≡◌, ℕ, ◌+◌, ◌/◌, ◌%◌, ◌^◌, ◌≤◌, ◌||◌, if◌then◌else◌, List, [], ◌∷◌, ◌++◌, drop, length, None, Some}
use Rattle.std.specs.List.{sum_by}
use Rattle.gsl_base.specs.declared.input.Buffer.{Buffer}
use Rattle.gsl_words.specs.declared.module.Instr.{Instr}
use Rattle.gsl_words.specs.declared.module.Module.{Module}
use Rattle.gsl_valid.specs.CallRules.{takes}
use Rattle.gsl_valid.specs.Ids.{result}
use Rattle.gsl_valid.specs.Instruction.{read}
use Rattle.gsl_valid.specs.Kinds.{Calls, kind}
use Rattle.gsl_valid.specs.LocalityRules.{gives_value}
use Rattle.gsl_valid.specs.Placed.{Placed}
use Rattle.gsl_valid.specs.Types.{defined_as}
use Rattle.gsl_machine.specs.Functions.{variables_of}
use Rattle.gsl_machine.specs.State.{Held, Ids, InBlock, InVariable, Points, State, Waiting, Whole}
use Rattle.gsl_region.specs.Flat.{flat}
use Rattle.gsl_region.specs.Showing.{Shows as ShowsVariables}
use Rattle.gsl_kinds.specs.Runtimes.{front}
use Rattle.gsl_leaves.specs.Leaves.{leaves}
use Rattle.gsl_memory_law.specs.Typed.{place_by}
use Rattle.gsl_positions.specs.Positions.{left}
use Rattle.gsl_slots.specs.Holding.{Holds}
use Rattle.gsl_frames.specs.Frames.{frame, held_words, place, sum, taken_in, variable_words}
use Rattle.gsl_frames.specs.Taken.{nothing_taken, taken_by}
use Rattle.gsl_sound_types.specs.Typed.{types_below, types_of}

-- ---- what ids stand for, in words

-- a count of up to 64 bits, the lower word first
abbrev pub two_words : ℕ → List ℕ
two_words n = n % 2 ^ 32 ∷ n / 2 ^ 32 ∷ []

-- The words of what an id stands for, where the variables have these types: of a value its leaves; of a pointer the variable of a block, or 0, and how many
-- bytes of the block, or how many words of all variables, stand in front of where it leads.
abbrev pub held_as : Module → List ℕ → Held → List ℕ
held_as m types (Whole v) = flat v
held_as m types (Points (InBlock variable offset pointee)) = variable ∷ two_words offset
held_as m types (Points (InVariable number path)) = 0 ∷ two_words (place_by m types number path)

-- what ids stand for that have slots: parameters, and what blocks give
abbrev pub in_slots : Module → Ids → Ids
in_slots m ids id = if takes (kind (defined_as m id)) || gives_value (kind (defined_as m id)) then ids id else None

-- ---- a function

-- Where a function stands: the number of the instruction that is next, or that waits for a call's end, that of the first of its body, and where its slots begin
-- and its variables among the words of all.
pub record Standing : Type 0 where
  pub at : ℕ
  pub body : ℕ
  pub slots : ℕ
  pub variables : ℕ

-- Slots show what ids stand for in a function with these instructions, whose variables stand behind others of these types: what may be used stands
-- below what is taken so far, and what lasts for the function below the end of its parameters; and there is room for all that the function takes.
pub record ShowsIds (m : Module) (below : List ℕ) (f : Standing) (body : List Placed) (slots : List ℕ) (own ids : Ids) : Type 0 where
  pub body_is : body ≡ left m f.body
  -- the function begins there, with nothing taken yet
  pub fresh : taken_in m (front m f.body) ≡ nothing_taken
  pub variables_are : f.variables ≡ sum_by (leaves m) below
  pub room : f.slots + (frame m body).most ≤ length slots
  -- with what is still to come the function takes what it takes in all
  pub in_all : taken_by sum (held_words m) (variable_words m) (left m f.at) (taken_in m (front m f.at)) ≡ frame m body
  pub held : Holds (held_as m (below ++ types_of m (variables_of body))) (λ id. f.slots + place m id) slots (f.slots + (taken_in m (front m f.at)).top) (in_slots m ids)
  pub lasting : Holds (held_as m (below ++ types_of m (variables_of body))) (λ id. f.slots + place m id) slots (f.slots + (taken_in m (front m f.at)).parameters) (in_slots m own)

-- The instruction of a number is a call that gives an id.
pub record IsCall (m : Module) (at id : ℕ) : Type 0 where
  pub instr : Instr
  pub here : drop at m.instrs ≡ instr ∷ drop (at + 1) m.instrs
  pub type : ℕ
  pub function : ℕ
  pub arguments : List ℕ
  pub is : kind (read instr) ≡ Calls type function arguments
  pub gives : result (read instr) ≡ Some id

-- The same of each of the calls that wait, the last first: it goes on behind the call, and the slots of the function that was called begin behind all
-- that the caller takes.
abbrev pub ShowsEach : Module → List ℕ → ℕ → List Standing → List Waiting → Type 0
ShowsEach m slots first [] [] = Unit {0}
ShowsEach m slots first [] (call ∷ calls) = ⊥
ShowsEach m slots first (f ∷ callers) [] = ⊥
ShowsEach m slots first (f ∷ callers) (call ∷ calls) =
    IsCall m f.at call.result × (call.rest ≡ left m (f.at + 1)) × (first ≡ f.slots + (frame m call.body).most) × (f.slots + (taken_in m (front m f.at)).top ≤ first) × ShowsIds m (types_below m calls) f call.body slots call.own call.ids
    × ShowsEach m slots f.slots callers calls

-- ---- a state

-- Words, slots, buffers and choices show a state: where its functions stand, the one that runs and those that wait, the last first; the words of its
-- variables, in front of any others; what ids stand for; and the buffers and the choices that are left as they are.
pub record Shows (m : Module) (f : Standing) (callers : List Standing) (slots words : List ℕ) (buffers : List Buffer) (choices : List ℕ) (state : State) : Type 0 where
  pub rest : state.rest ≡ left m f.at
  pub ids : ShowsIds m (types_below m state.waiting) f state.body slots state.own state.ids
  pub variables : ShowsVariables words state.variables
  pub waiting : ShowsEach m slots f.slots callers state.waiting
  pub buffers_are : buffers ≡ state.buffers
  pub choices_are : choices ≡ state.choices
