-- What a module works on while it runs (SPIR-V 1.0, 2.3).
use Rattle.std.specs.Prelude.{ℕ, ◌==◌, if◌then◌else◌, List, Option, Some, None}
use Rattle.gsl_base.specs.declared.input.Buffer.{Buffer}
use Rattle.gsl_base.specs.declared.input.Output.{Output}
use Rattle.gsl_values.specs.declared.value.Value.{Value}
use Rattle.gsl_valid.specs.Placed.{Placed}

-- Where a pointer leads: into the bytes of a block's variable, so many from their start, with the type of what is there; or into one of
-- the variables that run, along the numbers of members, elements and components.
pub data Pointer : Type 0 where
  InBlock : (variable offset pointee : ℕ) → Pointer
  InVariable : (number : ℕ) (path : List ℕ) → Pointer

-- What an id stands for.
pub data Held : Type 0 where
  Whole : (value : Value) → Held
  Points : (to : Pointer) → Held

-- what ids stand for, where they stand for something
abbrev pub Ids : Type 0
Ids = ℕ → Option Held

-- the ids with this for one of them
abbrev pub give : Ids → ℕ → Held → Ids
give ids id held other = if other == id then Some held else ids other

-- A call that waits for the return of a function: the id of its result, the instructions behind it and those of its function, what ids
-- stand for there, those of its function alone, and how many variables there were.
pub record Waiting : Type 0 where
  pub result : ℕ
  pub rest : List Placed
  pub body : List Placed
  pub ids : Ids
  pub own : Ids
  pub count : ℕ

-- The instructions that are still to come and all those of the function, each at its place; what ids stand for, and of those what lasts for
-- the whole function: constants, variables and parameters; the variables, those of the module before those of the functions that
-- run; the buffers, the choices that are left, and the calls that wait, the last first.
pub record State : Type 0 where
  pub rest : List Placed
  pub body : List Placed
  pub ids : Ids
  pub own : Ids
  pub variables : List Value
  pub buffers : List Buffer
  pub choices : List ℕ
  pub waiting : List Waiting

-- What a run comes to. An index strays at the first word of its instruction; where no meaning is given the run is stuck.
pub data Outcome : Type 0 where
  Going : (state : State) → Outcome
  Ended : (output : Output) → Outcome
  Strayed : (place : ℕ) → Outcome
  Stuck : Outcome

-- ---- what has to be there

abbrev pub on : {A : Type 0} → Option A → (A → Outcome) → Outcome
on None go = Stuck
on (Some a) go = go a

abbrev pub on_whole : Option Held → (Value → Outcome) → Outcome
on_whole None go = Stuck
on_whole (Some (Whole value)) go = go value
on_whole (Some (Points to)) go = Stuck

abbrev pub on_pointer : Option Held → (Pointer → Outcome) → Outcome
on_pointer None go = Stuck
on_pointer (Some (Whole value)) go = Stuck
on_pointer (Some (Points to)) go = go to

-- an id gets what it stands for in its block
abbrev pub giving : State → ℕ → Held → Outcome
giving state id held = Going (record state { ids = give state.ids id held })

abbrev pub giving_value : State → ℕ → Value → Outcome
giving_value state id value = giving state id (Whole value)
