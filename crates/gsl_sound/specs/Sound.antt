-- States from which a run of a valid module is never stuck.
use Rattle.std.specs.Prelude.{◌≡◌, ℕ, ◌≤◌, ◌⊎◌, true, List, [], ◌∷◌, length, Some, Ok}
use Rattle.gsl_base.specs.declared.input.Input.{Input}
use Rattle.gsl_words.specs.declared.module.Instr.{Instr}
use Rattle.gsl_words.specs.declared.module.Module.{Module}
use Rattle.gsl_valid.specs.FunctionRules.{in_block}
use Rattle.gsl_valid.specs.Ids.{result}
use Rattle.gsl_valid.specs.Instruction.{read}
use Rattle.gsl_valid.specs.Kinds.{Calls, kind}
use Rattle.gsl_valid.specs.Placed.{Code, Placed}
use Rattle.gsl_valid.specs.Types.{defined_as}
use Rattle.gsl_valid.specs.Valid.{Valid}
use Rattle.gsl_valid.specs.Where.{where_at}
use Rattle.gsl_machine.specs.Fits.{fits}
use Rattle.gsl_machine.specs.Interfaces.{value_variables}
use Rattle.gsl_machine.specs.Machine.{after}
use Rattle.gsl_machine.specs.State.{Ended, Going, Ids, Outcome, State, Strayed, Stuck, Waiting}
use Rattle.gsl_sound_ids.specs.Held.{HaveBytes, Agrees}
use Rattle.gsl_sound_code.specs.Spots.{AtLabel, Spot, bare}

-- In a body of a function that returns this type, behind these instructions, ids stand for what they are to stand for; or a block begins.
abbrev pub Now : Module → ℕ → List Placed → Code → List Placed → Ids → Type 0
Now m count body before rest ids = ((in_block (where_at m before).standing ≡ true) × Agrees m count (bare body) (where_at m before).block ids) ⊎ AtLabel rest

-- A function runs, with so many variables.
pub record Runs (m : Module) (count returned : ℕ) (rest body : List Placed) (own ids : Ids) : Type 0 where
  pub start : Code
  pub first : Spot m body returned start body
  pub lasting : Agrees m count (bare body) [] own
  pub before : Code
  pub spot : Spot m body returned before rest
  pub now : Now m count body before rest ids

-- A call waits for the value of a function that returns a type, in one that returns another.
pub record Waits (m : Module) (returned outer : ℕ) (call : Waiting) : Type 0 where
  pub start : Code
  pub first : Spot m call.body outer start call.body
  pub lasting : Agrees m call.count (bare call.body) [] call.own
  pub before : Code
  pub instr : Instr
  pub function : ℕ
  pub arguments : List ℕ
  pub is : kind (read instr) ≡ Calls returned function arguments
  pub gives : result (read instr) ≡ Some call.result
  pub own : defined_as m call.result ≡ read instr
  pub spot : Spot m call.body outer (instr ∷ before) call.rest
  pub ids : Agrees m call.count (bare call.body) (where_at m before).block call.ids

-- Each of the calls that wait, the last first, does so for a function that returns this type, where there are so many variables.
abbrev pub WaitEach : Module → ℕ → ℕ → List Waiting → Type 0
WaitEach m count returned [] = Unit {0}
WaitEach m count returned (call ∷ calls) =
    (outer : ℕ) × Waits m returned outer call × (length (value_variables m) ≤ call.count) × (call.count ≤ count) × WaitEach m call.count outer calls

pub record Good (m : Module) (input : Input) (state : State) : Type 0 where
  pub bytes : HaveBytes m input state.buffers
  pub returned : ℕ
  pub runs : Runs m (length state.variables) returned state.rest state.body state.own state.ids
  pub waiting : WaitEach m (length state.variables) returned state.waiting
  -- those of the module stand first
  pub enough : length (value_variables m) ≤ length state.variables

-- A run did not get stuck, and where it goes on it does not.
abbrev pub Fine : Module → Input → Outcome → Type 0
Fine m input (Going state) = Good m input state
Fine m input (Ended output) = Unit {0}
Fine m input (Strayed place) = Unit {0}
Fine m input Stuck = ⊥

-- A run of a valid module on an input that fits it is never stuck: after any count of instructions it goes on, ended or strayed.
abbrev pub IsNeverStuck : Module → Input → Type 0
IsNeverStuck m input = Valid m → fits m input ≡ Ok tt → (count : ℕ) → after m count input ≡ Stuck → ⊥
