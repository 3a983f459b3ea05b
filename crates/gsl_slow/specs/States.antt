-- How the slow program of a module stands for the states of its run.
use Rattle.std.specs.Prelude.{◌≡◌, ℕ, Bool, true, false, List, [], ◌∷◌, length, drop, Option, Some, None, option_and_then, position}
use Rattle.gsl_base.specs.declared.input.Buffer.{Buffer}
use Rattle.gsl_instr.specs.declared.enumerant.decoration.TheConstants as decoration
use Rattle.gsl_slow.specs.declared.machine.SlowPointer.{SlowPointer}
use Rattle.gsl_slow.specs.declared.machine.SlowValue.{SlowValue}
use Rattle.gsl_slow.specs.declared.machine.SlowValue.TheVariants as value
use Rattle.gsl_slow.specs.declared.machine.Entry.{Entry}
use Rattle.gsl_slow.specs.declared.machine.SlowMachine.{SlowMachine}
use Rattle.gsl_slow.specs.declared.machine.SlowAction.{SlowAction}
use Rattle.gsl_slow.specs.declared.machine.SlowAction.TheVariants as action
use Rattle.gsl_slow.specs.declared.machine.Stepped.{Stepped}
use Rattle.gsl_slow.specs.declared.machine.Stepped.TheVariants as stepped
use Rattle.gsl_slow.specs.declared.machine.Stopped.{Stopped}
use Rattle.gsl_slow.specs.declared.machine.Stopped.TheVariants as stopped
use Rattle.gsl_slow.specs.declared.machine.SlowRun.{SlowRun}
use Rattle.gsl_slow.specs.declared.machine.SlowRun.TheVariants as run
use Rattle.gsl_slow.specs.declared.machine.Walked.{Walked}
use Rattle.gsl_slow.specs.declared.machine.Walked.TheVariants as walked
use Rattle.gsl_cmd.specs.Lowering.{Code}
use Rattle.gsl_cmd.specs.Buffers.{is_at}
use Rattle.gsl_cmd.specs.Sections.{decoration_of}
use Rattle.gsl_cmd.specs.Machine.{Pointer, Value, Word, Points, Ids, give, globals, Action, State, Outcome}
use Rattle.gsl_cmd.specs.Machine as machine

-- a pointer of the slow program, and a value
abbrev pub pointer_of : SlowPointer → Pointer
pointer_of p = record { variable = p.variable; offset = p.offset; pointee = p.pointee }

abbrev pub value_of : SlowValue → Value
value_of (value.Word word) = Word word
value_of (value.Points to) = Points (pointer_of to)

-- the ids of a list of values that were given, the last one first
abbrev pub ids_of : Code → List Entry → Ids
ids_of code [] = globals code
ids_of code (entry ∷ entries) = give (ids_of code entries) entry.id (value_of entry.value)

-- what follows where indexes led
abbrev pub walked_outcome : ℕ → (Pointer → Outcome) → Walked → Outcome
walked_outcome place go (walked.Reached to) = go (pointer_of to)
walked_outcome place go walked.Strayed = machine.Strayed place
walked_outcome place go walked.Stuck = machine.Stuck

-- the word, or the pointer, that an id stands for
abbrev pub word_in : Option Value → Option ℕ
word_in None = None
word_in (Some (Word word)) = Some word
word_in (Some (Points to)) = None

abbrev pub pointer_in : Option Value → Option Pointer
pointer_in None = None
pointer_in (Some (Word word)) = None
pointer_in (Some (Points to)) = Some to

-- the place of a variable's buffer among the buffers
abbrev pub buffer_place : Code → List Buffer → ℕ → Option ℕ
buffer_place code buffers variable =
    option_and_then (λ set. option_and_then (λ binding. position (is_at set binding) buffers) (decoration_of code variable decoration.BINDING))
    (decoration_of code variable decoration.DESCRIPTOR_SET)

-- the state of `main` for which the slow program stands
abbrev pub state_of : Code → List ℕ → SlowMachine → State
state_of code choices m =
    record { rest = drop m.at code; ids = ids_of code m.entries.items; buffers = m.buffers.items; choices = choices; waiting = [] }

-- an instruction of the slow program
abbrev pub action_in : SlowAction → Action
action_in action.Label = machine.Label
action_in (action.AccessChain result base indexes) = machine.AccessChain result base indexes.now
action_in (action.Load result pointer) = machine.Load result pointer
action_in (action.Add result left right) = machine.Add result left right
action_in (action.Store pointer value) = machine.Store pointer value
action_in action.Return = machine.Return
action_in action.Unknown = machine.Unknown

-- what an instruction at a place came to, where this is the state behind it
abbrev pub stepped_outcome : ℕ → Stepped → State → Outcome
stepped_outcome place stepped.Going s = machine.Going s
stepped_outcome place stepped.Ended s = machine.Ended (record { buffers = s.buffers; outs = []; killed = false; rest = length s.choices })
stepped_outcome place stepped.Strayed s = machine.Strayed place
stepped_outcome place stepped.Stuck s = machine.Stuck

-- a write that was done left these buffers
abbrev pub written_outcome : Bool → (List Buffer → Outcome) → List Buffer → Outcome
written_outcome true go buffers = go buffers
written_outcome false go buffers = machine.Stuck

-- what a run came to, where this is its last state
abbrev pub stopped_outcome : Stopped → State → Outcome
stopped_outcome stopped.Going s = machine.Going s
stopped_outcome stopped.Ended s = machine.Ended (record { buffers = s.buffers; outs = []; killed = false; rest = length s.choices })
stopped_outcome (stopped.Strayed place) s = machine.Strayed place
stopped_outcome stopped.Stuck s = machine.Stuck

-- The slow program's answer is this outcome.
abbrev pub IsOutcome : SlowRun → Outcome → Type 0
IsOutcome run.Going outcome = (s : State) × (outcome ≡ machine.Going s)
IsOutcome (run.Ended output) outcome = outcome ≡ machine.Ended output
IsOutcome (run.Strayed place) outcome = outcome ≡ machine.Strayed place
IsOutcome run.Stuck outcome = outcome ≡ machine.Stuck
