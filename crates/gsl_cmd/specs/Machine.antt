-- What a module does, one instruction after the other (SPIR-V 1.0, 2.3 and 3.32).
use Rattle.std.specs.Prelude.{ℕ, zero, suc, ◌+◌, ◌-◌, true, false, ◌==◌, ◌&&◌, nat_lt, if◌then◌else◌, List, [], ◌∷◌, length, slice_index, Option, Some, None, option_and_then, option_map}
use Rattle.gsl_base.specs.declared.input.Buffer.{Buffer}
use Rattle.gsl_base.specs.declared.input.Input.{Input}
use Rattle.gsl_base.specs.declared.input.Output.{Output}
use Rattle.gsl_words.specs.declared.module.Instr.{Instr}
use Rattle.gsl_words.specs.declared.module.Module.{Module}
use Rattle.gsl_instr.specs.declared.op.TheConstants as op
use Rattle.gsl_instr.specs.declared.enumerant.decoration.TheConstants as decoration
use Rattle.gsl_words.specs.Instructions.{word_count}
use Rattle.gsl_cmd.specs.Lowering.{Code}
use Rattle.gsl_cmd.specs.Words.{word_sum}
use Rattle.gsl_words.specs.Words.{word_at, put_word}
use Rattle.gsl_cmd.specs.Buffers.{bytes_at, with_bytes}
use Rattle.gsl_cmd.specs.Sections.{operand, decoration_of, member_decoration_of, is_int, members_of, pointee_of, constant_of, variable_type_of}

-- A pointer: the variable that it points into, how many bytes from its start, and the type of what is there.
pub record Pointer : Type 0 where
  pub variable : ℕ
  pub offset : ℕ
  pub pointee : ℕ

-- What an id stands for.
pub data Value : Type 0 where
  Word : (word : ℕ) → Value
  Points : (to : Pointer) → Value

-- the values of ids, where they have one
abbrev pub Ids : Type 0
Ids = ℕ → Option Value

-- the ids with this value for one of them
abbrev pub give : Ids → ℕ → Value → Ids
give ids id value other = if other == id then Some value else ids other

-- a constant is its word, and a variable points to the start of what it holds
abbrev pub global_of : Code → ℕ → Option ℕ → Option Value
global_of code id (Some word) = Some (Word word)
global_of code id None =
    option_map (λ pointee. Points (record { variable = id; offset = 0; pointee = pointee })) (option_and_then (pointee_of code) (variable_type_of code id))

-- the ids that the module's constants and variables give
abbrev pub globals : Code → Ids
globals code id = global_of code id (constant_of code id)

-- A call that waits for a function's return: what is to come behind it, and its ids.
pub record Waiting : Type 0 where
  pub rest : Code
  pub ids : Ids

-- The code that is still to come, the values of ids, the buffers, the choices that are left, and the calls that wait.
pub record State : Type 0 where
  pub rest : Code
  pub ids : Ids
  pub buffers : List Buffer
  pub choices : List ℕ
  pub waiting : List Waiting

-- What a run comes to. It strays at the first word of an instruction, and is stuck where no meaning is given.
pub data Outcome : Type 0 where
  Going : (s : State) → Outcome
  Ended : (output : Output) → Outcome
  Strayed : (place : ℕ) → Outcome
  Stuck : Outcome

-- goes on with what has to be there
abbrev pub on : {A : Type 0} → Option A → (A → Outcome) → Outcome
on None go = Stuck
on (Some x) go = go x

-- goes on with a word
abbrev pub on_word : Option Value → (ℕ → Outcome) → Outcome
on_word None go = Stuck
on_word (Some (Word word)) go = go word
on_word (Some (Points to)) go = Stuck

-- goes on with a pointer
abbrev pub on_pointer : Option Value → (Pointer → Outcome) → Outcome
on_pointer None go = Stuck
on_pointer (Some (Word word)) go = Stuck
on_pointer (Some (Points to)) go = go to

-- An instruction with its operands.
pub data Action : Type 0 where
  Label : Action
  AccessChain : (result base : ℕ) (indexes : List ℕ) → Action
  Load : (result pointer : ℕ) → Action
  Add : (result left right : ℕ) → Action
  Store : (pointer value : ℕ) → Action
  Return : Action
  Unknown : Action

-- type, result, base and indexes
abbrev pub access_chain : List ℕ → Action
access_chain (type ∷ result ∷ base ∷ indexes) = AccessChain result base indexes
access_chain _ = Unknown

-- type, result and pointer
abbrev pub load : List ℕ → Action
load (type ∷ result ∷ pointer ∷ []) = Load result pointer
load _ = Unknown

-- type, result and the two operands
abbrev pub add : List ℕ → Action
add (type ∷ result ∷ left ∷ right ∷ []) = Add result left right
add _ = Unknown

-- pointer and value
abbrev pub store : List ℕ → Action
store (pointer ∷ value ∷ []) = Store pointer value
store _ = Unknown

-- what an instruction asks for
abbrev pub action_of : Instr → Action
action_of i =
    if i.op == op.LABEL then Label
    else if i.op == op.ACCESS_CHAIN then access_chain i.args
    else if i.op == op.LOAD then load i.args
    else if i.op == op.I_ADD then add i.args
    else if i.op == op.STORE then store i.args
    else if i.op == op.RETURN then Return
    else Unknown

module _ (code : Code) where
  -- the member of a struct behind a pointer: an index that is not below the count of members strays
  abbrev pub into_struct : ℕ → Pointer → ℕ → (Pointer → Outcome) → List ℕ → Outcome
  into_struct place from index go members =
      if nat_lt index (length members)
      then on (member_decoration_of code from.pointee index decoration.OFFSET) (λ offset. go (record { variable = from.variable; offset = from.offset + offset; pointee = slice_index members index }))
      else Strayed place

  -- what an access chain's indexes lead to from a pointer
  abbrev pub walk : ℕ → Ids → Pointer → List ℕ → (Pointer → Outcome) → Outcome
  walk place ids from [] go = go from
  walk place ids from (index ∷ indexes) go =
      on_word (ids index) (λ word. on (members_of code from.pointee) (into_struct place from word (λ to. walk place ids to indexes go)))

  -- the set and binding of a variable, and the bytes of its buffer
  abbrev pub on_buffer : List Buffer → ℕ → (ℕ → ℕ → List ℕ → Outcome) → Outcome
  on_buffer buffers variable go =
      on (decoration_of code variable decoration.DESCRIPTOR_SET) (λ set.
      on (decoration_of code variable decoration.BINDING) (λ binding. on (bytes_at buffers set binding) (go set binding)))

  -- reads the word behind a pointer
  abbrev pub read : List Buffer → Pointer → (ℕ → Outcome) → Outcome
  read buffers from go =
      if is_int code from.pointee then on_buffer buffers from.variable (λ set binding bytes. go (word_at bytes from.offset)) else Stuck

  -- writes the word behind a pointer
  abbrev pub write : List Buffer → Pointer → ℕ → (List Buffer → Outcome) → Outcome
  write buffers to word go =
      if is_int code to.pointee
      then on_buffer buffers to.variable (λ set binding bytes. go (with_bytes buffers set binding (put_word bytes to.offset word)))
      else Stuck

  -- the return of `main`, or of the function that was called last
  abbrev pub return : State → List Waiting → Outcome
  return s [] = Ended (record { buffers = s.buffers; outs = []; killed = false; rest = length s.choices })
  return s (call ∷ calls) = Going (record s { rest = call.rest; ids = call.ids; waiting = calls })

  -- does an instruction that stands at a place, with the code behind it still to come
  abbrev pub act : ℕ → State → Action → Outcome
  act place s Label = Going s
  act place s (AccessChain result base indexes) =
      on_pointer (s.ids base) (λ from. walk place s.ids from indexes (λ to. Going (record s { ids = give s.ids result (Points to) })))
  act place s (Load result pointer) =
      on_pointer (s.ids pointer) (λ from. read s.buffers from (λ word. Going (record s { ids = give s.ids result (Word word) })))
  act place s (Add result left right) =
      on_word (s.ids left) (λ x. on_word (s.ids right) (λ y. Going (record s { ids = give s.ids result (Word (word_sum x y)) })))
  act place s (Store pointer value) =
      on_pointer (s.ids pointer) (λ to. on_word (s.ids value) (λ word. write s.buffers to word (λ buffers. Going (record s { buffers = buffers }))))
  act place s Return = return s s.waiting
  act place s Unknown = Stuck

-- the count of words of instructions
abbrev pub words_of : Code → ℕ
words_of [] = 0
words_of (i ∷ code) = word_count i + words_of code

-- the first word of the code still to come, in the module's file with its header of five words
abbrev pub place_of : Module → Code → ℕ
place_of m rest = 5 + words_of m.instrs - words_of rest

-- the first instruction of the code still to come
abbrev pub step_on : Module → State → Code → Outcome
step_on m s [] = Stuck
step_on m s (i ∷ rest) = act m.instrs (place_of m (i ∷ rest)) (record s { rest = rest }) (action_of i)

-- one instruction
abbrev pub step : Module → State → Outcome
step m s = step_on m s s.rest

-- goes on where the run goes on
abbrev pub bind : Outcome → (State → Outcome) → Outcome
bind (Going s) go = go s
bind (Ended output) go = Ended output
bind (Strayed place) go = Strayed place
bind Stuck go = Stuck

-- so many instructions from a state on
abbrev pub run : Module → ℕ → State → Outcome
run m zero s = Going s
run m (suc k) s = bind (step m s) (run m k)

-- the code behind a function's first instruction
abbrev pub in_function : ℕ → Code → Code
in_function function [] = []
in_function function (i ∷ code) = if i.op == op.FUNCTION && slice_index i.args 1 == function then code else in_function function code

-- the code from the first label on
abbrev pub from_label : Code → Code
from_label [] = []
from_label (i ∷ code) = if i.op == op.LABEL then i ∷ code else from_label code

-- from the first label of a function on, if it is named
abbrev pub entry_code : Code → Option ℕ → Code
entry_code code None = []
entry_code code (Some function) = from_label (in_function function code)

-- the entry: the first label of the function that the entry point names
abbrev pub entry : Code → Code
entry code = entry_code code (operand 1 op.ENTRY_POINT (λ args. true) code)

-- the state before the first instruction
abbrev pub start : Module → Input → State
start m input = record {
  rest = entry m.instrs;
  ids = globals m.instrs;
  buffers = input.buffers;
  choices = input.choices;
  waiting = [];
}

-- the module on an input, after so many instructions
abbrev pub after : Module → ℕ → Input → Outcome
after m k input = run m k (start m input)
