-- What a module does on an input, one instruction after the other (SPIR-V 1.0, 2.3 and 2.4).
use Rattle.std.specs.Prelude.{ℕ, zero, suc, List, [], ◌∷◌, map, Option, Some, None}
use Rattle.gsl_base.specs.declared.input.Input.{Input}
use Rattle.gsl_words.specs.declared.module.Module.{Module}
use Rattle.gsl_valid.specs.Instruction.{read}
use Rattle.gsl_valid.specs.Kinds.{Kind, Asks, Imports, Sets, Enters, Modes, Debugs, Decorates, Declares, Fixes, Holds, Begins, Takes, Calls, Gives, Does, Opens, Merges, Leaves, Ended as LastOne, Absent, kind}
use Rattle.gsl_valid.specs.Placed.{Code, Placed}
use Rattle.gsl_machine.specs.Functions.{entered, function_at}
use Rattle.gsl_machine.specs.Interfaces.{globals, value_variables, variable_begins}
use Rattle.gsl_machine.specs.State.{Outcome, Going, Ended, Strayed, Stuck, State, on}
use Rattle.gsl_machine.specs.Steps.{act}

-- ---- one instruction

abbrev pub step_on : Module → Input → State → List Placed → Outcome
step_on m input state [] = Stuck
step_on m input state (p ∷ rest) = on (read p.instr) (act m input p.at (record state { rest = rest }))

-- the first of the instructions still to come; each counts as one, labels and merges too
abbrev pub step : Module → Input → State → Outcome
step m input state = step_on m input state state.rest

-- goes on where the run goes on
abbrev pub behind : Outcome → (State → Outcome) → Outcome
behind (Going state) go = go state
behind (Ended output) go = Ended output
behind (Strayed place) go = Strayed place
behind Stuck go = Stuck

-- so many instructions from a state on
abbrev pub run : Module → Input → ℕ → State → Outcome
run m input zero state = Going state
run m input (suc count) state = behind (step m input state) (run m input count)

-- ---- the entry

-- the function that an entry point names
abbrev pub entry_in : Kind → Option ℕ
entry_in Asks = None
entry_in Imports = None
entry_in Sets = None
entry_in (Enters model function name interface) = Some function
entry_in (Modes function mode parts) = None
entry_in Debugs = None
entry_in (Decorates d) = None
entry_in (Declares shape) = None
entry_in (Fixes type value) = None
entry_in (Holds v) = None
entry_in (Begins type id function_type) = None
entry_in (Takes type) = None
entry_in (Calls type function arguments) = None
entry_in (Gives type) = None
entry_in Does = None
entry_in Opens = None
entry_in Merges = None
entry_in Leaves = None
entry_in LastOne = None
entry_in Absent = None

abbrev pub or_else : Option ℕ → Option ℕ → Option ℕ
or_else (Some id) later = Some id
or_else None later = later

abbrev pub entry_of : Code → Option ℕ
entry_of [] = None
entry_of (i ∷ code) = or_else (entry_in (kind (read i))) (entry_of code)

-- the module's variables alone, with nothing to come
abbrev pub before_entry : Module → Input → State
before_entry m input = record {
  rest = [];
  body = [];
  ids = globals m;
  own = globals m;
  variables = map (variable_begins m input) (value_variables m);
  buffers = input.buffers;
  choices = input.choices;
  waiting = [];
}

abbrev pub entering : Module → Input → Option (List Placed) → State
entering m input None = before_entry m input
entering m input (Some body) = entered m (globals m) body [] [] (before_entry m input)

abbrev pub entry_body : Module → Option ℕ → Option (List Placed)
entry_body m None = None
entry_body m (Some function) = function_at m function

-- the state before the first instruction, which is the first label of the function that the entry point names
unfoldable pub start : Module → Input → State
start m input = entering m input (entry_body m (entry_of m.instrs))

-- the module on an input, after so many instructions
unfoldable pub after : Module → ℕ → Input → Outcome
after m count input = run m input count (start m input)
