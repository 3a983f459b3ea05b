-- Functions, their blocks and their variables: what calls and branches lead to (SPIR-V 1.0, 3.32.9 and 3.32.17).
use Rattle.std.specs.Prelude.{ℕ, ◌+◌, ◌==◌, ◌&&◌, if◌then◌else◌, List, [], ◌∷◌, ◌++◌, length, take, map, Option, Some, None}
use Rattle.std.specs.List.{filter_map}
use Rattle.gsl_instr.specs.declared.op.TheConstants as op
use Rattle.gsl_words.specs.declared.module.Module.{Module}
use Rattle.gsl_values.specs.declared.value.Value.{Value}
use Rattle.gsl_valid.specs.Ids.{defines, result}
use Rattle.gsl_valid.specs.Instruction.{read}
use Rattle.gsl_valid.specs.Kinds.{Variable, variable_is}
use Rattle.gsl_valid.specs.Placed.{Placed, placed}
use Rattle.gsl_valid.specs.DecorationRules.{pointee}
use Rattle.gsl_machine.specs.Constants.{constant, zeros}
use Rattle.gsl_machine.specs.State.{Held, Ids, InVariable, Points, State, Waiting, give}

-- ---- the instructions of a function

-- those up to the end of a function
abbrev pub up_to_end : List Placed → List Placed
up_to_end [] = []
up_to_end (p ∷ code) = if p.instr.op == op.FUNCTION_END then p ∷ [] else p ∷ up_to_end code

-- those behind the first of the function of an id
abbrev pub function_in : List Placed → ℕ → Option (List Placed)
function_in [] id = None
function_in (p ∷ code) id = if p.instr.op == op.FUNCTION && defines p.instr id then Some (up_to_end code) else function_in code id

abbrev pub function_at : Module → ℕ → Option (List Placed)
function_at m id = function_in (placed m) id

-- those from the first label on
abbrev pub from_first_label : List Placed → List Placed
from_first_label [] = []
from_first_label (p ∷ code) = if p.instr.op == op.LABEL then p ∷ code else from_first_label code

-- those from the label of an id on
abbrev pub from_label : List Placed → ℕ → Option (List Placed)
from_label [] id = None
from_label (p ∷ code) id = if p.instr.op == op.LABEL && defines p.instr id then Some (p ∷ code) else from_label code id

-- the ids of its parameters
abbrev pub parameter_of : Placed → Option ℕ
parameter_of p = if p.instr.op == op.FUNCTION_PARAMETER then result (read p.instr) else None

abbrev pub parameters_of : List Placed → List ℕ
parameters_of body = filter_map parameter_of body

-- its variables
abbrev pub variables_of : List Placed → List Variable
variables_of body = filter_map (λ p. variable_is (read p.instr)) body

-- ---- what variables begin as

-- an initialiser is a constant; a variable without one begins as zeros
abbrev pub initial : Module → Variable → List ℕ → Value
initial m v [] = zeros m (pointee m v.type)
initial m v (id ∷ ids) = constant m id

abbrev pub begins_as : Module → Variable → Value
begins_as m v = initial m v v.initialiser

-- ---- a function begins

-- ids that stand for what is given, in their order
abbrev pub give_each : Ids → List ℕ → List Held → Ids
give_each ids [] held = ids
give_each ids (id ∷ more) [] = ids
give_each ids (id ∷ more) (held ∷ rest) = give_each (give ids id held) more rest

-- ids of variables that point to them, numbered from one on
abbrev pub point_each : Ids → ℕ → List Variable → Ids
point_each ids number [] = ids
point_each ids number (v ∷ variables) = point_each (give ids v.id (Points (InVariable number []))) (number + 1) variables

-- What ids stand for in a function, beside constants and the module's variables: its parameters for the arguments, and its variables,
-- which stand behind those that are there.
abbrev pub own_ids : Ids → List Placed → List Held → ℕ → Ids
own_ids globals body arguments count = point_each (give_each globals (parameters_of body) arguments) count (variables_of body)

-- a function begins at its first label; its variables begin as their initialisers
abbrev pub entered : Module → Ids → List Placed → List Held → List Waiting → State → State
entered m globals body arguments waiting state = record state {
  rest = from_first_label body;
  body = body;
  ids = own_ids globals body arguments (length state.variables);
  own = own_ids globals body arguments (length state.variables);
  variables = state.variables ++ map (begins_as m) (variables_of body);
  waiting = waiting;
}

-- the call that a state waits for
abbrev pub call_from : ℕ → State → Waiting
call_from id state = record { result = id; rest = state.rest; body = state.body; ids = state.ids; own = state.own; count = length state.variables }

-- the function that was called is left
abbrev pub back_in : Waiting → List Waiting → State → State
back_in call calls state =
    record state { rest = call.rest; body = call.body; ids = call.ids; own = call.own; variables = take call.count state.variables; waiting = calls }
