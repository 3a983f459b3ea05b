-- What a shader does: the meaning of `main` on an input, with a budget of turns of loops and of calls.
use Rattle.std.specs.Prelude.{ℕ, zero, suc, Bool, true, false, ◌==◌, if◌then◌else◌, List, [], ◌∷◌, map, length, slice_get, Option, Some, None}
use Rattle.gsl_base.specs.declared.input.Input.{Input}
use Rattle.gsl_base.specs.declared.input.Output.{Output}
use Rattle.gsl_types.specs.declared.ty.Ty.{Ty}
use Rattle.gsl_types.specs.declared.ty.Ty.TheVariants.{Void}
use Rattle.gsl_types.specs.declared.ty.StructType.{StructType}
use Rattle.gsl_values.specs.declared.value.Value.{Value}
use Rattle.gsl_tree.specs.declared.program.Program.{Program}
use Rattle.gsl_tree.specs.declared.unit.Function.{Function}
use Rattle.gsl_tree.specs.declared.unit.GlobalVar.{GlobalVar}
use Rattle.gsl_tree.specs.declared.unit.Prototype.{Prototype}
use Rattle.gsl_tree.specs.Values.{zero_value}
use Rattle.gsl_meaning.specs.State.{State}
use Rattle.gsl_meaning.specs.Running.{Ran, Run, Got, Ends, Strays, Goes, ◌>>=◌, going, spending}
use Rattle.gsl_meaning.specs.Expressions.{Called, Calls, Setting}
use Rattle.gsl_meaning.specs.Statements.{Flow, Returned, runs_all}
use Rattle.gsl_meaning.specs.Blocks.{begun, put_blocks}
use Rattle.gsl_meaning.specs.Stages.{interface_begins, outs_of, stage_value}

-- ---- calls

-- a call begins with its arguments, and with zeros for all local variables
abbrev pub entered : List StructType → List Ty → List Value → State → State
entered structs locals args state = record state { params = args; locals = map (zero_value structs) locals }

-- what a function gives, by how its body was left; zeros where its end was reached
abbrev pub result_of : List StructType → Ty → Flow → Value
result_of structs ty (Returned v) = v
result_of structs ty _ = zero_value structs ty

-- the caller has its own parameters and local variables again
abbrev pub left : State → Value → Run Called
left caller v after units = Got (record { value = v; params = after.params }) (record after { params = caller.params; locals = caller.locals }) units

-- the body of a function, on these arguments
abbrev pub running : Setting → Function → Ty → List Value → Run Called
running setting f result args state units =
    (runs_all setting f.locals f.body >>= (λ flow. left state (result_of setting.structs result flow))) (entered setting.structs f.locals args state) units

-- the function that has a head; functions that are the same have one
abbrev pub function_of : List Function → ℕ → Option Function
function_of [] number = None
function_of (f ∷ functions) number = if f.prototype == number then Some f else function_of functions number

abbrev pub result_type : Option Prototype → Ty
result_type None = Void
result_type (Some p) = p.result

abbrev pub running_found : Setting → Ty → Option Function → List Value → Run Called
running_found setting result None args = going
running_found setting result (Some f) args = spending (running setting f result args)

abbrev pub setting_of : Program → Input → Calls → Setting
setting_of p input call = record { structs = p.structs; prototypes = p.prototypes; stage_value = stage_value p.local_size input; call = call }

-- Calls that nest at most so deep: each uses a unit. Functions do not call themselves, so there is a depth that no call passes.
abbrev pub calls : Program → Input → ℕ → Calls
calls p input zero number args = going
calls p input (suc depth) number args =
    running_found (setting_of p input (calls p input depth)) (result_type (slice_get p.prototypes number)) (function_of p.functions number) args

-- calls nest at most so deep
abbrev pub most_calls : ℕ
most_calls = 64

-- ---- `main`

-- the value with which a global variable begins
abbrev pub global_begins : List StructType → Ty → Option Value → Value
global_begins structs ty None = zero_value structs ty
global_begins structs ty (Some v) = v

abbrev pub begins : Program → Input → State
begins p input = record {
  globals = map (λ (g : GlobalVar). global_begins p.structs g.ty g.value) p.globals;
  blocks = map (begun p.structs input) p.blocks;
  interfaces = map (interface_begins p.structs input) p.interfaces;
  params = [];
  locals = [];
  choices = input.choices;
}

abbrev pub main_of : Program → Input → Option Function → Run Called
main_of p input None = going
main_of p input (Some f) = running (setting_of p input (calls p input most_calls)) f Void []

-- What a shader comes to: it ends with an output, an index was out of bounds, or it goes on.
pub data Outcome : Type 0 where
  Ended : (output : Output) → Outcome
  Strayed : Outcome
  Going : Outcome

-- All given buffers with each leaf put; `discard` leaves no outputs.
abbrev pub output_of : Program → Input → Bool → State → Output
output_of p input killed state = record {
  buffers = put_blocks p.structs p.blocks state.blocks input.buffers;
  outs = if killed then [] else outs_of p.interfaces state.interfaces;
  killed = killed;
  rest = length state.choices;
}

abbrev pub outcome_of : Program → Input → Ran Called → Outcome
outcome_of p input (Got called state units) = Ended (output_of p input false state)
outcome_of p input (Ends state) = Ended (output_of p input true state)
outcome_of p input Strays = Strayed
outcome_of p input Goes = Going

-- what a shader does on an input, with so many units
unfoldable pub shader : Program → ℕ → Input → Outcome
shader p units input = outcome_of p input (main_of p input (slice_get p.functions p.main) (begins p input) units)
