-- The state in which a module starts, and the frame of the function that it enters.
use Rattle.std.specs.Prelude.{◌≡◌, ℕ, List, [], ◌∷◌, ◌++◌, length, map, Option}
use Rattle.std.specs.List.{filter_map}
use Rattle.gsl_base.specs.declared.input.Input.{Input}
use Rattle.gsl_types.specs.declared.ty.Ty.{Ty}
use Rattle.gsl_words.specs.declared.module.Module.{Module}
use Rattle.gsl_values.specs.declared.value.Value.{Value}
use Rattle.gsl_valid.specs.Instruction.{read}
use Rattle.gsl_valid.specs.Kinds.{Variable, variable_is}
use Rattle.gsl_valid.specs.Placed.{Code, placed_from}
use Rattle.gsl_valid.specs.Valid.{Valid}
use Rattle.gsl_machine.specs.Functions.{begins_as, from_first_label, point_each}
use Rattle.gsl_machine.specs.Interfaces.{globals, value_variables, variable_begins}
use Rattle.gsl_machine.specs.State.{Ids, State}
use Rattle.gsl_spv.specs.Calls.{imports_of}
use Rattle.gsl_spv.specs.Finished.{module_of}
use Rattle.gsl_spv.specs.Sections.{Sections}
use Rattle.gsl_lower_holders.specs.declared.place.FlowPlace.{FlowPlace}
use Rattle.gsl_lower_follows.specs.Frames as frames
use Rattle.gsl_lower_follows.specs.Frames.{Frame, Seated}
use Rattle.gsl_lower_frames.specs.Named.{AreNamed, seat_in}
use Rattle.gsl_lower_frames.specs.Standing.{EndsHere, begins}

-- the variables that some code declares
abbrev pub local_variables : Code → List Variable
local_variables code = filter_map (λ i. variable_is (read i)) code

-- the variables as a function runs alone: those of the module, and then its own
abbrev pub variables_in : Module → Code → List Variable
variables_in m code = value_variables m ++ local_variables code

-- what the ids of a function of no parameters last for, where it runs alone
abbrev pub ids_in : Module → Code → Ids
ids_in m code = point_each (globals m) (length (value_variables m)) (local_variables code)

-- what the variables begin as
abbrev pub values_in : Module → Input → Code → List Value
values_in m input code = map (variable_begins m input) (value_variables m) ++ map (begins_as m) (local_variables code)

-- A state is that in which a module starts whose entry point names a function of this code, which stands at this place.
pub record Starts (m : Module) (input : Input) (first : ℕ) (code : Code) (state : State) : Type 0 where
  pub rest : state.rest ≡ from_first_label (placed_from first code)
  pub within : state.body ≡ placed_from first code
  pub own : state.own ≡ ids_in m code
  pub ids : state.ids ≡ ids_in m code
  pub variables : state.variables ≡ values_in m input code
  pub buffers : state.buffers ≡ input.buffers
  pub choices : state.choices ≡ input.choices
  pub waiting : state.waiting ≡ []

-- The function that the entry point names stands in the functions of a builder, behind others and before others; the module that the
-- builder gives is valid, and the names that are known at a place have its variables.
pub record IsEntered (whole : Sections) (main : ℕ) (local_size : List ℕ) (code : Code) (place : FlowPlace) : Type 0 where
  pub set : Option ℕ
  pub imports : whole.imports ≡ imports_of set
  pub before : Code
  pub behind : Code
  pub returned : ℕ
  pub control : ℕ
  pub function_type : ℕ
  pub is : whole.functions ≡ before ++ begins main returned control function_type ∷ (code ++ behind)
  pub ends : EndsHere code
  pub valid : Valid (module_of whole main local_size)
  pub named : AreNamed (variables_in (module_of whole main local_size) code) place

-- There is a frame of a function of this code behind other code, which gives what is of a type and runs in this state, where its first label is next, with the
-- ids of a place for its variables and with these values of the built-in variables.
pub record HasFrame (m : Module) (input : Input) (whole : Sections) (before code : Code) (place : FlowPlace) (result : Ty) (stages : List (Option Value)) (state : State) : Type 0 where
  pub frame : Frame m input whole
  pub front : frame.before ≡ before
  pub same : frame.code ≡ code
  pub rest : state.rest ≡ from_first_label (frames.body m input whole frame)
  pub within : state.body ≡ frames.body m input whole frame
  pub own : state.own ≡ frame.own
  pub ids : state.ids ≡ frame.own
  pub waiting : state.waiting ≡ frame.waiting
  pub begun : state.variables ≡ frame.begun
  pub gives : frame.result ≡ result
  pub given : frame.stages ≡ stages
  pub seats : frame.seat ≡ seat_in frame.own place
  pub seated : Seated m input whole frame place
