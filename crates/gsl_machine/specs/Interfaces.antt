-- The variables of a module as a run begins, and what comes out at its end.
use Rattle.std.specs.Prelude.{ℕ, Bool, ◌==◌, if◌then◌else◌, List, [], ◌∷◌, take, length, Option, Some, None, unwrap_or}
use Rattle.std.specs.List.{cons_option, filter_map}
use Rattle.gsl_base.specs.declared.input.Input.{Input}
use Rattle.gsl_base.specs.declared.input.Located.{Located}
use Rattle.gsl_base.specs.declared.input.Output.{Output}
use Rattle.gsl_instr.specs.declared.enumerant.built_in.TheConstants as built_in
use Rattle.gsl_instr.specs.declared.enumerant.decoration.TheConstants as decoration
use Rattle.gsl_instr.specs.declared.enumerant.execution_mode.TheConstants as execution_mode
use Rattle.gsl_instr.specs.declared.enumerant.storage_class.TheConstants as storage_class
use Rattle.gsl_views.specs.Buffers.{ascending}
use Rattle.gsl_inputs.specs.Given.{global_id, local_index, vector_of, words_at}
use Rattle.gsl_words.specs.declared.module.Module.{Module}
use Rattle.gsl_values.specs.declared.value.Value.{Value}
use Rattle.gsl_values.specs.declared.value.Value.TheVariants.{Word}
use Rattle.gsl_tree.specs.Values.{components_in, of_components}
use Rattle.gsl_valid.specs.DecorationRules.{pointee}
use Rattle.gsl_valid.specs.Decorations.{number_on}
use Rattle.gsl_valid.specs.EntryRules.{Mode, modes_of}
use Rattle.gsl_valid.specs.Instruction.{read}
use Rattle.gsl_valid.specs.Kinds.{Variable, constant_is, variable_is}
use Rattle.gsl_valid.specs.Types.{defined_as, is_block_class, lanes_of, outside_of}
use Rattle.gsl_machine.specs.Constants.{constant, nothing}
use Rattle.gsl_machine.specs.Functions.{begins_as, point_each}
use Rattle.gsl_machine.specs.Memory.{size_of}
use Rattle.gsl_machine.specs.State.{Held, Ids, InBlock, Points, State, Whole, give}

-- the variables outside functions
abbrev pub all_variables : Module → List Variable
all_variables m = filter_map (λ i. variable_is (read i)) (outside_of m)

abbrev pub holds_value : Variable → Option Variable
holds_value v = if is_block_class v.class then None else Some v

abbrev pub holds_block : Variable → Option Variable
holds_block v = if is_block_class v.class then Some v else None

-- those that hold values, and those of blocks
abbrev pub value_variables : Module → List Variable
value_variables m = filter_map holds_value (all_variables m)

abbrev pub block_variables : Module → List Variable
block_variables m = filter_map holds_block (all_variables m)

-- ---- what they begin as

-- the parts of the size of a work group, of which there is one in a compute shader
abbrev pub size_in : List Mode → List ℕ
size_in [] = 1 ∷ 1 ∷ 1 ∷ []
size_in (mode ∷ modes) = if mode.mode == execution_mode.LOCAL_SIZE then mode.parts else size_in modes

abbrev pub local_size : Module → List ℕ
local_size m = size_in (modes_of m)

abbrev pub built_in_value : List ℕ → Input → ℕ → Value
built_in_value size input number =
    if number == built_in.NUM_WORKGROUPS then vector_of input.groups else if number == built_in.WORKGROUP_ID then vector_of input.group
    else if number == built_in.LOCAL_INVOCATION_ID then vector_of input.local
    else if number == built_in.GLOBAL_INVOCATION_ID then global_id size input
    else if number == built_in.LOCAL_INVOCATION_INDEX then local_index size input
    else if number == built_in.VERTEX_INDEX then Word input.vertex else Word input.instance

abbrev pub located : Module → Input → Variable → Option ℕ → Value
located m input v None = nothing
located m input v (Some location) = of_components (take (size_of (lanes_of m (pointee m v.type))) (unwrap_or (words_at input.ins location) []))

abbrev pub given : Module → Input → Variable → Option ℕ → Value
given m input v None = located m input v (number_on m decoration.LOCATION v.id)
given m input v (Some number) = built_in_value (local_size m) input number

-- an input begins as what is given, any other variable as its initialiser
abbrev pub variable_begins : Module → Input → Variable → Value
variable_begins m input v = if v.class == storage_class.INPUT then given m input v (number_on m decoration.BUILT_IN v.id) else begins_as m v

-- ---- what ids stand for in all functions

abbrev pub if_there : {A : Type 0} → Option A → Held → Option Held
if_there None held = None
if_there (Some a) held = Some held

-- a constant for its value
abbrev pub constant_held : Module → ℕ → Option Held
constant_held m id = if_there (constant_is (defined_as m id)) (Whole (constant m id))

-- a block's variable for a pointer to its start
abbrev pub point_blocks : Module → Ids → List Variable → Ids
point_blocks m ids [] = ids
point_blocks m ids (v ∷ variables) = point_blocks m (give ids v.id (Points (InBlock v.id 0 (pointee m v.type)))) variables

abbrev pub globals : Module → Ids
globals m = point_blocks m (point_each (constant_held m) 0 (value_variables m)) (block_variables m)

-- ---- what comes out

-- a variable with its value, where it is an output at a location
abbrev pub out_if : Variable → Value → Option ℕ → Option Located
out_if v value None = None
out_if v value (Some location) = if v.class == storage_class.OUTPUT then Some (record { location = location; words = components_in value }) else None

abbrev pub outs_among : Module → List Variable → List Value → List Located
outs_among m (v ∷ variables) (value ∷ values) = cons_option (out_if v value (number_on m decoration.LOCATION v.id)) (outs_among m variables values)
outs_among m _ _ = []

-- the outputs in ascending order of location
abbrev pub outs_of : Module → State → List Located
outs_of m state = ascending (outs_among m (value_variables m) state.variables)

-- all given buffers; Kill leaves no outputs
abbrev pub output_of : Module → Bool → State → Output
output_of m killed state = record {
  buffers = state.buffers;
  outs = if killed then [] else outs_of m state;
  killed = killed;
  rest = length state.choices;
}
