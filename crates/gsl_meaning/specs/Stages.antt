-- What a stage gives: inputs, outputs and built-in variables (GLSL 4.50, 4.3.4, 4.3.6 and 7.1; GL_KHR_vulkan_glsl).
use Rattle.std.specs.Prelude.{ℕ, if◌then◌else◌, List, [], ◌∷◌, take, unwrap_or}
use Rattle.gsl_base.specs.declared.input.Located.{Located}
use Rattle.gsl_base.specs.declared.input.Input.{Input}
use Rattle.gsl_types.specs.Conversions.{components}
use Rattle.gsl_types.specs.declared.ty.StructType.{StructType}
use Rattle.gsl_values.specs.declared.value.Value.{Value}
use Rattle.gsl_values.specs.declared.value.Value.TheVariants.{Word}
use Rattle.gsl_tree.specs.declared.expr.StageVar.{StageVar}
use Rattle.gsl_tree.specs.declared.expr.StageVar.TheVariants.{NumWorkGroups, WorkGroupId, LocalInvocationId, GlobalInvocationId, LocalInvocationIndex, VertexIndex, InstanceIndex}
use Rattle.gsl_tree.specs.declared.unit.Interface.{Interface}
use Rattle.gsl_tree.specs.Values.{components_in, of_components, zero_value}
use Rattle.gsl_views.specs.Buffers.{ascending}
use Rattle.gsl_inputs.specs.Given.{global_id, local_index, vector_of, words_at}

-- ---- built-in variables

-- by the size of a work group
abbrev pub stage_value : List ℕ → Input → StageVar → Value
stage_value size input NumWorkGroups = vector_of input.groups
stage_value size input WorkGroupId = vector_of input.group
stage_value size input LocalInvocationId = vector_of input.local
stage_value size input GlobalInvocationId = global_id size input
stage_value size input LocalInvocationIndex = local_index size input
stage_value size input VertexIndex = Word input.vertex
stage_value size input InstanceIndex = Word input.instance

-- ---- inputs and outputs

-- an output begins as zeros
abbrev pub interface_begins : List StructType → Input → Interface → Value
interface_begins structs input i =
    if i.output then zero_value structs i.ty else of_components (take (components i.ty) (unwrap_or (words_at input.ins i.location) []))

-- the outputs with their words
abbrev pub outs_among : List Interface → List Value → List Located
outs_among (i ∷ interfaces) (v ∷ vs) =
    if i.output then record { location = i.location; words = components_in v } ∷ outs_among interfaces vs else outs_among interfaces vs
outs_among _ _ = []

-- the outputs in ascending order of location
abbrev pub outs_of : List Interface → List Value → List Located
outs_of interfaces vs = ascending (outs_among interfaces vs)

-- there are so many locations
abbrev pub locations : ℕ
locations = 1024
