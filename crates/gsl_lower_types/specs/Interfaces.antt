-- Inputs, outputs and built-in variables of a program as variables of a module (SPIR-V 1.0, 3.7, 3.20 and 3.21).
use Rattle.std.specs.Prelude.{ℕ, Bool, true, false, if◌then◌else◌, List, Some, None}
use Rattle.gsl_instr.specs.declared.enumerant.built_in.TheConstants as built_in
use Rattle.gsl_instr.specs.declared.enumerant.decoration.TheConstants as decoration
use Rattle.gsl_instr.specs.declared.enumerant.storage_class.TheConstants as storage_class
use Rattle.gsl_types.specs.declared.ty.Scalar.TheVariants.{Int, Uint}
use Rattle.gsl_tree.specs.Shapes.{Shape}
use Rattle.gsl_tree.specs.declared.expr.StageVar.{StageVar}
use Rattle.gsl_tree.specs.declared.expr.StageVar.TheVariants.{NumWorkGroups, WorkGroupId, LocalInvocationId, GlobalInvocationId, LocalInvocationIndex, VertexIndex, InstanceIndex}
use Rattle.gsl_tree.specs.declared.unit.Interface.{Interface}
use Rattle.gsl_spv.specs.Calls as call
use Rattle.gsl_spv.specs.declared.plain.PlainConst.TheVariants as of
use Rattle.gsl_lower_values.specs.Building.{Step, ◌>>=◌, given, id_by}
use Rattle.gsl_lower_values.specs.Types.{type_of}
use Rattle.gsl_lower_types.specs.Declaring.{decorated, variable_in}
use Rattle.gsl_lower_types.specs.Known.{Put, aside, each}
use Rattle.gsl_lower_types.specs.Values.{value_type}

-- ---- inputs and outputs

-- an output begins with zeros
abbrev pub plain_variable : Bool → ℕ → Step ℕ
plain_variable true type = id_by (call.constant (of.Null type)) >>= (λ zero. variable_in storage_class.OUTPUT type (Some zero))
plain_variable false type = variable_in storage_class.INPUT type None

abbrev pub flat_where : Bool → ℕ → Step (Unit {0})
flat_where flat id = if flat then decorated id None decoration.FLAT None else given tt

abbrev pub located : Interface → ℕ → Step ℕ
located i id = decorated id None decoration.LOCATION (Some i.location) >>= (λ a. flat_where i.flat id >>= (λ b. given id))

abbrev pub interface_variable : Interface → ℕ → Step ℕ
interface_variable i type = plain_variable i.output type >>= located i

-- an input or an output
unfoldable pub interface_put : Interface → Put ℕ
interface_put i known = value_type i.ty known >>= (λ r. aside (interface_variable i r.0) r.1)

-- inputs and outputs, in their order
abbrev pub interfaces_put : List Interface → Put (List ℕ)
interfaces_put interfaces = each interface_put interfaces

-- ---- built-in variables

abbrev pub built_in_of : StageVar → ℕ
built_in_of NumWorkGroups = built_in.NUM_WORKGROUPS
built_in_of WorkGroupId = built_in.WORKGROUP_ID
built_in_of LocalInvocationId = built_in.LOCAL_INVOCATION_ID
built_in_of GlobalInvocationId = built_in.GLOBAL_INVOCATION_ID
built_in_of LocalInvocationIndex = built_in.LOCAL_INVOCATION_INDEX
built_in_of VertexIndex = built_in.VERTEX_INDEX
built_in_of InstanceIndex = built_in.INSTANCE_INDEX

abbrev pub stage_shape : StageVar → Shape
stage_shape NumWorkGroups = (Uint, 3)
stage_shape WorkGroupId = (Uint, 3)
stage_shape LocalInvocationId = (Uint, 3)
stage_shape GlobalInvocationId = (Uint, 3)
stage_shape LocalInvocationIndex = (Uint, 1)
stage_shape VertexIndex = (Int, 1)
stage_shape InstanceIndex = (Int, 1)

abbrev pub built_in_variable : StageVar → ℕ → Step ℕ
built_in_variable var type = variable_in storage_class.INPUT type None >>= (λ id. decorated id None decoration.BUILT_IN (Some (built_in_of var)) >>= (λ done. given id))

-- a built-in variable
unfoldable pub stage_put : StageVar → Step ℕ
stage_put var = type_of (stage_shape var) >>= built_in_variable var
