-- What stands around an expression: the lists that its numbers name.
use Rattle.std.specs.Prelude.{ℕ, ◌&&◌, not, Bool, true, false, List, [], map, slice_get, Option, Some, None}
use Rattle.gsl_base.specs.declared.stage.Stage.{Stage}
use Rattle.gsl_base.specs.declared.stage.Stage.TheVariants.{Vertex, Compute}
use Rattle.gsl_types.specs.declared.ty.Direction.{Direction}
use Rattle.gsl_types.specs.declared.ty.Scalar.TheVariants.{Int, Uint}
use Rattle.gsl_types.specs.declared.ty.Ty.{Ty}
use Rattle.gsl_types.specs.declared.ty.Ty.TheVariants as ty
use Rattle.gsl_types.specs.declared.ty.StructType.{StructType}
use Rattle.gsl_values.specs.declared.value.Value.{Value}
use Rattle.gsl_tree.specs.declared.expr.StageVar.{StageVar}
use Rattle.gsl_tree.specs.declared.expr.StageVar.TheVariants.{NumWorkGroups, WorkGroupId, LocalInvocationId, GlobalInvocationId, LocalInvocationIndex, VertexIndex, InstanceIndex}
use Rattle.gsl_tree.specs.declared.folded.Folded.{Folded}
use Rattle.gsl_tree.specs.declared.folded.Folded.TheVariants.{Known, NotConstant}
use Rattle.gsl_tree.specs.declared.folded.Consts.{Consts}
use Rattle.gsl_tree.specs.declared.unit.GlobalVar.{GlobalVar}
use Rattle.gsl_tree.specs.declared.unit.BlockKind.{BlockKind}
use Rattle.gsl_tree.specs.declared.unit.BlockKind.TheVariants.{Uniform, Buffer, Push}
use Rattle.gsl_tree.specs.declared.unit.Block.{Block}
use Rattle.gsl_tree.specs.declared.unit.BlockMember.{BlockMember}
use Rattle.gsl_tree.specs.declared.unit.Interface.{Interface}
use Rattle.gsl_tree.specs.declared.unit.Prototype.{Prototype}

-- The lists that the numbers in an expression name, and the sizes that a work group is said to have.
pub record Around : Type 0 where
  pub stage : Stage
  pub structs : List StructType
  pub globals : List GlobalVar
  pub blocks : List Block
  pub interfaces : List Interface
  pub prototypes : List Prototype
  pub sizes : List (List ℕ)
  pub params : List (Direction × Ty)
  pub locals : List Ty

-- ---- the built-in variables (GLSL 4.50, 7.1)

abbrev pub uvec3 : Ty
uvec3 = ty.Vector Uint 3

abbrev pub stage_var_type : StageVar → Ty
stage_var_type NumWorkGroups = uvec3
stage_var_type WorkGroupId = uvec3
stage_var_type LocalInvocationId = uvec3
stage_var_type GlobalInvocationId = uvec3
stage_var_type LocalInvocationIndex = ty.One Uint
stage_var_type VertexIndex = ty.One Int
stage_var_type InstanceIndex = ty.One Int

abbrev pub stage_of : StageVar → Stage
stage_of NumWorkGroups = Compute
stage_of WorkGroupId = Compute
stage_of LocalInvocationId = Compute
stage_of GlobalInvocationId = Compute
stage_of LocalInvocationIndex = Compute
stage_of VertexIndex = Vertex
stage_of InstanceIndex = Vertex

-- ---- blocks

abbrev pub is_buffer : BlockKind → Bool
is_buffer Uniform = false
is_buffer Buffer = true
is_buffer Push = false

abbrev pub member_in : Option Block → ℕ → Option BlockMember
member_in None number = None
member_in (Some block) number = slice_get block.members number

-- the member of a block, both by number
abbrev pub block_member : Around → ℕ → ℕ → Option BlockMember
block_member around block number = member_in (slice_get around.blocks block) number

abbrev pub writes_member : Option Block → Option BlockMember → Bool
writes_member (Some block) (Some member) = is_buffer block.kind && not member.readonly
writes_member _ _ = false

-- whether a member may be written: one of a buffer block that is not `readonly`
abbrev pub may_write_member : Around → ℕ → ℕ → Bool
may_write_member around block number = writes_member (slice_get around.blocks block) (block_member around block number)

abbrev pub is_writeonly : Option BlockMember → Bool
is_writeonly None = false
is_writeonly (Some member) = member.writeonly

-- ---- variables that are constant

abbrev pub known_value : Bool → Option Value → Folded
known_value true (Some v) = Known v
known_value _ _ = NotConstant

-- What is known of the globals before a run: of the `const` ones their values. Of a local variable the tree does not show whether
-- it is `const`.
abbrev pub consts_of : List GlobalVar → Consts
consts_of globals = record { locals = []; globals = map (λ (g : GlobalVar). known_value g.constant g.value) globals }
