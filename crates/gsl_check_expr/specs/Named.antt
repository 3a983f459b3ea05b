-- What names and literals give as values (GLSL 4.50, 4.2 and 7.1).
use Rattle.std.specs.Prelude.{ℕ, Bool, false, List, [], ◌∷◌, map, slice_get, Option, Some, None, Ok}
use Rattle.gsl_base.specs.Checked.{Checked}
use Rattle.gsl_base.specs.declared.fault.Place.{Place}
use Rattle.gsl_base.specs.declared.fault.Code.TheVariants.{E0401, E0402, E0605}
use Rattle.gsl_types.specs.declared.ty.Direction.{Direction}
use Rattle.gsl_types.specs.declared.ty.Ty.{Ty}
use Rattle.gsl_values.specs.declared.value.Value.TheVariants.{Word, Many}
use Rattle.gsl_names.specs.declared.entry.Entry.{Entry}
use Rattle.gsl_names.specs.declared.entry.Entry.TheVariants as entry
use Rattle.gsl_names.specs.Scopes.{find}
use Rattle.gsl_tree.specs.declared.expr.ExprKind.{ExprKind}
use Rattle.gsl_tree.specs.declared.expr.ExprKind.TheVariants as kind
use Rattle.gsl_tree.specs.declared.unit.GlobalVar.{GlobalVar}
use Rattle.gsl_tree.specs.declared.unit.BlockMember.{BlockMember}
use Rattle.gsl_tree.specs.declared.unit.Interface.{Interface}
use Rattle.gsl_tree.specs.declared.unit.LocalSize.{LocalSize}
use Rattle.gsl_tree.specs.Trees.{typed}
use Rattle.gsl_tree.specs.Around.{uvec3, stage_var_type, block_member}
use Rattle.gsl_typing.specs.declared.scene.Scene.{Scene}
use Rattle.gsl_typing.specs.declared.scene.Part.{Part}
use Rattle.gsl_typing.specs.Rows.{fault}
use Rattle.gsl_typing.specs.Scene.{around, made}
use Rattle.gsl_check_expr.specs.declared.env.Env.{Env}

-- a literal of a scalar type, by its word
unfoldable pub literal : Place → Ty → ℕ → Checked Part
literal place t word = Ok (made place t (kind.Const (Word word)))

-- ---- the types of variables, where they are there

abbrev pub global_type : Option GlobalVar → Option Ty
global_type None = None
global_type (Some g) = Some g.ty

abbrev pub param_type : Option (Direction × Ty) → Option Ty
param_type None = None
param_type (Some param) = Some param.1

abbrev pub member_type : Option BlockMember → Option Ty
member_type None = None
member_type (Some m) = Some m.ty

abbrev pub interface_type : Option Interface → Option Ty
interface_type None = None
interface_type (Some i) = Some i.ty

-- ---- names as values

-- a variable of a type; one that is not there is an unknown name
abbrev pub variable : Place → ExprKind → Bool → Option Ty → Checked Part
variable place kind fixed None = fault place E0401
variable place kind fixed (Some t) = Ok (record { expr = typed place t kind; fixed = fixed })

-- `gl_WorkGroupSize` is the constant of the first size that the unit states
abbrev pub size_value : Place → List LocalSize → Checked Part
size_value place [] = fault place E0605
size_value place (size ∷ sizes) = Ok (made place uvec3 (kind.Const (Many (map Word size.parts))))

abbrev pub named_by : Scene → Place → Option Entry → Checked Part
named_by scene place None = fault place E0401
named_by scene place (Some (entry.Local number fixed)) = variable place (kind.Local number) fixed (slice_get scene.locals number)
named_by scene place (Some (entry.Param number fixed)) = variable place (kind.Param number) fixed (param_type (slice_get scene.params number))
named_by scene place (Some (entry.Global number)) = variable place (kind.Global number) false (global_type (slice_get scene.globals number))
named_by scene place (Some (entry.Member block number)) = variable place (kind.BlockMember block number) false (member_type (block_member (around scene) block number))
named_by scene place (Some (entry.Interface number)) = variable place (kind.Interface number) false (interface_type (slice_get scene.interfaces number))
named_by scene place (Some (entry.Stage var)) = Ok (made place (stage_var_type var) (kind.Stage var))
named_by scene place (Some entry.Size) = size_value place scene.sizes
named_by scene place (Some (entry.Instance number)) = fault place E0402
named_by scene place (Some (entry.Block number)) = fault place E0402
named_by scene place (Some (entry.Struct number)) = fault place E0402
named_by scene place (Some (entry.Function number)) = fault place E0402
named_by scene place (Some (entry.Builtin which)) = fault place E0402

-- a name as a value
unfoldable pub named : Env → Place → List ℕ → Checked Part
named env place name = named_by env.scene place (find env.names name)

abbrev pub instance_in : Option Entry → Option ℕ
instance_in (Some (entry.Instance number)) = Some number
instance_in _ = None

-- the block of which a name is the instance name
unfoldable pub instance_of : Env → List ℕ → Option ℕ
instance_of env name = instance_in (find env.names name)
