-- What holds of that in which an expression is checked: its lists are those of a unit that is well typed so far, and its names stand for
-- what is there.
use Rattle.std.specs.Prelude.{◌≡◌, ◌<◌, IsTrue, List, length}
use Rattle.std.specs.List.{AllByRecursion}
use Rattle.gsl_base.specs.declared.stage.Stage.TheVariants.{Compute}
use Rattle.gsl_types.specs.Known.{IsSound}
use Rattle.gsl_types.specs.declared.ty.Direction.{Direction}
use Rattle.gsl_types.specs.declared.ty.Member.{Member}
use Rattle.gsl_types.specs.declared.ty.StructType.{StructType}
use Rattle.gsl_types.specs.declared.ty.Ty.{Ty}
use Rattle.gsl_names.specs.declared.entry.Entry.{Entry}
use Rattle.gsl_names.specs.declared.entry.Entry.TheVariants as entry
use Rattle.gsl_names.specs.Scopes.{Declared, Scope}
use Rattle.gsl_tree.specs.declared.unit.Block.{Block}
use Rattle.gsl_tree.specs.declared.unit.BlockMember.{BlockMember}
use Rattle.gsl_tree.specs.declared.unit.GlobalVar.{GlobalVar}
use Rattle.gsl_tree.specs.declared.unit.Interface.{Interface}
use Rattle.gsl_tree.specs.declared.unit.LocalSize.{LocalSize}
use Rattle.gsl_tree.specs.declared.unit.Prototype.{Prototype}
use Rattle.gsl_tree.specs.Around.{stage_of, consts_of}
use Rattle.gsl_tree.specs.Expressions.{is_size}
use Rattle.gsl_tree.specs.WellTyped.{IsVariableType, IsResult}
use Rattle.gsl_typing.specs.declared.scene.Scene.{Scene}
use Rattle.gsl_check_expr.specs.declared.env.Env.{Env}
use Rattle.gsl_check_law.specs.Small.{IsCountedScene}

-- ---- lists

abbrev pub HasVariables : List StructType → StructType → Type 0
HasVariables structs struct = AllByRecursion (λ (member : Member). IsVariableType structs member.ty) struct.members

abbrev pub IsHead : List StructType → Prototype → Type 0
IsHead structs p = IsResult structs p.result × AllByRecursion (λ (param : Direction × Ty). IsVariableType structs param.1) p.params

-- The types in the lists are types of variables, and what is known of the globals is what they show. All three parts of a size of the work
-- group are there.
pub record IsScene (scene : Scene) : Type 0 where
  pub structs : AllByRecursion (HasVariables scene.structs) scene.structs
  pub globals : AllByRecursion (λ (g : GlobalVar). IsVariableType scene.structs g.ty) scene.globals
  pub blocks : AllByRecursion (λ (b : Block). AllByRecursion (λ (m : BlockMember). IsSound (length scene.structs) m.ty) b.members) scene.blocks
  pub interfaces : AllByRecursion (λ (i : Interface). IsSound (length scene.structs) i.ty) scene.interfaces
  pub prototypes : AllByRecursion (IsHead scene.structs) scene.prototypes
  pub sizes : AllByRecursion (λ (size : LocalSize). (length size.parts ≡ 3) × IsTrue (is_size size.parts)) scene.sizes
  pub params : AllByRecursion (λ (param : Direction × Ty). IsVariableType scene.structs param.1) scene.params
  pub locals : AllByRecursion (IsVariableType scene.structs) scene.locals
  pub known : scene.consts.globals ≡ (consts_of scene.globals).globals

-- ---- names

-- What is named by its number is there where nothing else asks for it, and a built-in variable is one of the stage.
abbrev pub IsThere : Scene → Entry → Type 0
IsThere scene (entry.Local number fixed) = Unit {0}
IsThere scene (entry.Param number fixed) = Unit {0}
IsThere scene (entry.Global number) = Unit {0}
IsThere scene (entry.Member block number) = Unit {0}
IsThere scene (entry.Instance number) = Unit {0}
IsThere scene (entry.Block number) = Unit {0}
IsThere scene (entry.Interface number) = Unit {0}
IsThere scene (entry.Struct number) = number < length scene.structs
IsThere scene (entry.Function number) = number < length scene.prototypes
IsThere scene (entry.Builtin which) = Unit {0}
IsThere scene (entry.Stage var) = stage_of var ≡ scene.stage
IsThere scene entry.Size = scene.stage ≡ Compute

-- all declarations of a scope
abbrev pub AreThere : Scene → Scope → Type 0
AreThere scene names = AllByRecursion (λ (declared : Declared). IsThere scene declared.1) names

-- What an expression is checked in is sound.
pub record IsEnv (env : Env) : Type 0 where
  pub names : AllByRecursion (AreThere env.scene) env.names
  pub scene : IsScene env.scene
  pub counted : IsCountedScene env.scene
