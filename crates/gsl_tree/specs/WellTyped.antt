-- Which units and programs are well typed.
use Rattle.std.specs.Prelude.{◌≡◌, ◌≢◌, ℕ, ◌+◌, ◌<◌, ◌≤◌, ◌⊎◌, Bool, true, false, not, ◌&&◌, ◌||◌, IsTrue, nat_eq, nat_lt, List, [], ◌∷◌, map, take, length, slice_get, Option, Some, None}
use Rattle.std.specs.List.{AllByRecursion, list_all}
use Rattle.gsl_base.specs.declared.stage.Stage.{Stage}
use Rattle.gsl_base.specs.declared.stage.Stage.TheVariants.{Vertex, Fragment, Compute}
use Rattle.gsl_types.specs.Known.{AreStructs, IsSound, is_plain, is_plain_kind}
use Rattle.gsl_types.specs.declared.ty.Direction.{Direction}
use Rattle.gsl_types.specs.declared.ty.Member.{Member}
use Rattle.gsl_types.specs.declared.ty.Ty.{Ty}
use Rattle.gsl_types.specs.declared.ty.Ty.TheOpen.{Ty-F}
use Rattle.gsl_types.specs.declared.ty.Ty.TheFolds.{fold-Ty}
use Rattle.gsl_types.specs.declared.ty.Ty.TheViews.{out-Ty}
use Rattle.gsl_types.specs.declared.ty.Ty.TheVariants as ty
use Rattle.gsl_types.specs.declared.ty.StructType.{StructType}
use Rattle.gsl_values.specs.declared.value.Value.{Value}
use Rattle.gsl_tree.specs.declared.expr.Expr.{Expr}
use Rattle.gsl_tree.specs.declared.folded.Folded.TheVariants.{Known}
use Rattle.gsl_tree.specs.declared.unit.GlobalVar.{GlobalVar}
use Rattle.gsl_tree.specs.declared.unit.BlockKind.{BlockKind}
use Rattle.gsl_tree.specs.declared.unit.BlockKind.TheVariants.{Uniform, Buffer, Push}
use Rattle.gsl_tree.specs.declared.unit.Block.{Block}
use Rattle.gsl_tree.specs.declared.unit.BlockMember.{BlockMember}
use Rattle.gsl_tree.specs.declared.unit.Interface.{Interface}
use Rattle.gsl_tree.specs.declared.unit.Prototype.{Prototype}
use Rattle.gsl_tree.specs.declared.unit.Function.{Function}
use Rattle.gsl_tree.specs.declared.unit.LocalSize.{LocalSize}
use Rattle.gsl_tree.specs.declared.unit.TypedUnit.{TypedUnit}
use Rattle.gsl_tree.specs.declared.program.Program.{Program}
use Rattle.gsl_tree.specs.Constants.{constant_of}
use Rattle.gsl_tree.specs.Trees.{type_of}
use Rattle.gsl_tree.specs.Shapes.{Shape, shape_of, is_integer}
use Rattle.gsl_tree.specs.Around.{Around, is_buffer, consts_of}
use Rattle.gsl_tree.specs.Expressions.{IsExpr, MayBeRead, is_size, most_parts}
use Rattle.gsl_tree.specs.Statements.{IsBody, expr_depth, stmt_depth, deepest, most_deep}
use Rattle.gsl_tree.specs.Laying.{IsLaid}
use Rattle.gsl_tree.specs.Weights.{height_of, most_high, one_if}

-- ---- what is well typed

-- The lists of a unit or a program, and the sizes that a work group is said to have.
pub record Lists : Type 0 where
  pub stage : Stage
  pub structs : List StructType
  pub globals : List GlobalVar
  pub blocks : List Block
  pub interfaces : List Interface
  pub prototypes : List Prototype
  pub functions : List Function
  pub sizes : List (List ℕ)

abbrev pub unit_lists : Stage → TypedUnit → Lists
unit_lists stage unit = record {
  stage = stage;
  structs = unit.structs;
  globals = unit.globals;
  blocks = unit.blocks;
  interfaces = unit.interfaces;
  prototypes = unit.prototypes;
  functions = unit.functions;
  sizes = map (λ (size : LocalSize). size.parts) unit.local_sizes;
}

abbrev pub program_lists : Program → Lists
program_lists p = record {
  stage = p.stage;
  structs = p.structs;
  globals = p.globals;
  blocks = p.blocks;
  interfaces = p.interfaces;
  prototypes = p.prototypes;
  functions = p.functions;
  sizes = p.local_size ∷ [];
}

-- what stands around the body of a function
abbrev pub around_body : Lists → List (Direction × Ty) → List Ty → Around
around_body lists params locals = record {
  stage = lists.stage;
  structs = lists.structs;
  globals = lists.globals;
  blocks = lists.blocks;
  interfaces = lists.interfaces;
  prototypes = lists.prototypes;
  sizes = lists.sizes;
  params = params;
  locals = locals;
}

-- What stands around the initialiser of a global. All globals do, since `.length()` asks for the type of any that was declared, and where
-- units are joined that may be a later one.
abbrev pub around_init : Lists → Around
around_init lists = around_body lists [] []

-- ---- names and types

-- a name has at most 1,024 bytes and no zero byte
pub record IsName (name : List ℕ) : Type 0 where
  pub short : length name ≤ 1024
  pub nonzero : AllByRecursion (λ byte. byte ≢ 0) name

abbrev pub IsNameOr : Option (List ℕ) → Type 0
IsNameOr None = Unit {0}
IsNameOr (Some name) = IsName name

-- the type of a variable, a parameter or a member of a struct
pub record IsVariableType (structs : List StructType) (t : Ty) : Type 0 where
  pub known : IsSound (length structs) t
  pub plain : IsTrue (is_plain t)
  pub low : height_of structs t ≤ most_high

-- ---- structs

pub record IsStructDeclared (structs : List StructType) (struct : StructType) : Type 0 where
  pub name : IsName struct.name
  pub count : length struct.members ≤ most_parts
  pub names : AllByRecursion (λ (member : Member). IsName member.name) struct.members
  pub types : AllByRecursion (λ (member : Member). IsVariableType structs member.ty) struct.members

-- ---- global variables

-- An initialiser is a constant expression of the variable's type by the constants before it, and its value is kept beside it. A `const` variable
-- has one.
abbrev pub IsInit : Lists → ℕ → GlobalVar → Option Expr → Type 0
IsInit lists number g None = (g.value ≡ None) × (g.constant ≡ false)
IsInit lists number g (Some e) =
    (v : Value) × IsExpr (around_init lists) e × MayBeRead (around_init lists) e × (type_of e ≡ g.ty) × (expr_depth e ≤ most_deep)
    × (constant_of (consts_of (take number lists.globals)) e ≡ Known v) × (g.value ≡ Some v)

pub record IsGlobal (lists : Lists) (number : ℕ) (g : GlobalVar) : Type 0 where
  pub name : IsName g.name
  pub type : IsVariableType lists.structs g.ty
  pub init : IsInit lists number g g.init

-- ---- blocks

abbrev pub is_member_kind : Bool → Ty-F Ty → Bool
is_member_kind last (Ty-F.Runtime element) = last && is_plain element
is_member_kind last Ty-F.Void = false
is_member_kind last (Ty-F.One s) = true
is_member_kind last (Ty-F.Vector s n) = true
is_member_kind last (Ty-F.Array element n) = is_plain element
is_member_kind last (Ty-F.Struct number) = true

-- the type of a member, which may be a runtime array where it is the last of a buffer block
abbrev pub is_member_type : Bool → Ty → Bool
is_member_type last t = is_member_kind last (out-Ty t)

-- memory qualifiers stand in buffer blocks alone
abbrev pub has_qualifiers : BlockMember → Bool
has_qualifiers member = member.readonly || member.writeonly || member.coherent || member.volatile || member.restrict

pub record IsBlockMember (structs : List StructType) (kind : BlockKind) (last : Bool) (member : BlockMember) : Type 0 where
  pub name : IsName member.name
  pub known : IsSound (length structs) member.ty
  pub low : height_of structs member.ty ≤ most_high
  pub type : IsTrue (is_member_type (last && is_buffer kind) member.ty)
  pub qualifiers : IsTrue (is_buffer kind || not (has_qualifiers member))

abbrev pub AreBlockMembers : List StructType → BlockKind → List BlockMember → Type 0
AreBlockMembers structs kind [] = Unit {0}
AreBlockMembers structs kind (member ∷ []) = IsBlockMember structs kind true member
AreBlockMembers structs kind (member ∷ next ∷ members) = IsBlockMember structs kind false member × AreBlockMembers structs kind (next ∷ members)

-- uniform blocks are laid out by std140
abbrev pub may_be_std430 : BlockKind → Bool
may_be_std430 Uniform = false
may_be_std430 Buffer = true
may_be_std430 Push = true

pub record IsBlock (structs : List StructType) (block : Block) : Type 0 where
  pub name : IsName block.name
  pub instance : IsNameOr block.instance
  pub set : block.set < 32
  pub binding : block.binding < 65536
  pub some : 0 < length block.members
  pub count : length block.members ≤ most_parts
  pub members : AreBlockMembers structs block.kind block.members
  pub layout : IsTrue (block.std140 || may_be_std430 block.kind)
  pub laid : IsLaid structs block

abbrev pub is_push : BlockKind → Bool
is_push Uniform = false
is_push Buffer = false
is_push Push = true

abbrev pub push_blocks : List Block → ℕ
push_blocks [] = 0
push_blocks (block ∷ blocks) = one_if (is_push block.kind) + push_blocks blocks

-- ---- inputs and outputs

-- an input of a fragment shader is `flat`, an output of a vertex shader may be
abbrev pub is_flat_right : Stage → Bool → Bool → Bool
is_flat_right Vertex output flat = output || not flat
is_flat_right Fragment true flat = not flat
is_flat_right Fragment false flat = flat
is_flat_right Compute output flat = false

-- an integer scalar or vector
abbrev pub IsInteger : Ty → Type 0
IsInteger t = (shape : Shape) × (shape_of t ≡ Some shape) × IsTrue (is_integer shape.0)

pub record IsInterface (stage : Stage) (structs : List StructType) (i : Interface) : Type 0 where
  pub name : IsName i.name
  pub known : IsSound (length structs) i.ty
  pub type : IsInteger i.ty
  pub location : i.location < 1024
  pub flat : IsTrue (is_flat_right stage i.output i.flat)

-- ---- functions

abbrev pub IsResult : List StructType → Ty → Type 0
IsResult structs t = (t ≡ ty.Void) ⊎ IsVariableType structs t

pub record IsPrototype (structs : List StructType) (p : Prototype) : Type 0 where
  pub name : IsName p.name
  pub result : IsResult structs p.result
  pub params : AllByRecursion (λ (param : Direction × Ty). IsVariableType structs param.1) p.params
  pub count : length p.params ≤ 255

pub record IsFunction (lists : Lists) (f : Function) : Type 0 where
  pub prototype : Prototype
  pub declared : slice_get lists.prototypes f.prototype ≡ Some prototype
  pub locals : AllByRecursion (IsVariableType lists.structs) f.locals
  pub body : IsBody (around_body lists prototype.params f.locals) prototype.result f.body
  pub depth : deepest (map stmt_depth f.body) ≤ most_deep

-- ---- all together

abbrev pub is_compute : Stage → Bool
is_compute Vertex = false
is_compute Fragment = false
is_compute Compute = true

-- Each declaration is as it should be.
pub record AreWellTyped (lists : Lists) : Type 0 where
  pub structs : AreStructs lists.structs
  pub declared : AllByRecursion (IsStructDeclared lists.structs) lists.structs
  pub globals : (number : ℕ) (g : GlobalVar) → slice_get lists.globals number ≡ Some g → IsGlobal lists number g
  pub blocks : AllByRecursion (IsBlock lists.structs) lists.blocks
  pub push : push_blocks lists.blocks ≤ 1
  pub interfaces : AllByRecursion (IsInterface lists.stage lists.structs) lists.interfaces
  pub prototypes : AllByRecursion (IsPrototype lists.structs) lists.prototypes
  pub functions : AllByRecursion (IsFunction lists) lists.functions

abbrev pub AreSizes : Stage → List (List ℕ) → Type 0
AreSizes Compute sizes = AllByRecursion (λ size. (length size ≡ 3) × IsTrue (is_size size)) sizes
AreSizes _ sizes = sizes ≡ []

-- A unit of a stage is well typed.
pub record IsUnit (stage : Stage) (unit : TypedUnit) : Type 0 where
  pub typed : AreWellTyped (unit_lists stage unit)
  pub sizes : AreSizes stage (unit_lists stage unit).sizes

-- outside compute the size is 1 1 1
abbrev pub IsLocalSize : Stage → List ℕ → Type 0
IsLocalSize Compute size = (length size ≡ 3) × IsTrue (is_size size)
IsLocalSize _ size = size ≡ 1 ∷ 1 ∷ 1 ∷ []

-- blocks stand in ascending order of set and binding, and the push constant block is the last
abbrev pub comes_before : Block → Block → Bool
comes_before a b = not (is_push a.kind) && (is_push b.kind || nat_lt a.set b.set || (nat_eq a.set b.set && nat_lt a.binding b.binding))

abbrev pub are_sorted : List Block → Bool
are_sorted [] = true
are_sorted (block ∷ blocks) = list_all (comes_before block) blocks && are_sorted blocks

-- A program is well typed, and its fields are as said: `main` is the number of a function of that name, with no parameters and no
-- result.
pub record IsProgram (p : Program) : Type 0 where
  pub typed : AreWellTyped (program_lists p)
  pub size : IsLocalSize p.stage p.local_size
  pub sorted : IsTrue (are_sorted p.blocks)
  pub function : Function
  pub prototype : Prototype
  pub main : slice_get p.functions p.main ≡ Some function
  pub head : slice_get p.prototypes function.prototype ≡ Some prototype
  pub named : prototype.name ≡ 109 ∷ 97 ∷ 105 ∷ 110 ∷ []
  pub bare : prototype.params ≡ []
  pub void : prototype.result ≡ ty.Void
