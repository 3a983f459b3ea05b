-- What the limits count: the weight of a program, its leaves, the height of its types, and its calls.
use Rattle.std.specs.Prelude.{ℕ, ◌+◌, max, Bool, true, false, ◌&&◌, List, [], ◌∷◌, ◌++◌, sum, length, slice_get, Option, Some, None, if◌then◌else◌}
use Rattle.std.specs.List.{flat_map}
use Rattle.gsl_types.specs.declared.ty.Direction.{Direction}
use Rattle.gsl_types.specs.declared.ty.Member.{Member}
use Rattle.gsl_types.specs.declared.ty.Ty.{Ty}
use Rattle.gsl_types.specs.declared.ty.Ty.TheOpen.{Ty-F}
use Rattle.gsl_types.specs.declared.ty.Ty.TheFolds.{fold-Ty}
use Rattle.gsl_types.specs.declared.ty.StructType.{StructType}
use Rattle.gsl_types.specs.Structs.{Meaning, meaning}
use Rattle.gsl_types.specs.Leaves.{told_leaves}
use Rattle.gsl_tree.specs.declared.expr.Expr.{Expr}
use Rattle.gsl_tree.specs.declared.expr.ExprKind.TheOpen.{ExprKind-F, Expr-F}
use Rattle.gsl_tree.specs.declared.expr.ExprKind.TheFolds.{fold-Expr}
use Rattle.gsl_tree.specs.declared.stmt.Stmt.{Stmt}
use Rattle.gsl_tree.specs.declared.stmt.Stmt.TheOpen.{Stmt-F, Arm-F}
use Rattle.gsl_tree.specs.declared.stmt.Stmt.TheFolds.{fold-Stmt}
use Rattle.gsl_tree.specs.declared.unit.GlobalVar.{GlobalVar}
use Rattle.gsl_tree.specs.declared.unit.Block.{Block}
use Rattle.gsl_tree.specs.declared.unit.BlockMember.{BlockMember}
use Rattle.gsl_tree.specs.declared.unit.Interface.{Interface}
use Rattle.gsl_tree.specs.declared.unit.Prototype.{Prototype}
use Rattle.gsl_tree.specs.declared.unit.Function.{Function}
use Rattle.gsl_tree.specs.declared.program.Program.{Program}
use Rattle.gsl_tree.specs.Shapes.{is_equality}
use Rattle.gsl_tree.specs.Trees.{parts_of, exprs_of}
use Rattle.gsl_tree.specs.Paths.{used_parts, is_aggregate}

-- ---- types

abbrev pub dimensions_kind : Ty-F ℕ → ℕ
dimensions_kind (Ty-F.Array element n) = element + 1
dimensions_kind (Ty-F.Runtime element) = element + 1
dimensions_kind _ = 0

-- how many dimensions of arrays a type is written with
abbrev pub dimensions : Ty → ℕ
dimensions = fold-Ty ℕ dimensions_kind

abbrev pub height_kind : Ty-F ℕ → ℕ
height_kind (Ty-F.Array element n) = 1 + element
height_kind (Ty-F.Runtime element) = 1 + element
height_kind _ = 1

abbrev pub highest : List (List ℕ × ℕ) → ℕ
highest [] = 0
highest (member ∷ members) = max member.1 (highest members)

abbrev pub height_meaning : Meaning ℕ
height_meaning = record { kind = height_kind; struct = λ name members. 1 + highest members; none = 0 }

-- How high a type is: 1 for a scalar or vector, and one more than its highest part for an array or a struct.
abbrev pub height_of : List StructType → Ty → ℕ
height_of structs t = meaning height_meaning structs t

-- types are at most so high
abbrev pub most_high : ℕ
most_high = 64

-- ---- the weight of expressions

-- what counts of an expression: its type, whether it is a part of a block, and its weight
pub record Weighed : Type 0 where
  pub ty : Ty
  pub in_block : Bool
  pub weight : ℕ

abbrev pub weights : List Weighed → ℕ
weights [] = 0
weights (part ∷ parts) = part.weight + weights parts

-- the leaves that are copied where an expression is read or written
abbrev pub copied : List StructType → Weighed → ℕ
copied structs part = if part.in_block && is_aggregate part.ty then told_leaves structs part.ty else 0

abbrev pub all_copied : List StructType → List Weighed → ℕ
all_copied structs [] = 0
all_copied structs (part ∷ parts) = copied structs part + all_copied structs parts

-- the leaves that `==` or `!=` on arrays or structs compares
abbrev pub compared : {K : Type 0} → List StructType → ExprKind-F K Weighed → ℕ
compared structs (ExprKind-F.Binary op a b) = if is_equality op && is_aggregate a.ty then told_leaves structs a.ty else 0
compared structs _ = 0

abbrev pub leads_into_block : {K : Type 0} → ExprKind-F K Weighed → Bool
leads_into_block (ExprKind-F.BlockMember block number) = true
leads_into_block (ExprKind-F.Member a number) = a.in_block
leads_into_block (ExprKind-F.Index a i) = a.in_block
leads_into_block (ExprKind-F.Swizzle a lanes) = a.in_block
leads_into_block _ = false

-- what its kind says of an expression: whether it is a part of a block, and the weight of its parts with the leaves that it copies or compares
abbrev pub weigh_kind : List StructType → ExprKind-F (Bool × ℕ) Weighed → Bool × ℕ
weigh_kind structs form = (leads_into_block form, weights (parts_of form) + all_copied structs (used_parts form) + compared structs form)

abbrev pub weigh_by : Expr-F (Bool × ℕ) Weighed → Weighed
weigh_by e = record { ty = e.ty; in_block = e.kind.0; weight = 1 + e.kind.1 }

-- Each expression counts 1, and the leaves of each array or struct that is read or written as a part of a block, or compared.
abbrev pub weigh : List StructType → Expr → Weighed
weigh structs = fold-Expr (Bool × ℕ) Weighed (weigh_kind structs) weigh_by

-- an expression that a statement or a declaration reads
abbrev pub read_weight : List StructType → Expr → ℕ
read_weight structs e = (weigh structs e).weight + copied structs (weigh structs e)

abbrev pub read_weights : List StructType → List Expr → ℕ
read_weights structs [] = 0
read_weights structs (e ∷ es) = read_weight structs e + read_weights structs es

-- ---- the weight of statements

abbrev pub one_if : Bool → ℕ
one_if true = 1
one_if false = 0

abbrev pub or_zero : Option ℕ → ℕ
or_zero None = 0
or_zero (Some weight) = weight

abbrev pub inner_weight : Stmt-F ℕ ℕ → ℕ
inner_weight (Stmt-F.Group stmts) = sum stmts
inner_weight (Stmt-F.If test first other) = first + or_zero other
inner_weight (Stmt-F.Loop test step body test_last) = body
inner_weight (Stmt-F.Switch selector arms) = sum arms
inner_weight _ = 0

abbrev pub stmt_weight_by : List StructType → Stmt-F ℕ ℕ → ℕ
stmt_weight_by structs form = 1 + read_weights structs (exprs_of form) + inner_weight form

-- each label counts 1
abbrev pub arm_weight_by : Arm-F ℕ ℕ → ℕ
arm_weight_by arm = length arm.labels + one_if arm.is_default + sum arm.body

-- Each statement counts 1, with its expressions and the statements in it.
abbrev pub stmt_weight : List StructType → Stmt → ℕ
stmt_weight structs = fold-Stmt ℕ ℕ (stmt_weight_by structs) arm_weight_by

abbrev pub body_weight : List StructType → List Stmt → ℕ
body_weight structs [] = 0
body_weight structs (s ∷ stmts) = stmt_weight structs s + body_weight structs stmts

-- ---- the weight of a program

-- what a variable, parameter or member of a type counts
abbrev pub declared_weight : Ty → ℕ
declared_weight t = 1 + dimensions t

abbrev pub sum_over : {A : Type 0} → (A → ℕ) → List A → ℕ
sum_over count [] = 0
sum_over count (a ∷ items) = count a + sum_over count items

abbrev pub init_weight : List StructType → Ty → Option Expr → ℕ
init_weight structs t None = 0
init_weight structs t (Some e) = read_weight structs e + told_leaves structs t

abbrev pub global_weight : List StructType → GlobalVar → ℕ
global_weight structs g = declared_weight g.ty + init_weight structs g.ty g.init

abbrev pub struct_weight : StructType → ℕ
struct_weight struct = sum_over (λ (member : Member). declared_weight member.ty) struct.members

abbrev pub block_weight : Block → ℕ
block_weight block = 1 + sum_over (λ (member : BlockMember). declared_weight member.ty) block.members

abbrev pub prototype_weight : Prototype → ℕ
prototype_weight p = dimensions p.result + sum_over (λ (param : Direction × Ty). declared_weight param.1) p.params

abbrev pub function_weight : List StructType → Function → ℕ
function_weight structs f = 1 + sum_over declared_weight f.locals + body_weight structs f.body

-- The weight of a program. The body of a function counts by its statements alone.
abbrev pub program_weight : Program → ℕ
program_weight p =
    sum_over struct_weight p.structs + sum_over (global_weight p.structs) p.globals + sum_over block_weight p.blocks
    + sum_over (λ (i : Interface). declared_weight i.ty) p.interfaces + sum_over prototype_weight p.prototypes + sum_over (function_weight p.structs) p.functions

-- ---- leaves

abbrev pub params_of : Option Prototype → List (Direction × Ty)
params_of None = []
params_of (Some p) = p.params

-- the leaves of the parameters and local variables of a function together
abbrev pub function_leaves : List StructType → List Prototype → Function → ℕ
function_leaves structs prototypes f =
    sum_over (λ (param : Direction × Ty). told_leaves structs param.1) (params_of (slice_get prototypes f.prototype)) + sum_over (told_leaves structs) f.locals

-- the leaves of the global variables together
abbrev pub global_leaves : List StructType → List GlobalVar → ℕ
global_leaves structs globals = sum_over (λ (g : GlobalVar). told_leaves structs g.ty) globals

-- ---- calls

abbrev pub calls_by : ExprKind-F (List ℕ) (List ℕ) → List ℕ
calls_by (ExprKind-F.Call number args) = flat_map (λ calls. calls) args ++ number ∷ []
calls_by form = flat_map (λ calls. calls) (parts_of form)

abbrev pub calls_part : Expr-F (List ℕ) (List ℕ) → List ℕ
calls_part e = e.kind

-- the functions that an expression calls, by their prototypes, in the order of the tree
abbrev pub calls_in : Expr → List ℕ
calls_in = fold-Expr (List ℕ) (List ℕ) calls_by calls_part

abbrev pub or_empty : Option (List ℕ) → List ℕ
or_empty None = []
or_empty (Some calls) = calls

abbrev pub inner_calls : Stmt-F (List ℕ) (List ℕ) → List ℕ
inner_calls (Stmt-F.Group stmts) = flat_map (λ calls. calls) stmts
inner_calls (Stmt-F.If test first other) = first ++ or_empty other
inner_calls (Stmt-F.Loop test step body test_last) = body
inner_calls (Stmt-F.Switch selector arms) = flat_map (λ calls. calls) arms
inner_calls _ = []

abbrev pub stmt_calls_by : Stmt-F (List ℕ) (List ℕ) → List ℕ
stmt_calls_by form = flat_map calls_in (exprs_of form) ++ inner_calls form

abbrev pub arm_calls_by : Arm-F (List ℕ) (List ℕ) → List ℕ
arm_calls_by arm = flat_map (λ calls. calls) arm.body

-- the functions that a statement calls
abbrev pub stmt_calls : Stmt → List ℕ
stmt_calls = fold-Stmt (List ℕ) (List ℕ) stmt_calls_by arm_calls_by

-- the functions that a function calls
abbrev pub calls_of : Function → List ℕ
calls_of f = flat_map stmt_calls f.body
