-- Weights of trees and declarations, counted one behind the other and told up to a ceiling.
use Rattle.std.specs.Prelude.{ℕ, ◌+◌, Bool, List, Option}
use Rattle.gsl_types.specs.declared.ty.Direction.{Direction}
use Rattle.gsl_types.specs.declared.ty.Ty.{Ty}
use Rattle.gsl_types.specs.declared.ty.StructType.{StructType}
use Rattle.gsl_tree.specs.declared.expr.Expr.{Expr}
use Rattle.gsl_tree.specs.declared.expr.ExprKind.{ExprKind}
use Rattle.gsl_tree.specs.declared.expr.ExprKind.TheFolds.{fold-ExprKind}
use Rattle.gsl_tree.specs.declared.stmt.Stmt.{Stmt}
use Rattle.gsl_tree.specs.declared.stmt.Arm.{Arm}
use Rattle.gsl_tree.specs.declared.stmt.Stmt.TheFolds.{fold-Arm}
use Rattle.gsl_types.specs.declared.ty.Member.{Member}
use Rattle.gsl_types.specs.Leaves.{told_leaves}
use Rattle.gsl_tree.specs.declared.unit.Block.{Block}
use Rattle.gsl_tree.specs.declared.unit.BlockMember.{BlockMember}
use Rattle.gsl_tree.specs.declared.unit.Function.{Function}
use Rattle.gsl_tree.specs.declared.unit.GlobalVar.{GlobalVar}
use Rattle.gsl_tree.specs.declared.unit.Interface.{Interface}
use Rattle.gsl_tree.specs.declared.unit.Prototype.{Prototype}
use Rattle.gsl_tree.specs.Trees.{or_nothing}
use Rattle.gsl_tree.specs.Weights.{declared_weight, struct_weight, block_weight, prototype_weight, function_weight, global_weight, Weighed, weigh, weigh_kind, weigh_by, copied, read_weight, read_weights, stmt_weight, stmt_weight_by, arm_weight_by}
use Rattle.gsl_weights.specs.Telling.{up_to}

-- whether an expression is a part of a block, and the same of what is of a kind
unfoldable pub in_block : List StructType → Expr → Bool
in_block structs e = (weigh structs e).in_block

unfoldable pub kind_in_block : List StructType → ExprKind → Bool
kind_in_block structs kind = (fold-ExprKind (Bool × ℕ) Weighed (weigh_kind structs) weigh_by kind).0

-- the leaves that are copied where an expression is read or written
unfoldable pub copied_leaves : List StructType → Expr → ℕ
copied_leaves structs e = copied structs (weigh structs e)

-- the weight of an expression, of what is of a kind, and of an expression that is read
unfoldable pub weighed : List StructType → ℕ → Expr → ℕ
weighed structs n e = up_to (n + (weigh structs e).weight)

unfoldable pub kind_weighed : List StructType → ℕ → ExprKind → ℕ
kind_weighed structs n kind = up_to (n + (fold-ExprKind (Bool × ℕ) Weighed (weigh_kind structs) weigh_by kind).1)

unfoldable pub read_weighed : List StructType → ℕ → Expr → ℕ
read_weighed structs n e = up_to (n + read_weight structs e)

-- an expression that is read, if there is one
unfoldable pub any_weighed : List StructType → ℕ → Option Expr → ℕ
any_weighed structs n e = up_to (n + read_weights structs (or_nothing e))

-- the weight of a statement and of an arm
unfoldable pub stmt_weighed : List StructType → ℕ → Stmt → ℕ
stmt_weighed structs n s = up_to (n + stmt_weight structs s)

unfoldable pub arm_weighed : List StructType → ℕ → Arm → ℕ
arm_weighed structs n arm = up_to (n + fold-Arm ℕ ℕ (stmt_weight_by structs) arm_weight_by arm)

-- ---- declarations

-- what is declared with a type
abbrev pub declared_weighed : ℕ → Ty → ℕ
declared_weighed n t = up_to (n + declared_weight t)

abbrev pub member_weighed : ℕ → Member → ℕ
member_weighed n member = declared_weighed n member.ty

abbrev pub block_member_weighed : ℕ → BlockMember → ℕ
block_member_weighed n member = declared_weighed n member.ty

abbrev pub param_weighed : ℕ → Direction × Ty → ℕ
param_weighed n param = declared_weighed n param.1

abbrev pub interface_weighed : ℕ → Interface → ℕ
interface_weighed n i = declared_weighed n i.ty

abbrev pub struct_weighed : ℕ → StructType → ℕ
struct_weighed n struct = up_to (n + struct_weight struct)

abbrev pub block_weighed : ℕ → Block → ℕ
block_weighed n block = up_to (n + block_weight block)

abbrev pub prototype_weighed : ℕ → Prototype → ℕ
prototype_weighed n p = up_to (n + prototype_weight p)

abbrev pub global_weighed : List StructType → ℕ → GlobalVar → ℕ
global_weighed structs n g = up_to (n + global_weight structs g)

abbrev pub function_weighed : List StructType → ℕ → Function → ℕ
function_weighed structs n f = up_to (n + function_weight structs f)

-- ---- leaves

abbrev pub type_leaves : List StructType → ℕ → Ty → ℕ
type_leaves structs n t = up_to (n + told_leaves structs t)

abbrev pub param_leaves : List StructType → ℕ → Direction × Ty → ℕ
param_leaves structs n param = type_leaves structs n param.1

abbrev pub variable_leaves : List StructType → ℕ → GlobalVar → ℕ
variable_leaves structs n g = type_leaves structs n g.ty
