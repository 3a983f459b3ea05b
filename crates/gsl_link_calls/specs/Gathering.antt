-- Calls of trees, put one after the other behind a list.
use Rattle.std.specs.Prelude.{ℕ, List, [], ◌∷◌, ◌++◌, Option}
use Rattle.std.specs.List.{flat_map}
use Rattle.gsl_base.specs.declared.fault.Place.{Place}
use Rattle.gsl_tree.specs.declared.expr.Expr.{Expr}
use Rattle.gsl_tree.specs.declared.expr.ExprKind.{ExprKind}
use Rattle.gsl_tree.specs.declared.expr.ExprKind.TheFolds.{fold-ExprKind}
use Rattle.gsl_tree.specs.declared.stmt.Stmt.{Stmt}
use Rattle.gsl_tree.specs.declared.stmt.Arm.{Arm}
use Rattle.gsl_tree.specs.declared.stmt.Stmt.TheFolds.{fold-Arm}
use Rattle.gsl_tree.specs.declared.unit.Function.{Function}
use Rattle.gsl_tree.specs.declared.unit.GlobalVar.{GlobalVar}
use Rattle.gsl_tree.specs.Trees.{or_nothing}
use Rattle.gsl_tree.specs.Weights as heads
use Rattle.gsl_link_calls.specs.Calls.{Call, calls_kind, calls_part, with_call, expr_calls, stmt_calls, stmt_calls_by, arm_calls_by, global_calls, function_calls}

-- items put behind a list, one after the other
abbrev pub in_turn : {A B : Type 0} → (List A → B → List A) → List A → List B → List A
in_turn put list [] = list
in_turn put list (item ∷ items) = in_turn put (put list item) items

-- ---- calls with their places

abbrev pub kind_of : ExprKind → Option ℕ × List Call
kind_of = fold-ExprKind (Option ℕ × List Call) (List Call) calls_kind calls_part

unfoldable pub gathered : List Call → Expr → List Call
gathered calls e = calls ++ expr_calls e

unfoldable pub kind_gathered : List Call → Place → ExprKind → List Call
kind_gathered calls place kind = calls ++ with_call place (kind_of kind).0 (kind_of kind).1

unfoldable pub any_gathered : List Call → Option Expr → List Call
any_gathered calls e = calls ++ flat_map expr_calls (or_nothing e)

unfoldable pub stmt_gathered : List Call → Stmt → List Call
stmt_gathered calls s = calls ++ stmt_calls s

unfoldable pub arm_gathered : List Call → Arm → List Call
arm_gathered calls arm = calls ++ fold-Arm (List Call) (List Call) stmt_calls_by arm_calls_by arm

unfoldable pub global_gathered : List Call → GlobalVar → List Call
global_gathered calls g = calls ++ global_calls g

unfoldable pub function_gathered : List Call → Function → List Call
function_gathered calls f = calls ++ function_calls f

-- ---- numbers of heads alone

abbrev pub kind_heads : ExprKind → List ℕ
kind_heads = fold-ExprKind (List ℕ) (List ℕ) heads.calls_by heads.calls_part

unfoldable pub heads_gathered : List ℕ → Expr → List ℕ
heads_gathered calls e = calls ++ heads.calls_in e

unfoldable pub kind_heads_gathered : List ℕ → ExprKind → List ℕ
kind_heads_gathered calls kind = calls ++ kind_heads kind

unfoldable pub any_heads_gathered : List ℕ → Option Expr → List ℕ
any_heads_gathered calls e = calls ++ flat_map heads.calls_in (or_nothing e)

unfoldable pub stmt_heads_gathered : List ℕ → Stmt → List ℕ
stmt_heads_gathered calls s = calls ++ heads.stmt_calls s

unfoldable pub arm_heads_gathered : List ℕ → Arm → List ℕ
arm_heads_gathered calls arm = calls ++ fold-Arm (List ℕ) (List ℕ) heads.stmt_calls_by heads.arm_calls_by arm
