-- Typed trees of a unit with the new numbers of what they name.
use Rattle.std.specs.Prelude.{map, option_map}
use Rattle.gsl_tree.specs.declared.expr.Expr.{Expr}
use Rattle.gsl_tree.specs.declared.expr.ExprKind.{ExprKind}
use Rattle.gsl_tree.specs.declared.expr.ExprKind.TheOpen.{ExprKind-F, Expr-F}
use Rattle.gsl_tree.specs.declared.expr.ExprKind.TheFolds.{fold-Expr}
use Rattle.gsl_tree.specs.declared.expr.ExprKind.TheVariants as kind
use Rattle.gsl_tree.specs.declared.stmt.Arm.{Arm, roll-Arm}
use Rattle.gsl_tree.specs.declared.stmt.Stmt.{Stmt}
use Rattle.gsl_tree.specs.declared.stmt.Stmt.TheOpen.{Stmt-F, Arm-F}
use Rattle.gsl_tree.specs.declared.stmt.Stmt.TheFolds.{fold-Stmt}
use Rattle.gsl_tree.specs.declared.stmt.Stmt.TheVariants as stmt
use Rattle.gsl_tree.specs.declared.unit.Function.{Function}
use Rattle.gsl_tree.specs.declared.unit.GlobalVar.{GlobalVar}
use Rattle.gsl_tree.specs.Trees.{typed}
use Rattle.gsl_link_units.specs.Types.{new_number, retyped}
use Rattle.gsl_link_whole.specs.Numbers.{Numbering}

-- ---- expressions

-- Local variables, parameters and members keep their numbers.
abbrev pub renumbered_kind : Numbering → ExprKind-F ExprKind Expr → ExprKind
renumbered_kind n (ExprKind-F.Const v) = kind.Const v
renumbered_kind n (ExprKind-F.Local number) = kind.Local number
renumbered_kind n (ExprKind-F.Global number) = kind.Global (new_number n.globals number)
renumbered_kind n (ExprKind-F.Param number) = kind.Param number
renumbered_kind n (ExprKind-F.BlockMember block number) = kind.BlockMember (new_number n.blocks block) number
renumbered_kind n (ExprKind-F.Stage var) = kind.Stage var
renumbered_kind n (ExprKind-F.Interface number) = kind.Interface (new_number n.interfaces number)
renumbered_kind n (ExprKind-F.Member a number) = kind.Member a number
renumbered_kind n (ExprKind-F.Index a i) = kind.Index a i
renumbered_kind n (ExprKind-F.Swizzle a lanes) = kind.Swizzle a lanes
renumbered_kind n (ExprKind-F.Length a) = kind.Length a
renumbered_kind n (ExprKind-F.Unary op a) = kind.Unary op a
renumbered_kind n (ExprKind-F.Binary op a b) = kind.Binary op a b
renumbered_kind n (ExprKind-F.Logic op a b) = kind.Logic op a b
renumbered_kind n (ExprKind-F.Choose test a b) = kind.Choose test a b
renumbered_kind n (ExprKind-F.Assign a b) = kind.Assign a b
renumbered_kind n (ExprKind-F.Update op a b) = kind.Update op a b
renumbered_kind n (ExprKind-F.Step op a) = kind.Step op a
renumbered_kind n (ExprKind-F.Call number args) = kind.Call (new_number n.heads number) args
renumbered_kind n (ExprKind-F.Built which args) = kind.Built which args
renumbered_kind n (ExprKind-F.Build args) = kind.Build args
renumbered_kind n (ExprKind-F.Convert a) = kind.Convert a
renumbered_kind n (ExprKind-F.Comma items) = kind.Comma items

abbrev pub renumbered_part : Numbering → Expr-F ExprKind Expr → Expr
renumbered_part n e = typed e.place (retyped n.structs e.ty) e.kind

-- an expression of a unit, by the new numbers
abbrev pub renumbered_expr : Numbering → Expr → Expr
renumbered_expr n = fold-Expr ExprKind Expr (renumbered_kind n) (renumbered_part n)

-- ---- statements

abbrev pub renumbered_form : Numbering → Stmt-F Stmt Arm → Stmt
renumbered_form n Stmt-F.Empty = stmt.Empty
renumbered_form n (Stmt-F.Eval e) = stmt.Eval (renumbered_expr n e)
renumbered_form n (Stmt-F.Declare number init) = stmt.Declare number (option_map (renumbered_expr n) init)
renumbered_form n (Stmt-F.Group stmts) = stmt.Group stmts
renumbered_form n (Stmt-F.If test first other) = stmt.If (renumbered_expr n test) first other
renumbered_form n (Stmt-F.Loop test step body test_last) = stmt.Loop (option_map (renumbered_expr n) test) (option_map (renumbered_expr n) step) body test_last
renumbered_form n (Stmt-F.Switch selector arms) = stmt.Switch (renumbered_expr n selector) arms
renumbered_form n Stmt-F.Break = stmt.Break
renumbered_form n Stmt-F.Continue = stmt.Continue
renumbered_form n (Stmt-F.Return value) = stmt.Return (option_map (renumbered_expr n) value)
renumbered_form n Stmt-F.Discard = stmt.Discard

abbrev pub renumbered_arm : Arm-F Stmt Arm → Arm
renumbered_arm arm = roll-Arm (record { labels = arm.labels; is_default = arm.is_default; body = arm.body })

-- a statement of a unit, by the new numbers
abbrev pub renumbered_stmt : Numbering → Stmt → Stmt
renumbered_stmt n = fold-Stmt Stmt Arm (renumbered_form n) renumbered_arm

-- ---- variables and functions

-- a global variable whose type has its new numbers already
abbrev pub renumbered_global : Numbering → GlobalVar → GlobalVar
renumbered_global n g = record g { init = option_map (renumbered_expr n) g.init }

abbrev pub renumbered_function : Numbering → Function → Function
renumbered_function n f = record f {
  prototype = new_number n.heads f.prototype;
  locals = map (retyped n.structs) f.locals;
  body = map (renumbered_stmt n) f.body;
}
