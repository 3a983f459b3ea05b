-- What every statement is lowered to (GLSL 4.50, chapter 6).
use Rattle.std.specs.Prelude.{ℕ, Bool, List, [], map, slice_index_or, Option, Some, None}
use Rattle.gsl_instr.specs.declared.op.TheConstants as op
use Rattle.gsl_types.specs.declared.ty.Ty.{Ty}
use Rattle.gsl_types.specs.declared.ty.Ty.TheVariants.{Void}
use Rattle.gsl_tree.specs.declared.expr.Expr.{Expr}
use Rattle.gsl_tree.specs.declared.stmt.Arm.{Arm}
use Rattle.gsl_tree.specs.declared.stmt.Stmt.{Stmt}
use Rattle.gsl_tree.specs.declared.stmt.Stmt.TheOpen.{Stmt-F, Arm-F}
use Rattle.gsl_tree.specs.declared.stmt.Stmt.TheFolds.{fold-Stmt, fold-Arm, map-Stmt}
use Rattle.gsl_lower_holders.specs.Flow.{Emit, ◌>>=◌, given, opening, putting_here}
use Rattle.gsl_lower_expr.specs.Calls.{zeros}
use Rattle.gsl_lower_expr.specs.Lowering.{Setting, lowers}
use Rattle.gsl_lower_needs.specs.Bodies.{any_leaves, leaves_by}
use Rattle.gsl_lower_stmt.specs.declared.exits.Exits.{Exits}
use Rattle.gsl_lower_stmt.specs.Parts.{LowerArm, LowerStmt, begin_else, begin_if, begin_switch, begins_with, end_if, falling, in_turn, leave_by, looped, returned}

abbrev pub value_of : Setting → Expr → Emit ℕ
value_of s e = (lowers s e).value

abbrev pub value_if_any : Setting → Option Expr → Option (Emit ℕ)
value_if_any s None = None
value_if_any s (Some e) = Some (value_of s e)

-- a variable without an initialiser is zeros
abbrev pub initial : Setting → List Ty → ℕ → Option Expr → Emit ℕ
initial s locals number None = zeros (slice_index_or locals number Void)
initial s locals number (Some e) = value_of s e

-- no statement
abbrev pub nothing : LowerStmt
nothing = record { leaves = Bool.false; run = λ exits. given tt }

abbrev pub or_nothing : Option LowerStmt → LowerStmt
or_nothing None = nothing
or_nothing (Some s) = s

abbrev pub forked : Emit ℕ → LowerStmt → LowerStmt → Exits → Emit (Unit {0})
forked test first other exits =
    test >>= begin_if >>= (λ f. first.run exits >>= (λ a. begin_else f first.leaves >>= (λ b. other.run exits >>= (λ c. end_if f other.leaves))))

abbrev pub words_of : List LowerArm → List (List ℕ)
words_of arms = map (λ (arm : LowerArm). arm.labels) arms

abbrev pub defaults_of : List LowerArm → List Bool
defaults_of arms = map (λ (arm : LowerArm). arm.is_default) arms

abbrev pub switched : Emit ℕ → List LowerArm → Exits → Emit (Unit {0})
switched value arms exits =
    value >>= begin_switch (words_of arms) (defaults_of arms) >>= (λ l. falling l.end l.arms arms exits >>= (λ done. opening l.end))

-- ---- every kind of statement

abbrev pub runs_by : Setting → List Ty → Stmt-F LowerStmt LowerArm → Exits → Emit (Unit {0})
runs_by s locals Stmt-F.Empty exits = given tt
runs_by s locals (Stmt-F.Eval e) exits = value_of s e >>= (λ v. given tt)
runs_by s locals (Stmt-F.Declare number init) exits = initial s locals number init >>= begins_with number
runs_by s locals (Stmt-F.Group ss) exits = in_turn ss exits
runs_by s locals (Stmt-F.If test first other) exits = forked (value_of s test) first (or_nothing other) exits
runs_by s locals (Stmt-F.Loop test step body test_last) exits = looped test_last (value_if_any s test) (value_if_any s step) body
runs_by s locals (Stmt-F.Switch e arms) exits = switched (value_of s e) arms exits
runs_by s locals Stmt-F.Break exits = leave_by exits.break_to
runs_by s locals Stmt-F.Continue exits = leave_by exits.continue_to
runs_by s locals (Stmt-F.Return e) exits = returned (value_if_any s e)
runs_by s locals Stmt-F.Discard exits = putting_here op.KILL []

abbrev pub stmt_by : Setting → List Ty → Stmt-F LowerStmt LowerArm → LowerStmt
stmt_by s locals layer = record { leaves = leaves_by (map-Stmt _ _ _ _ (λ (x : LowerStmt). x.leaves) (λ (x : LowerArm). x.leaves) layer); run = runs_by s locals layer }

abbrev pub arm_by : Arm-F LowerStmt LowerArm → LowerArm
arm_by arm = record { labels = arm.labels; is_default = arm.is_default; leaves = any_leaves (map (λ (x : LowerStmt). x.leaves) arm.body); run = in_turn arm.body }

-- what a statement is lowered to, among local variables of these types
unfoldable pub lowers_stmt : Setting → List Ty → Stmt → LowerStmt
lowers_stmt s locals = fold-Stmt LowerStmt LowerArm (stmt_by s locals) arm_by

unfoldable pub lowers_arm : Setting → List Ty → Arm → LowerArm
lowers_arm s locals = fold-Arm LowerStmt LowerArm (stmt_by s locals) arm_by
