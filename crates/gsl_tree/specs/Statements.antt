-- Which typed statements are well typed, and how deeply arms stand within each other (GLSL 4.50, chapter 6).
use Rattle.std.specs.Prelude.{◌≡◌, ◌≢◌, ℕ, ◌+◌, ◌^◌, ◌<◌, ◌≤◌, max, Bool, true, false, not, IsTrue, IsSome, IsNone, List, [], ◌∷◌, ◌++◌, length, slice_get, Option, Some, None}
use Rattle.std.specs.List.{AllByRecursion}
use Rattle.gsl_base.specs.declared.stage.Stage.TheVariants.{Fragment}
use Rattle.gsl_types.specs.declared.ty.Ty.{Ty}
use Rattle.gsl_types.specs.declared.ty.Ty.TheVariants as ty
use Rattle.gsl_tree.specs.declared.expr.Expr.{Expr}
use Rattle.gsl_tree.specs.declared.expr.LogicOp.{LogicOp}
use Rattle.gsl_tree.specs.declared.expr.LogicOp.TheVariants.{And, Or, Xor}
use Rattle.gsl_tree.specs.declared.expr.ExprKind.TheOpen.{ExprKind-F}
use Rattle.gsl_tree.specs.declared.expr.ExprKind.TheFolds.{fold-Expr}
use Rattle.gsl_tree.specs.declared.stmt.Stmt.{Stmt, out-Stmt}
use Rattle.gsl_tree.specs.declared.stmt.Stmt.TheOpen.{Stmt-F, Arm-F}
use Rattle.gsl_tree.specs.declared.stmt.Stmt.TheFolds.{fold-Stmt}
use Rattle.gsl_tree.specs.declared.stmt.Arm.{Arm, out-Arm}
use Rattle.gsl_tree.specs.Trees.{type_of, Exits, outside, exprs_of, Along, AlongAll, with_exits}
use Rattle.gsl_tree.specs.Around.{Around}
use Rattle.gsl_tree.specs.Paths.{kind_in, repeats}
use Rattle.gsl_tree.specs.Expressions.{IsExpr, IsIndex, MayBeRead, boolean}

-- ---- arms of a switch

abbrev pub labels_of : List Arm → List ℕ
labels_of [] = []
labels_of (arm ∷ arms) = (out-Arm arm).labels ++ labels_of arms

abbrev pub one_more : Bool → ℕ → ℕ
one_more true n = n + 1
one_more false n = n

abbrev pub defaults_in : List Arm → ℕ
defaults_in [] = 0
defaults_in (arm ∷ arms) = one_more (out-Arm arm).is_default (defaults_in arms)

-- An arm begins with a label, and has a statement behind its labels.
pub record IsArm (arm : Arm) : Type 0 where
  pub labelled : 0 < one_more (out-Arm arm).is_default (length (out-Arm arm).labels)
  pub words : AllByRecursion (λ word. word < 2 ^ 32) (out-Arm arm).labels
  pub filled : 0 < length (out-Arm arm).body

-- a `switch` has at most so many labels
abbrev pub most_labels : ℕ
most_labels = 16383

-- The labels of a `switch` differ, and at most one is `default`.
pub record AreArms (arms : List Arm) : Type 0 where
  pub each : AllByRecursion IsArm arms
  pub differ : IsTrue (not (repeats (labels_of arms)))
  pub default : defaults_in arms ≤ 1
  pub count : length (labels_of arms) + defaults_in arms ≤ most_labels

-- ---- one statement over its parts

-- an expression that may be missing has this type
abbrev pub HasTypeIfAny : Ty → Option Expr → Type 0
HasTypeIfAny t None = Unit {0}
HasTypeIfAny t (Some e) = type_of e ≡ t

-- a value is returned where the function has one, and only there
abbrev pub Returns : Ty → Option Expr → Type 0
Returns result None = result ≡ ty.Void
Returns result (Some e) = (result ≢ ty.Void) × (type_of e ≡ result)

-- A loop that is tested last has a test and no step.
abbrev pub IsLoop : Option Expr → Option Expr → Bool → Type 0
IsLoop test step true = IsSome test × IsNone step × HasTypeIfAny boolean test
IsLoop test step false = HasTypeIfAny boolean test

-- a local variable is declared, with an initialiser of its type or none
abbrev pub DeclaresLocal : List Ty → ℕ → Option Expr → Type 0
DeclaresLocal locals number init = (t : Ty) × (slice_get locals number ≡ Some t) × HasTypeIfAny t init

-- By its kind, a statement over well typed parts may stand here, in a function of this result.
abbrev pub MayStand : Around → Ty → Exits → Stmt-F Stmt Arm → Type 0
MayStand around result exits Stmt-F.Empty = Unit {0}
MayStand around result exits (Stmt-F.Eval e) = Unit {0}
MayStand around result exits (Stmt-F.Declare number init) = DeclaresLocal around.locals number init
MayStand around result exits (Stmt-F.Group stmts) = Unit {0}
MayStand around result exits (Stmt-F.If test then other) = type_of test ≡ boolean
MayStand around result exits (Stmt-F.Loop test step body test_last) = IsLoop test step test_last
MayStand around result exits (Stmt-F.Switch selector arms) = IsIndex (type_of selector) × AreArms arms
MayStand around result exits Stmt-F.Break = IsTrue exits.breaks
MayStand around result exits Stmt-F.Continue = IsTrue exits.continues
MayStand around result exits (Stmt-F.Return value) = Returns result value
MayStand around result exits Stmt-F.Discard = around.stage ≡ Fragment

-- A statement over its parts: it may stand here, and its expressions are well typed and may be read.
pub record IsStep (around : Around) (result : Ty) (exits : Exits) (s : Stmt) : Type 0 where
  pub stands : MayStand around result exits (out-Stmt s)
  pub typed : AllByRecursion (IsExpr around) (exprs_of (out-Stmt s))
  pub reads : AllByRecursion (MayBeRead around) (exprs_of (out-Stmt s))

-- A statement is well typed where it and each statement in it is one over its parts.
abbrev pub IsStmt : Around → Ty → Exits → Stmt → Type 0
IsStmt around result exits s = Along (IsStep around result) exits s

-- the body of a function of this result
abbrev pub IsBody : Around → Ty → List Stmt → Type 0
IsBody around result stmts = AlongAll (IsStep around result) (with_exits outside stmts)

-- ---- how deeply arms stand within each other

abbrev pub deepest : List ℕ → ℕ
deepest [] = 0
deepest (depth ∷ depths) = max depth (deepest depths)

abbrev pub logic_depth : LogicOp → ℕ → ℕ → ℕ
logic_depth And a b = max a (1 + b)
logic_depth Or a b = max a (1 + b)
logic_depth Xor a b = max a b

abbrev pub depth_by : ExprKind-F ℕ ℕ → ℕ
depth_by (ExprKind-F.Member a number) = a
depth_by (ExprKind-F.Index a i) = max a i
depth_by (ExprKind-F.Swizzle a lanes) = a
depth_by (ExprKind-F.Length a) = a
depth_by (ExprKind-F.Unary op a) = a
depth_by (ExprKind-F.Binary op a b) = max a b
depth_by (ExprKind-F.Logic op a b) = logic_depth op a b
depth_by (ExprKind-F.Choose test a b) = max test (1 + max a b)
depth_by (ExprKind-F.Assign a b) = max a b
depth_by (ExprKind-F.Update op a b) = max a b
depth_by (ExprKind-F.Step op a) = a
depth_by (ExprKind-F.Call number args) = deepest args
depth_by (ExprKind-F.Built which args) = deepest args
depth_by (ExprKind-F.Build args) = deepest args
depth_by (ExprKind-F.Convert a) = a
depth_by (ExprKind-F.Comma items) = deepest items
depth_by _ = 0

-- How many arms of an expression stand within each other: the second operand of `&&` and `||`, and the second and third of `?:`.
abbrev pub expr_depth : Expr → ℕ
expr_depth = fold-Expr ℕ ℕ depth_by kind_in

abbrev pub depth_in : Option Expr → ℕ
depth_in None = 0
depth_in (Some e) = expr_depth e

abbrev pub depth_or : Option ℕ → ℕ
depth_or None = 0
depth_or (Some depth) = depth

abbrev pub stmt_depth_by : Stmt-F ℕ ℕ → ℕ
stmt_depth_by (Stmt-F.Eval e) = expr_depth e
stmt_depth_by (Stmt-F.Declare number init) = depth_in init
stmt_depth_by (Stmt-F.Group stmts) = deepest stmts
stmt_depth_by (Stmt-F.If test then other) = max (expr_depth test) (1 + max then (depth_or other))
stmt_depth_by (Stmt-F.Loop test step body test_last) = 1 + max (depth_in test) (max (depth_in step) body)
stmt_depth_by (Stmt-F.Switch selector arms) = max (expr_depth selector) (deepest arms)
stmt_depth_by (Stmt-F.Return value) = depth_in value
stmt_depth_by _ = 0

abbrev pub arm_depth_by : Arm-F ℕ ℕ → ℕ
arm_depth_by arm = 1 + deepest arm.body

-- How many arms of a statement stand within each other: those of its expressions, each part of a loop, the second and third part of
-- an `if`, and each body of a `switch`.
abbrev pub stmt_depth : Stmt → ℕ
stmt_depth = fold-Stmt ℕ ℕ stmt_depth_by arm_depth_by

-- arms stand at most so many deep within each other
abbrev pub most_deep : ℕ
most_deep = 256
