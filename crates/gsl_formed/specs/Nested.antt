-- How many arms of a syntax tree stand within each other, as `gsl_tree` counts those of typed trees: the second operand of `&&` and `||`, the
-- second and third of `?:`, each part of a loop, the second and third part of an `if`, and the body of a `switch`.
use Rattle.std.specs.Prelude.{ℕ, ◌+◌, ◌≤◌, max, List, [], ◌∷◌, map, Option, Some, None}
use Rattle.std.specs.List.{AllByRecursion}
use Rattle.gsl_base.specs.declared.fault.Place.{Place}
use Rattle.gsl_syntax.specs.declared.operator.BinaryOp.{BinaryOp}
use Rattle.gsl_syntax.specs.declared.operator.BinaryOp.TheVariants.{LogicalAnd, LogicalOr}
use Rattle.gsl_syntax.specs.declared.expr.Expr.{Expr}
use Rattle.gsl_syntax.specs.declared.expr.Dim.TheOpen.{Expr-F}
use Rattle.gsl_syntax.specs.declared.expr.Dim.TheFolds.{fold-Expr}
use Rattle.gsl_syntax.specs.declared.declaration.Init.{Init}
use Rattle.gsl_syntax.specs.declared.declaration.Init.TheOpen.{Init-F}
use Rattle.gsl_syntax.specs.declared.declaration.Init.TheFolds.{fold-Init}
use Rattle.gsl_syntax.specs.declared.declaration.Declarator.{Declarator}
use Rattle.gsl_syntax.specs.declared.declaration.Declarator.TheVariants as declarator
use Rattle.gsl_syntax.specs.declared.declaration.Decl.{Decl}
use Rattle.gsl_syntax.specs.declared.declaration.Decl.TheVariants as decl
use Rattle.gsl_syntax.specs.declared.statement.ForInit.{ForInit}
use Rattle.gsl_syntax.specs.declared.statement.ForInit.TheVariants as for_init
use Rattle.gsl_syntax.specs.declared.statement.Stmt.{Stmt}
use Rattle.gsl_syntax.specs.declared.statement.Stmt.TheOpen.{Stmt-F}
use Rattle.gsl_syntax.specs.declared.statement.Stmt.TheFolds.{fold-Stmt}
use Rattle.gsl_syntax.specs.declared.statement.Body.{Body}
use Rattle.gsl_syntax.specs.declared.statement.Body.TheVariants as body_of
use Rattle.gsl_syntax.specs.declared.statement.Global.{Global}
use Rattle.gsl_syntax.specs.declared.statement.Global.TheVariants as global
use Rattle.gsl_tree.specs.Statements.{deepest, most_deep}

-- ---- expressions

abbrev pub binary_arms : BinaryOp → ℕ → ℕ → ℕ
binary_arms LogicalAnd a b = max a (1 + b)
binary_arms LogicalOr a b = max a (1 + b)
binary_arms _ a b = max a b

abbrev pub rest_arms : List (Place × ℕ) → ℕ
rest_arms [] = 0
rest_arms (next ∷ rest) = max next.1 (rest_arms rest)

-- The sizes in brackets are no parts of a typed tree.
abbrev pub expr_arms_by : Expr-F (Unit {0}) ℕ (Unit {0}) → ℕ
expr_arms_by (Expr-F.Name place name) = 0
expr_arms_by (Expr-F.Signed place word) = 0
expr_arms_by (Expr-F.Unsigned place word) = 0
expr_arms_by (Expr-F.Bool place value) = 0
expr_arms_by (Expr-F.Paren place inner) = inner
expr_arms_by (Expr-F.CallVoid callee) = 0
expr_arms_by (Expr-F.Call callee args) = deepest args
expr_arms_by (Expr-F.Index place a i) = max a i
expr_arms_by (Expr-F.Member place a name) = a
expr_arms_by (Expr-F.Method place a name) = a
expr_arms_by (Expr-F.Postfix place op a) = a
expr_arms_by (Expr-F.Unary place op a) = a
expr_arms_by (Expr-F.Binary place op a b) = binary_arms op a b
expr_arms_by (Expr-F.Conditional place test a b) = max test (1 + max a b)
expr_arms_by (Expr-F.Assign place op a b) = max a b
expr_arms_by (Expr-F.Sequence first rest) = max first (rest_arms rest)

unfoldable pub expr_arms : Expr → ℕ
expr_arms = fold-Expr (Unit {0}) ℕ (Unit {0}) (λ _. tt) expr_arms_by (λ _. tt)

abbrev pub arms_if : Option Expr → ℕ
arms_if None = 0
arms_if (Some e) = expr_arms e

-- ---- initialisers and declarations

abbrev pub init_arms_by : Init-F ℕ → ℕ
init_arms_by (Init-F.Expr e) = expr_arms e
init_arms_by (Init-F.Braces place items) = deepest items

unfoldable pub init_arms : Init → ℕ
init_arms = fold-Init ℕ init_arms_by

abbrev pub declarator_arms : Declarator → ℕ
declarator_arms (declarator.Plain name dims) = 0
declarator_arms (declarator.Initialised name dims init) = init_arms init

abbrev pub decl_arms : Decl → ℕ
decl_arms (decl.Variables quals t all) = deepest (map declarator_arms all)
decl_arms (decl.Struct quals s all) = deepest (map declarator_arms all)
decl_arms (decl.Block quals name members instance) = 0
decl_arms (decl.Quals quals) = 0

-- ---- statements

abbrev pub init_part_arms : ForInit → ℕ
init_part_arms (for_init.Empty place) = 0
init_part_arms (for_init.Expr e) = expr_arms e
init_part_arms (for_init.Decl d) = decl_arms d

abbrev pub stmt_arms_by : Stmt-F ℕ → ℕ
stmt_arms_by (Stmt-F.Empty place) = 0
stmt_arms_by (Stmt-F.Block place all) = deepest all
stmt_arms_by (Stmt-F.Decl d) = decl_arms d
stmt_arms_by (Stmt-F.Expr e) = expr_arms e
stmt_arms_by (Stmt-F.If place test body) = max (expr_arms test) (1 + body)
stmt_arms_by (Stmt-F.IfElse place test body other) = max (expr_arms test) (1 + max body other)
stmt_arms_by (Stmt-F.Switch place e all) = max (expr_arms e) (1 + deepest all)
stmt_arms_by (Stmt-F.Case place e) = 0
stmt_arms_by (Stmt-F.Default place) = 0
stmt_arms_by (Stmt-F.While place test body) = 1 + max (expr_arms test) body
stmt_arms_by (Stmt-F.Do place body test) = 1 + max body (expr_arms test)
stmt_arms_by (Stmt-F.For place init test step body) = max (init_part_arms init) (1 + max (arms_if test) (max (arms_if step) body))
stmt_arms_by (Stmt-F.Break place) = 0
stmt_arms_by (Stmt-F.Continue place) = 0
stmt_arms_by (Stmt-F.Discard place) = 0
stmt_arms_by (Stmt-F.Return place) = 0
stmt_arms_by (Stmt-F.ReturnValue place e) = expr_arms e

unfoldable pub stmt_arms : Stmt → ℕ
stmt_arms = fold-Stmt ℕ stmt_arms_by

-- ---- units

abbrev pub body_arms : Body → ℕ
body_arms (body_of.Prototype place) = 0
body_arms (body_of.Block place all) = deepest (map stmt_arms all)

abbrev pub global_arms : Global → ℕ
global_arms (global.Empty place) = 0
global_arms (global.Decl d) = decl_arms d
global_arms (global.Function f) = body_arms f.body

-- Arms of a unit stand no deeper within each other than they may. Each stands behind a token of its own that `first_deep` of `gsl_syntax` counts.
abbrev pub IsShallow : List Global → Type 0
IsShallow unit = AllByRecursion (λ (one : Global). global_arms one ≤ most_deep) unit
