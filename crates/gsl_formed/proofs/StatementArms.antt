-- How many arms of a statement stand within each other, by what stands at its top.
use Rattle.std.proofs.Common.{◌≡◌, ℕ, ◌+◌, max, List, map, Option}
use Rattle.gsl_base.specs.declared.fault.Place.{Place}
use Rattle.gsl_syntax.specs.declared.expr.Expr.{Expr}
use Rattle.gsl_syntax.specs.declared.declaration.Decl.{Decl}
use Rattle.gsl_syntax.specs.declared.statement.ForInit.{ForInit}
use Rattle.gsl_syntax.specs.declared.statement.Stmt.{Stmt}
use Rattle.gsl_syntax.specs.declared.statement.Stmt.TheVariants as s
use Rattle.gsl_tree.specs.Statements.{deepest}
use Rattle.gsl_formed.specs.Nested.{expr_arms, arms_if, decl_arms, init_part_arms, stmt_arms_by, stmt_arms}
use Rattle.gsl_formed.proofs.Folds as at

abbrev pub row_arms : List Stmt → ℕ
row_arms bs = deepest (map stmt_arms bs)

pub arms_Empty : (p : Place) → stmt_arms (s.Empty p) ≡ 0
unfolding stmt_arms
arms_Empty p = at.stmt-Empty ℕ stmt_arms_by p

pub arms_Block : (p : Place) (bs : List Stmt) → stmt_arms (s.Block p bs) ≡ row_arms bs
unfolding stmt_arms
arms_Block p bs = at.stmt-Block ℕ stmt_arms_by p bs

pub arms_Decl : (d : Decl) → stmt_arms (s.Decl d) ≡ decl_arms d
unfolding stmt_arms
arms_Decl d = at.stmt-Decl ℕ stmt_arms_by d

pub arms_Expr : (a : Expr) → stmt_arms (s.Expr a) ≡ expr_arms a
unfolding stmt_arms
arms_Expr a = at.stmt-Expr ℕ stmt_arms_by a

pub arms_If : (p : Place) (a : Expr) (b : Stmt) → stmt_arms (s.If p a b) ≡ max (expr_arms a) (1 + stmt_arms b)
unfolding stmt_arms
arms_If p a b = at.stmt-If ℕ stmt_arms_by p a b

pub arms_IfElse : (p : Place) (a : Expr) (b d : Stmt) → stmt_arms (s.IfElse p a b d) ≡ max (expr_arms a) (1 + max (stmt_arms b) (stmt_arms d))
unfolding stmt_arms
arms_IfElse p a b d = at.stmt-IfElse ℕ stmt_arms_by p a b d

pub arms_Switch : (p : Place) (a : Expr) (bs : List Stmt) → stmt_arms (s.Switch p a bs) ≡ max (expr_arms a) (1 + row_arms bs)
unfolding stmt_arms
arms_Switch p a bs = at.stmt-Switch ℕ stmt_arms_by p a bs

pub arms_Case : (p : Place) (a : Expr) → stmt_arms (s.Case p a) ≡ 0
unfolding stmt_arms
arms_Case p a = at.stmt-Case ℕ stmt_arms_by p a

pub arms_Default : (p : Place) → stmt_arms (s.Default p) ≡ 0
unfolding stmt_arms
arms_Default p = at.stmt-Default ℕ stmt_arms_by p

pub arms_While : (p : Place) (a : Expr) (b : Stmt) → stmt_arms (s.While p a b) ≡ 1 + max (expr_arms a) (stmt_arms b)
unfolding stmt_arms
arms_While p a b = at.stmt-While ℕ stmt_arms_by p a b

pub arms_Do : (p : Place) (b : Stmt) (a : Expr) → stmt_arms (s.Do p b a) ≡ 1 + max (stmt_arms b) (expr_arms a)
unfolding stmt_arms
arms_Do p b a = at.stmt-Do ℕ stmt_arms_by p b a

pub arms_For : (p : Place) (i : ForInit) (a b : Option Expr) (d : Stmt) → stmt_arms (s.For p i a b d) ≡ max (init_part_arms i) (1 + max (arms_if a) (max (arms_if b) (stmt_arms d)))
unfolding stmt_arms
arms_For p i a b d = at.stmt-For ℕ stmt_arms_by p i a b d

pub arms_Break : (p : Place) → stmt_arms (s.Break p) ≡ 0
unfolding stmt_arms
arms_Break p = at.stmt-Break ℕ stmt_arms_by p

pub arms_Continue : (p : Place) → stmt_arms (s.Continue p) ≡ 0
unfolding stmt_arms
arms_Continue p = at.stmt-Continue ℕ stmt_arms_by p

pub arms_Discard : (p : Place) → stmt_arms (s.Discard p) ≡ 0
unfolding stmt_arms
arms_Discard p = at.stmt-Discard ℕ stmt_arms_by p

pub arms_Return : (p : Place) → stmt_arms (s.Return p) ≡ 0
unfolding stmt_arms
arms_Return p = at.stmt-Return ℕ stmt_arms_by p

pub arms_ReturnValue : (p : Place) (a : Expr) → stmt_arms (s.ReturnValue p a) ≡ expr_arms a
unfolding stmt_arms
arms_ReturnValue p a = at.stmt-ReturnValue ℕ stmt_arms_by p a
