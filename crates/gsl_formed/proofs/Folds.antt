-- Each fold over syntax trees, by what stands at the top of the tree.
use Rattle.std.proofs.Common.{◌≡◌, sym, ap, ◌∙◌, ℕ, Bool, List, map, Option}
use Rattle.gsl_base.specs.declared.fault.Place.{Place}
use Rattle.gsl_syntax.specs.declared.operator.BinaryOp.{BinaryOp}
use Rattle.gsl_syntax.specs.declared.operator.AssignOp.{AssignOp}
use Rattle.gsl_syntax.specs.declared.operator.UnaryOp.{UnaryOp}
use Rattle.gsl_syntax.specs.declared.operator.PostfixOp.{PostfixOp}
use Rattle.gsl_syntax.specs.declared.expr.Basic.{Basic}
use Rattle.gsl_syntax.specs.declared.expr.Expr.{Expr}
use Rattle.gsl_syntax.specs.declared.expr.Expr.TheVariants as e
use Rattle.gsl_syntax.specs.declared.expr.TypeSpec.{TypeSpec}
use Rattle.gsl_syntax.specs.declared.expr.TypeSpec.TheVariants as ty
use Rattle.gsl_syntax.specs.declared.expr.Dim.{Dim}
use Rattle.gsl_syntax.specs.declared.expr.Dim.TheVariants as dim
use Rattle.gsl_syntax.specs.declared.expr.Dim.TheOpen.{Expr-F, TypeSpec-F, Dim-F}
use Rattle.gsl_syntax.specs.declared.expr.Dim.TheFolds.{fold-Expr, fold-TypeSpec, fold-Dim, fold-roll-Expr, fold-roll-TypeSpec, fold-roll-Dim}
use Rattle.gsl_syntax.specs.declared.declaration.Decl.{Decl}
use Rattle.gsl_syntax.specs.declared.declaration.Init.{Init}
use Rattle.gsl_syntax.specs.declared.declaration.Init.TheVariants as init
use Rattle.gsl_syntax.specs.declared.declaration.Init.TheOpen.{Init-F}
use Rattle.gsl_syntax.specs.declared.declaration.Init.TheFolds.{fold-Init, fold-roll-Init}
use Rattle.gsl_syntax.specs.declared.statement.ForInit.{ForInit}
use Rattle.gsl_syntax.specs.declared.statement.Stmt.{Stmt}
use Rattle.gsl_syntax.specs.declared.statement.Stmt.TheVariants as s
use Rattle.gsl_syntax.specs.declared.statement.Stmt.TheOpen.{Stmt-F}
use Rattle.gsl_syntax.specs.declared.statement.Stmt.TheFolds.{fold-Stmt, fold-roll-Stmt}

-- ---- expressions, types and brackets

module _ (D E T : Type 0) (by_dim : Dim-F D E T → D) (by_expr : Expr-F D E T → E) (by_type : TypeSpec-F D E T → T) where
  abbrev into : Expr → E
  into = fold-Expr D E T by_dim by_expr by_type

  abbrev into_type : TypeSpec → T
  into_type = fold-TypeSpec D E T by_dim by_expr by_type

  abbrev into_dim : Dim → D
  into_dim = fold-Dim D E T by_dim by_expr by_type

  pub at-Name : (p : Place) (n : List ℕ) → into (e.Name p n) ≡ by_expr (Expr-F.Name p n)
  at-Name p n = ap into (sym (e.rolls-Name p n)) ∙ fold-roll-Expr D E T by_dim by_expr by_type (Expr-F.Name p n)

  pub at-Signed : (p : Place) (n : ℕ) → into (e.Signed p n) ≡ by_expr (Expr-F.Signed p n)
  at-Signed p n = ap into (sym (e.rolls-Signed p n)) ∙ fold-roll-Expr D E T by_dim by_expr by_type (Expr-F.Signed p n)

  pub at-Unsigned : (p : Place) (n : ℕ) → into (e.Unsigned p n) ≡ by_expr (Expr-F.Unsigned p n)
  at-Unsigned p n = ap into (sym (e.rolls-Unsigned p n)) ∙ fold-roll-Expr D E T by_dim by_expr by_type (Expr-F.Unsigned p n)

  pub at-Bool : (p : Place) (b : Bool) → into (e.Bool p b) ≡ by_expr (Expr-F.Bool p b)
  at-Bool p b = ap into (sym (e.rolls-Bool p b)) ∙ fold-roll-Expr D E T by_dim by_expr by_type (Expr-F.Bool p b)

  pub at-Paren : (p : Place) (a : Expr) → into (e.Paren p a) ≡ by_expr (Expr-F.Paren p (into a))
  at-Paren p a = ap into (sym (e.rolls-Paren p a)) ∙ fold-roll-Expr D E T by_dim by_expr by_type (Expr-F.Paren p a)

  pub at-CallVoid : (t : TypeSpec) → into (e.CallVoid t) ≡ by_expr (Expr-F.CallVoid (into_type t))
  at-CallVoid t = ap into (sym (e.rolls-CallVoid t)) ∙ fold-roll-Expr D E T by_dim by_expr by_type (Expr-F.CallVoid t)

  pub at-Call : (t : TypeSpec) (bs : List Expr) → into (e.Call t bs) ≡ by_expr (Expr-F.Call (into_type t) (map into bs))
  at-Call t bs = ap into (sym (e.rolls-Call t bs)) ∙ fold-roll-Expr D E T by_dim by_expr by_type (Expr-F.Call t bs)

  pub at-Index : (p : Place) (a b : Expr) → into (e.Index p a b) ≡ by_expr (Expr-F.Index p (into a) (into b))
  at-Index p a b = ap into (sym (e.rolls-Index p a b)) ∙ fold-roll-Expr D E T by_dim by_expr by_type (Expr-F.Index p a b)

  pub at-Member : (p : Place) (a : Expr) (n : List ℕ) → into (e.Member p a n) ≡ by_expr (Expr-F.Member p (into a) n)
  at-Member p a n = ap into (sym (e.rolls-Member p a n)) ∙ fold-roll-Expr D E T by_dim by_expr by_type (Expr-F.Member p a n)

  pub at-Method : (p : Place) (a : Expr) (n : List ℕ) → into (e.Method p a n) ≡ by_expr (Expr-F.Method p (into a) n)
  at-Method p a n = ap into (sym (e.rolls-Method p a n)) ∙ fold-roll-Expr D E T by_dim by_expr by_type (Expr-F.Method p a n)

  pub at-Postfix : (p : Place) (o : PostfixOp) (a : Expr) → into (e.Postfix p o a) ≡ by_expr (Expr-F.Postfix p o (into a))
  at-Postfix p o a = ap into (sym (e.rolls-Postfix p o a)) ∙ fold-roll-Expr D E T by_dim by_expr by_type (Expr-F.Postfix p o a)

  pub at-Unary : (p : Place) (o : UnaryOp) (a : Expr) → into (e.Unary p o a) ≡ by_expr (Expr-F.Unary p o (into a))
  at-Unary p o a = ap into (sym (e.rolls-Unary p o a)) ∙ fold-roll-Expr D E T by_dim by_expr by_type (Expr-F.Unary p o a)

  pub at-Binary : (p : Place) (o : BinaryOp) (a b : Expr) → into (e.Binary p o a b) ≡ by_expr (Expr-F.Binary p o (into a) (into b))
  at-Binary p o a b = ap into (sym (e.rolls-Binary p o a b)) ∙ fold-roll-Expr D E T by_dim by_expr by_type (Expr-F.Binary p o a b)

  pub at-Conditional : (p : Place) (a b c : Expr) → into (e.Conditional p a b c) ≡ by_expr (Expr-F.Conditional p (into a) (into b) (into c))
  at-Conditional p a b c = ap into (sym (e.rolls-Conditional p a b c)) ∙ fold-roll-Expr D E T by_dim by_expr by_type (Expr-F.Conditional p a b c)

  pub at-Assign : (p : Place) (o : AssignOp) (a b : Expr) → into (e.Assign p o a b) ≡ by_expr (Expr-F.Assign p o (into a) (into b))
  at-Assign p o a b = ap into (sym (e.rolls-Assign p o a b)) ∙ fold-roll-Expr D E T by_dim by_expr by_type (Expr-F.Assign p o a b)

  pub at-Sequence : (a : Expr) (bs : List (Place × Expr)) → into (e.Sequence a bs) ≡ by_expr (Expr-F.Sequence (into a) (map (λ (n : Place × Expr). (n.0, into n.1)) bs))
  at-Sequence a bs = ap into (sym (e.rolls-Sequence a bs)) ∙ fold-roll-Expr D E T by_dim by_expr by_type (Expr-F.Sequence a bs)

  pub at-Basic : (p : Place) (b : Basic) (ds : List Dim) → into_type (ty.Basic p b ds) ≡ by_type (TypeSpec-F.Basic p b (map into_dim ds))
  at-Basic p b ds = ap into_type (sym (ty.rolls-Basic p b ds)) ∙ fold-roll-TypeSpec D E T by_dim by_expr by_type (TypeSpec-F.Basic p b ds)

  pub at-Named : (p : Place) (n : List ℕ) (ds : List Dim) → into_type (ty.Named p n ds) ≡ by_type (TypeSpec-F.Named p n (map into_dim ds))
  at-Named p n ds = ap into_type (sym (ty.rolls-Named p n ds)) ∙ fold-roll-TypeSpec D E T by_dim by_expr by_type (TypeSpec-F.Named p n ds)

  pub at-Open : (p : Place) → into_dim (dim.Open p) ≡ by_dim (Dim-F.Open p)
  at-Open p = ap into_dim (sym (dim.rolls-Open p)) ∙ fold-roll-Dim D E T by_dim by_expr by_type (Dim-F.Open p)

  pub at-Sized : (p : Place) (a : Expr) → into_dim (dim.Sized p a) ≡ by_dim (Dim-F.Sized p (into a))
  at-Sized p a = ap into_dim (sym (dim.rolls-Sized p a)) ∙ fold-roll-Dim D E T by_dim by_expr by_type (Dim-F.Sized p a)

-- ---- initialisers

module _ (I : Type 0) (by_init : Init-F I → I) where
  abbrev into_init : Init → I
  into_init = fold-Init I by_init

  pub init-Expr : (a : Expr) → into_init (init.Expr a) ≡ by_init (Init-F.Expr a)
  init-Expr a = ap into_init (sym (init.rolls-Expr a)) ∙ fold-roll-Init I by_init (Init-F.Expr a)

  pub init-Braces : (p : Place) (bs : List Init) → into_init (init.Braces p bs) ≡ by_init (Init-F.Braces p (map into_init bs))
  init-Braces p bs = ap into_init (sym (init.rolls-Braces p bs)) ∙ fold-roll-Init I by_init (Init-F.Braces p bs)

-- ---- statements

module _ (S : Type 0) (by_stmt : Stmt-F S → S) where
  abbrev into_stmt : Stmt → S
  into_stmt = fold-Stmt S by_stmt

  pub stmt-Empty : (p : Place) → into_stmt (s.Empty p) ≡ by_stmt (Stmt-F.Empty p)
  stmt-Empty p = ap into_stmt (sym (s.rolls-Empty p)) ∙ fold-roll-Stmt S by_stmt (Stmt-F.Empty p)

  pub stmt-Block : (p : Place) (bs : List Stmt) → into_stmt (s.Block p bs) ≡ by_stmt (Stmt-F.Block p (map into_stmt bs))
  stmt-Block p bs = ap into_stmt (sym (s.rolls-Block p bs)) ∙ fold-roll-Stmt S by_stmt (Stmt-F.Block p bs)

  pub stmt-Decl : (d : Decl) → into_stmt (s.Decl d) ≡ by_stmt (Stmt-F.Decl d)
  stmt-Decl d = ap into_stmt (sym (s.rolls-Decl d)) ∙ fold-roll-Stmt S by_stmt (Stmt-F.Decl d)

  pub stmt-Expr : (a : Expr) → into_stmt (s.Expr a) ≡ by_stmt (Stmt-F.Expr a)
  stmt-Expr a = ap into_stmt (sym (s.rolls-Expr a)) ∙ fold-roll-Stmt S by_stmt (Stmt-F.Expr a)

  pub stmt-If : (p : Place) (a : Expr) (b : Stmt) → into_stmt (s.If p a b) ≡ by_stmt (Stmt-F.If p a (into_stmt b))
  stmt-If p a b = ap into_stmt (sym (s.rolls-If p a b)) ∙ fold-roll-Stmt S by_stmt (Stmt-F.If p a b)

  pub stmt-IfElse : (p : Place) (a : Expr) (b d : Stmt) → into_stmt (s.IfElse p a b d) ≡ by_stmt (Stmt-F.IfElse p a (into_stmt b) (into_stmt d))
  stmt-IfElse p a b d = ap into_stmt (sym (s.rolls-IfElse p a b d)) ∙ fold-roll-Stmt S by_stmt (Stmt-F.IfElse p a b d)

  pub stmt-Switch : (p : Place) (a : Expr) (bs : List Stmt) → into_stmt (s.Switch p a bs) ≡ by_stmt (Stmt-F.Switch p a (map into_stmt bs))
  stmt-Switch p a bs = ap into_stmt (sym (s.rolls-Switch p a bs)) ∙ fold-roll-Stmt S by_stmt (Stmt-F.Switch p a bs)

  pub stmt-Case : (p : Place) (a : Expr) → into_stmt (s.Case p a) ≡ by_stmt (Stmt-F.Case p a)
  stmt-Case p a = ap into_stmt (sym (s.rolls-Case p a)) ∙ fold-roll-Stmt S by_stmt (Stmt-F.Case p a)

  pub stmt-Default : (p : Place) → into_stmt (s.Default p) ≡ by_stmt (Stmt-F.Default p)
  stmt-Default p = ap into_stmt (sym (s.rolls-Default p)) ∙ fold-roll-Stmt S by_stmt (Stmt-F.Default p)

  pub stmt-While : (p : Place) (a : Expr) (b : Stmt) → into_stmt (s.While p a b) ≡ by_stmt (Stmt-F.While p a (into_stmt b))
  stmt-While p a b = ap into_stmt (sym (s.rolls-While p a b)) ∙ fold-roll-Stmt S by_stmt (Stmt-F.While p a b)

  pub stmt-Do : (p : Place) (b : Stmt) (a : Expr) → into_stmt (s.Do p b a) ≡ by_stmt (Stmt-F.Do p (into_stmt b) a)
  stmt-Do p b a = ap into_stmt (sym (s.rolls-Do p b a)) ∙ fold-roll-Stmt S by_stmt (Stmt-F.Do p b a)

  pub stmt-For : (p : Place) (i : ForInit) (a b : Option Expr) (d : Stmt) → into_stmt (s.For p i a b d) ≡ by_stmt (Stmt-F.For p i a b (into_stmt d))
  stmt-For p i a b d = ap into_stmt (sym (s.rolls-For p i a b d)) ∙ fold-roll-Stmt S by_stmt (Stmt-F.For p i a b d)

  pub stmt-Break : (p : Place) → into_stmt (s.Break p) ≡ by_stmt (Stmt-F.Break p)
  stmt-Break p = ap into_stmt (sym (s.rolls-Break p)) ∙ fold-roll-Stmt S by_stmt (Stmt-F.Break p)

  pub stmt-Continue : (p : Place) → into_stmt (s.Continue p) ≡ by_stmt (Stmt-F.Continue p)
  stmt-Continue p = ap into_stmt (sym (s.rolls-Continue p)) ∙ fold-roll-Stmt S by_stmt (Stmt-F.Continue p)

  pub stmt-Discard : (p : Place) → into_stmt (s.Discard p) ≡ by_stmt (Stmt-F.Discard p)
  stmt-Discard p = ap into_stmt (sym (s.rolls-Discard p)) ∙ fold-roll-Stmt S by_stmt (Stmt-F.Discard p)

  pub stmt-Return : (p : Place) → into_stmt (s.Return p) ≡ by_stmt (Stmt-F.Return p)
  stmt-Return p = ap into_stmt (sym (s.rolls-Return p)) ∙ fold-roll-Stmt S by_stmt (Stmt-F.Return p)

  pub stmt-ReturnValue : (p : Place) (a : Expr) → into_stmt (s.ReturnValue p a) ≡ by_stmt (Stmt-F.ReturnValue p a)
  stmt-ReturnValue p a = ap into_stmt (sym (s.rolls-ReturnValue p a)) ∙ fold-roll-Stmt S by_stmt (Stmt-F.ReturnValue p a)
