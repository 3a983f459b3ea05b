-- What each expression, callee and pair of brackets stands for, from what its parts stand for.
use Rattle.std.proofs.Common.{◌≡◌, sym, ap, ◌∙◌, ℕ, List, Bool, map}
use Rattle.gsl_base.specs.declared.fault.Place.{Place}
use Rattle.gsl_syntax.specs.declared.operator.AssignOp.{AssignOp}
use Rattle.gsl_syntax.specs.declared.operator.BinaryOp.{BinaryOp}
use Rattle.gsl_syntax.specs.declared.operator.UnaryOp.{UnaryOp}
use Rattle.gsl_syntax.specs.declared.operator.PostfixOp.{PostfixOp}
use Rattle.gsl_syntax.specs.declared.expr.Basic.{Basic}
use Rattle.gsl_syntax.specs.declared.expr.Expr.{Expr}
use Rattle.gsl_syntax.specs.declared.expr.Expr.TheVariants as e
use Rattle.gsl_syntax.specs.declared.expr.Expr.TheVariants.{rolls-Name, rolls-Signed, rolls-Unsigned, rolls-Bool, rolls-Paren, rolls-CallVoid, rolls-Call, rolls-Index, rolls-Member, rolls-Method, rolls-Postfix, rolls-Unary, rolls-Binary, rolls-Conditional, rolls-Assign, rolls-Sequence}
use Rattle.gsl_syntax.specs.declared.expr.TypeSpec.{TypeSpec}
use Rattle.gsl_syntax.specs.declared.expr.TypeSpec.TheVariants as t
use Rattle.gsl_syntax.specs.declared.expr.TypeSpec.TheVariants.{rolls-Basic, rolls-Named}
use Rattle.gsl_syntax.specs.declared.expr.Dim.{Dim}
use Rattle.gsl_syntax.specs.declared.expr.Dim.TheVariants as d
use Rattle.gsl_syntax.specs.declared.expr.Dim.TheVariants.{rolls-Open, rolls-Sized}
use Rattle.gsl_syntax.specs.declared.expr.Dim.TheOpen.{Expr-F, TypeSpec-F, Dim-F}
use Rattle.gsl_syntax.specs.declared.expr.Dim.TheFolds.{fold-roll-Expr, fold-roll-TypeSpec, fold-roll-Dim}
use Rattle.gsl_base.specs.Checked.{Checked}
use Rattle.gsl_syntax.specs.declared.declaration.Init.{Init}
use Rattle.gsl_syntax.specs.declared.declaration.Init.TheVariants as init
use Rattle.gsl_syntax.specs.declared.declaration.Init.TheVariants.{rolls-Expr, rolls-Braces}
use Rattle.gsl_syntax.specs.declared.declaration.Init.TheOpen.{Init-F}
use Rattle.gsl_syntax.specs.declared.declaration.Init.TheFolds.{fold-roll-Init}
use Rattle.gsl_types.specs.declared.ty.Ty.{Ty}
use Rattle.gsl_typing.specs.declared.scene.Part.{Part}
use Rattle.gsl_check_expr.specs.declared.env.Env.{Env}
use Rattle.gsl_check_expr.specs.Sizes.{Bracket}
use Rattle.gsl_check_expr.specs.Callees.{Callee}
use Rattle.gsl_check_expr.specs.Initialisers.{value_as, by_items}
use Rattle.gsl_check_expr.specs.Expressions.{Answer, answer, callee, bracket, by_parts, dim_by, callee_by}

module _ (env : Env) where
  pub of-Name : (p : Place) (n : List ℕ) → answer env (e.Name p n) ≡ by_parts env (Expr-F.Name p n)
  unfolding answer callee
  of-Name p n = ap (answer env) (sym (rolls-Name p n)) ∙ fold-roll-Expr Bracket Answer Callee (dim_by env) (by_parts env) callee_by (Expr-F.Name p n)

  pub of-Signed : (p : Place) (n : ℕ) → answer env (e.Signed p n) ≡ by_parts env (Expr-F.Signed p n)
  unfolding answer callee
  of-Signed p n = ap (answer env) (sym (rolls-Signed p n)) ∙ fold-roll-Expr Bracket Answer Callee (dim_by env) (by_parts env) callee_by (Expr-F.Signed p n)

  pub of-Unsigned : (p : Place) (n : ℕ) → answer env (e.Unsigned p n) ≡ by_parts env (Expr-F.Unsigned p n)
  unfolding answer callee
  of-Unsigned p n = ap (answer env) (sym (rolls-Unsigned p n)) ∙ fold-roll-Expr Bracket Answer Callee (dim_by env) (by_parts env) callee_by (Expr-F.Unsigned p n)

  pub of-Bool : (p : Place) (b : Bool) → answer env (e.Bool p b) ≡ by_parts env (Expr-F.Bool p b)
  unfolding answer callee
  of-Bool p b = ap (answer env) (sym (rolls-Bool p b)) ∙ fold-roll-Expr Bracket Answer Callee (dim_by env) (by_parts env) callee_by (Expr-F.Bool p b)

  pub of-Paren : (p : Place) (a : Expr) → answer env (e.Paren p a) ≡ by_parts env (Expr-F.Paren p (answer env a))
  unfolding answer callee
  of-Paren p a = ap (answer env) (sym (rolls-Paren p a)) ∙ fold-roll-Expr Bracket Answer Callee (dim_by env) (by_parts env) callee_by (Expr-F.Paren p a)

  pub of-CallVoid : (t : TypeSpec) → answer env (e.CallVoid t) ≡ by_parts env (Expr-F.CallVoid (callee env t))
  unfolding answer callee
  of-CallVoid t = ap (answer env) (sym (rolls-CallVoid t)) ∙ fold-roll-Expr Bracket Answer Callee (dim_by env) (by_parts env) callee_by (Expr-F.CallVoid t)

  pub of-Call : (t : TypeSpec) (es : List Expr) → answer env (e.Call t es) ≡ by_parts env (Expr-F.Call (callee env t) (map (answer env) es))
  unfolding answer callee
  of-Call t es = ap (answer env) (sym (rolls-Call t es)) ∙ fold-roll-Expr Bracket Answer Callee (dim_by env) (by_parts env) callee_by (Expr-F.Call t es)

  pub of-Index : (p : Place) (a : Expr) (i : Expr) → answer env (e.Index p a i) ≡ by_parts env (Expr-F.Index p (answer env a) (answer env i))
  unfolding answer callee
  of-Index p a i = ap (answer env) (sym (rolls-Index p a i)) ∙ fold-roll-Expr Bracket Answer Callee (dim_by env) (by_parts env) callee_by (Expr-F.Index p a i)

  pub of-Member : (p : Place) (a : Expr) (n : List ℕ) → answer env (e.Member p a n) ≡ by_parts env (Expr-F.Member p (answer env a) n)
  unfolding answer callee
  of-Member p a n = ap (answer env) (sym (rolls-Member p a n)) ∙ fold-roll-Expr Bracket Answer Callee (dim_by env) (by_parts env) callee_by (Expr-F.Member p a n)

  pub of-Method : (p : Place) (a : Expr) (n : List ℕ) → answer env (e.Method p a n) ≡ by_parts env (Expr-F.Method p (answer env a) n)
  unfolding answer callee
  of-Method p a n = ap (answer env) (sym (rolls-Method p a n)) ∙ fold-roll-Expr Bracket Answer Callee (dim_by env) (by_parts env) callee_by (Expr-F.Method p a n)

  pub of-Postfix : (p : Place) (o : PostfixOp) (a : Expr) → answer env (e.Postfix p o a) ≡ by_parts env (Expr-F.Postfix p o (answer env a))
  unfolding answer callee
  of-Postfix p o a = ap (answer env) (sym (rolls-Postfix p o a)) ∙ fold-roll-Expr Bracket Answer Callee (dim_by env) (by_parts env) callee_by (Expr-F.Postfix p o a)

  pub of-Unary : (p : Place) (o : UnaryOp) (a : Expr) → answer env (e.Unary p o a) ≡ by_parts env (Expr-F.Unary p o (answer env a))
  unfolding answer callee
  of-Unary p o a = ap (answer env) (sym (rolls-Unary p o a)) ∙ fold-roll-Expr Bracket Answer Callee (dim_by env) (by_parts env) callee_by (Expr-F.Unary p o a)

  pub of-Binary : (p : Place) (o : BinaryOp) (a : Expr) (b : Expr) → answer env (e.Binary p o a b) ≡ by_parts env (Expr-F.Binary p o (answer env a) (answer env b))
  unfolding answer callee
  of-Binary p o a b = ap (answer env) (sym (rolls-Binary p o a b)) ∙ fold-roll-Expr Bracket Answer Callee (dim_by env) (by_parts env) callee_by (Expr-F.Binary p o a b)

  pub of-Conditional : (p : Place) (t : Expr) (a : Expr) (b : Expr) → answer env (e.Conditional p t a b) ≡ by_parts env (Expr-F.Conditional p (answer env t) (answer env a) (answer env b))
  unfolding answer callee
  of-Conditional p t a b = ap (answer env) (sym (rolls-Conditional p t a b)) ∙ fold-roll-Expr Bracket Answer Callee (dim_by env) (by_parts env) callee_by (Expr-F.Conditional p t a b)

  pub of-Assign : (p : Place) (o : AssignOp) (a : Expr) (b : Expr) → answer env (e.Assign p o a b) ≡ by_parts env (Expr-F.Assign p o (answer env a) (answer env b))
  unfolding answer callee
  of-Assign p o a b = ap (answer env) (sym (rolls-Assign p o a b)) ∙ fold-roll-Expr Bracket Answer Callee (dim_by env) (by_parts env) callee_by (Expr-F.Assign p o a b)

  pub of-Sequence : (a : Expr) (bs : List (Place × Expr)) → answer env (e.Sequence a bs) ≡ by_parts env (Expr-F.Sequence (answer env a) (map (λ (x : Place × Expr). (x.0, answer env x.1)) bs))
  unfolding answer callee
  of-Sequence a bs = ap (answer env) (sym (rolls-Sequence a bs)) ∙ fold-roll-Expr Bracket Answer Callee (dim_by env) (by_parts env) callee_by (Expr-F.Sequence a bs)

  pub of-Basic : (p : Place) (b : Basic) (ds : List Dim) → callee env (t.Basic p b ds) ≡ callee_by (TypeSpec-F.Basic p b (map (bracket env) ds))
  unfolding callee bracket
  of-Basic p b ds = ap (callee env) (sym (rolls-Basic p b ds)) ∙ fold-roll-TypeSpec Bracket Answer Callee (dim_by env) (by_parts env) callee_by (TypeSpec-F.Basic p b ds)

  pub of-Named : (p : Place) (n : List ℕ) (ds : List Dim) → callee env (t.Named p n ds) ≡ callee_by (TypeSpec-F.Named p n (map (bracket env) ds))
  unfolding callee bracket
  of-Named p n ds = ap (callee env) (sym (rolls-Named p n ds)) ∙ fold-roll-TypeSpec Bracket Answer Callee (dim_by env) (by_parts env) callee_by (TypeSpec-F.Named p n ds)

  pub of-Open : (p : Place) → bracket env (d.Open p) ≡ dim_by env (Dim-F.Open p)
  unfolding bracket
  of-Open p = ap (bracket env) (sym (rolls-Open p)) ∙ fold-roll-Dim Bracket Answer Callee (dim_by env) (by_parts env) callee_by (Dim-F.Open p)

  pub of-Sized : (p : Place) (a : Expr) → bracket env (d.Sized p a) ≡ dim_by env (Dim-F.Sized p (answer env a))
  unfolding bracket answer
  of-Sized p a = ap (bracket env) (sym (rolls-Sized p a)) ∙ fold-roll-Dim Bracket Answer Callee (dim_by env) (by_parts env) callee_by (Dim-F.Sized p a)

pub ruleset steps = (of-Name, of-Signed, of-Unsigned, of-Bool, of-Paren, of-CallVoid, of-Call, of-Index, of-Member, of-Method, of-Postfix, of-Unary, of-Binary, of-Conditional, of-Assign, of-Sequence, of-Basic, of-Named, of-Open, of-Sized)

-- ---- initialisers

module _ (env : Env) where
  pub of-Expr : (a : Expr) (t : Ty) → value_as env (init.Expr a) t ≡ by_items env (Init-F.Expr a) t
  unfolding value_as
  of-Expr a t = ap (λ x. value_as env x t) (sym (rolls-Expr a)) ∙ ap (λ (f : Ty → Checked Part). f t) (fold-roll-Init (Ty → Checked Part) (by_items env) (Init-F.Expr a))

  pub of-Braces : (p : Place) (items : List Init) (t : Ty) → value_as env (init.Braces p items) t ≡ by_items env (Init-F.Braces p (map (value_as env) items)) t
  unfolding value_as
  of-Braces p items t = ap (λ x. value_as env x t) (sym (rolls-Braces p items)) ∙ ap (λ (f : Ty → Checked Part). f t) (fold-roll-Init (Ty → Checked Part) (by_items env) (Init-F.Braces p items))

pub ruleset inits = (of-Expr, of-Braces)
