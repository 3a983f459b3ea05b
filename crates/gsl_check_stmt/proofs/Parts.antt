-- What each statement stands for, from what its parts stand for.
use Rattle.std.proofs.Common.{◌≡◌, refl, sym, ap, ◌∙◌, List, [], ◌∷◌, map, Ok, Option, Some, None}
use Rattle.gsl_base.specs.Checked.{◌>>=◌}
use Rattle.gsl_base.specs.declared.fault.Place.{Place}
use Rattle.gsl_syntax.specs.declared.expr.Expr.{Expr as Phrase}
use Rattle.gsl_syntax.specs.declared.declaration.Decl.{Decl}
use Rattle.gsl_syntax.specs.declared.statement.ForInit.{ForInit}
use Rattle.gsl_syntax.specs.declared.statement.Stmt.{Stmt as Syntax}
use Rattle.gsl_syntax.specs.declared.statement.Stmt.TheVariants as syntax
use Rattle.gsl_syntax.specs.declared.statement.Stmt.TheVariants.{rolls-Empty, rolls-Block, rolls-Decl, rolls-Expr, rolls-If, rolls-IfElse, rolls-Switch, rolls-Case, rolls-Default, rolls-While, rolls-Do, rolls-For, rolls-Break, rolls-Continue, rolls-Discard, rolls-Return, rolls-ReturnValue}
use Rattle.gsl_syntax.specs.declared.statement.Stmt.TheOpen.{Stmt-F}
use Rattle.gsl_syntax.specs.declared.statement.Stmt.TheFolds.{fold-roll-Stmt}
use Rattle.gsl_types.specs.declared.ty.Ty.{Ty}
use Rattle.gsl_tree.specs.declared.stmt.Stmt.TheVariants as stmt
use Rattle.gsl_check_expr.specs.declared.env.Env.{Env}
use Rattle.gsl_check_decl.specs.Declarations.{declaration}
use Rattle.gsl_check_stmt.specs.declared.within.Within.{Within}
use Rattle.gsl_check_stmt.specs.Rules.{broken, continued, discarded, returned}
use Rattle.gsl_check_stmt.specs.Switches.{misplaced_default}
use Rattle.gsl_check_stmt.specs.Statements.{Answer, answer, statement, by_parts, Case, Default, in_row, still, evaluated, stray_case, return_with, block, branch, branches, switch, while_head, for_head, looped, do_loop}

-- two maps as one
map_map : {A B C : Type 0} (f : A → B) (g : B → C) (l : List A) → map g (map f l) ≡ map (λ x. g (f x)) l
map_map f g [] = refl
map_map f g (x ∷ l) = ap (λ k. g (f x) ∷ k) (map_map f g l)

module _ (r : Ty) where
  is-Empty : (p : Place) → answer r (syntax.Empty p) ≡ by_parts r (Stmt-F.Empty p)
  unfolding answer
  is-Empty p = ap (answer r) (sym (rolls-Empty p)) ∙ fold-roll-Stmt Answer (by_parts r) (Stmt-F.Empty p)

  is-Block : (p : Place) (all : List Syntax) → answer r (syntax.Block p all) ≡ by_parts r (Stmt-F.Block p (map (answer r) all))
  unfolding answer
  is-Block p all = ap (answer r) (sym (rolls-Block p all)) ∙ fold-roll-Stmt Answer (by_parts r) (Stmt-F.Block p all)

  is-Decl : (d : Decl) → answer r (syntax.Decl d) ≡ by_parts r (Stmt-F.Decl d)
  unfolding answer
  is-Decl d = ap (answer r) (sym (rolls-Decl d)) ∙ fold-roll-Stmt Answer (by_parts r) (Stmt-F.Decl d)

  is-Expr : (e : Phrase) → answer r (syntax.Expr e) ≡ by_parts r (Stmt-F.Expr e)
  unfolding answer
  is-Expr e = ap (answer r) (sym (rolls-Expr e)) ∙ fold-roll-Stmt Answer (by_parts r) (Stmt-F.Expr e)

  is-If : (p : Place) (t : Phrase) (a : Syntax) → answer r (syntax.If p t a) ≡ by_parts r (Stmt-F.If p t (answer r a))
  unfolding answer
  is-If p t a = ap (answer r) (sym (rolls-If p t a)) ∙ fold-roll-Stmt Answer (by_parts r) (Stmt-F.If p t a)

  is-IfElse : (p : Place) (t : Phrase) (a b : Syntax) → answer r (syntax.IfElse p t a b) ≡ by_parts r (Stmt-F.IfElse p t (answer r a) (answer r b))
  unfolding answer
  is-IfElse p t a b = ap (answer r) (sym (rolls-IfElse p t a b)) ∙ fold-roll-Stmt Answer (by_parts r) (Stmt-F.IfElse p t a b)

  is-Switch : (p : Place) (e : Phrase) (all : List Syntax) → answer r (syntax.Switch p e all) ≡ by_parts r (Stmt-F.Switch p e (map (answer r) all))
  unfolding answer
  is-Switch p e all = ap (answer r) (sym (rolls-Switch p e all)) ∙ fold-roll-Stmt Answer (by_parts r) (Stmt-F.Switch p e all)

  is-Case : (p : Place) (e : Phrase) → answer r (syntax.Case p e) ≡ by_parts r (Stmt-F.Case p e)
  unfolding answer
  is-Case p e = ap (answer r) (sym (rolls-Case p e)) ∙ fold-roll-Stmt Answer (by_parts r) (Stmt-F.Case p e)

  is-Default : (p : Place) → answer r (syntax.Default p) ≡ by_parts r (Stmt-F.Default p)
  unfolding answer
  is-Default p = ap (answer r) (sym (rolls-Default p)) ∙ fold-roll-Stmt Answer (by_parts r) (Stmt-F.Default p)

  is-While : (p : Place) (t : Phrase) (a : Syntax) → answer r (syntax.While p t a) ≡ by_parts r (Stmt-F.While p t (answer r a))
  unfolding answer
  is-While p t a = ap (answer r) (sym (rolls-While p t a)) ∙ fold-roll-Stmt Answer (by_parts r) (Stmt-F.While p t a)

  is-Do : (p : Place) (a : Syntax) (t : Phrase) → answer r (syntax.Do p a t) ≡ by_parts r (Stmt-F.Do p (answer r a) t)
  unfolding answer
  is-Do p a t = ap (answer r) (sym (rolls-Do p a t)) ∙ fold-roll-Stmt Answer (by_parts r) (Stmt-F.Do p a t)

  is-For : (p : Place) (i : ForInit) (t n : Option Phrase) (a : Syntax) → answer r (syntax.For p i t n a) ≡ by_parts r (Stmt-F.For p i t n (answer r a))
  unfolding answer
  is-For p i t n a = ap (answer r) (sym (rolls-For p i t n a)) ∙ fold-roll-Stmt Answer (by_parts r) (Stmt-F.For p i t n a)

  is-Break : (p : Place) → answer r (syntax.Break p) ≡ by_parts r (Stmt-F.Break p)
  unfolding answer
  is-Break p = ap (answer r) (sym (rolls-Break p)) ∙ fold-roll-Stmt Answer (by_parts r) (Stmt-F.Break p)

  is-Continue : (p : Place) → answer r (syntax.Continue p) ≡ by_parts r (Stmt-F.Continue p)
  unfolding answer
  is-Continue p = ap (answer r) (sym (rolls-Continue p)) ∙ fold-roll-Stmt Answer (by_parts r) (Stmt-F.Continue p)

  is-Discard : (p : Place) → answer r (syntax.Discard p) ≡ by_parts r (Stmt-F.Discard p)
  unfolding answer
  is-Discard p = ap (answer r) (sym (rolls-Discard p)) ∙ fold-roll-Stmt Answer (by_parts r) (Stmt-F.Discard p)

  is-Return : (p : Place) → answer r (syntax.Return p) ≡ by_parts r (Stmt-F.Return p)
  unfolding answer
  is-Return p = ap (answer r) (sym (rolls-Return p)) ∙ fold-roll-Stmt Answer (by_parts r) (Stmt-F.Return p)

  is-ReturnValue : (p : Place) (e : Phrase) → answer r (syntax.ReturnValue p e) ≡ by_parts r (Stmt-F.ReturnValue p e)
  unfolding answer
  is-ReturnValue p e = ap (answer r) (sym (rolls-ReturnValue p e)) ∙ fold-roll-Stmt Answer (by_parts r) (Stmt-F.ReturnValue p e)

module _ (r : Ty) (w : Within) (env : Env) where
  pub of-Empty : (p : Place) → statement r (syntax.Empty p) w env ≡ Ok (stmt.Empty, env)
  of-Empty p = ap (λ a. a.step w env) (is-Empty r p)

  pub of-Block : (p : Place) (all : List Syntax) → statement r (syntax.Block p all) w env ≡ block (map (λ s. statement r s (in_row w)) all) w env
  of-Block p all = ap (λ a. a.step w env) (is-Block r p all) ∙ ap (λ steps. block steps w env) (map_map (answer r) (λ a. a.step (in_row w)) all)

  pub of-Decl : (d : Decl) → statement r (syntax.Decl d) w env ≡ declaration d env
  of-Decl d = ap (λ a. a.step w env) (is-Decl r d)

  pub of-Expr : (e : Phrase) → statement r (syntax.Expr e) w env ≡ evaluated e env
  of-Expr e = ap (λ a. a.step w env) (is-Expr r e)

  pub of-If : (p : Place) (t : Phrase) (a : Syntax) → statement r (syntax.If p t a) w env ≡ branch p t (answer r a).step w env
  of-If p t a = ap (λ a. a.step w env) (is-If r p t a)

  pub of-IfElse : (p : Place) (t : Phrase) (a b : Syntax) → statement r (syntax.IfElse p t a b) w env ≡ branches p t (answer r a).step (answer r b).step w env
  of-IfElse p t a b = ap (λ a. a.step w env) (is-IfElse r p t a b)

  pub of-Switch : (p : Place) (e : Phrase) (all : List Syntax) → statement r (syntax.Switch p e all) w env ≡ switch p e (map (answer r) all) w env
  of-Switch p e all = ap (λ a. a.step w env) (is-Switch r p e all)

  pub of-Case : (p : Place) (e : Phrase) → statement r (syntax.Case p e) w env ≡ stray_case p e env
  of-Case p e = ap (λ a. a.step w env) (is-Case r p e)

  pub of-Default : (p : Place) → statement r (syntax.Default p) w env ≡ still (misplaced_default p) env
  of-Default p = ap (λ a. a.step w env) (is-Default r p)

  pub of-While : (p : Place) (t : Phrase) (a : Syntax) → statement r (syntax.While p t a) w env ≡ (while_head t env >>= looped p (answer r a).step)
  of-While p t a = ap (λ a. a.step w env) (is-While r p t a)

  pub of-Do : (p : Place) (a : Syntax) (t : Phrase) → statement r (syntax.Do p a t) w env ≡ do_loop p (answer r a).step t env
  of-Do p a t = ap (λ a. a.step w env) (is-Do r p a t)

  pub of-For : (p : Place) (i : ForInit) (t n : Option Phrase) (a : Syntax) → statement r (syntax.For p i t n a) w env ≡ (for_head i t n env >>= looped p (answer r a).step)
  of-For p i t n a = ap (λ a. a.step w env) (is-For r p i t n a)

  pub of-Break : (p : Place) → statement r (syntax.Break p) w env ≡ still (broken w p) env
  of-Break p = ap (λ a. a.step w env) (is-Break r p)

  pub of-Continue : (p : Place) → statement r (syntax.Continue p) w env ≡ still (continued w p) env
  of-Continue p = ap (λ a. a.step w env) (is-Continue r p)

  pub of-Discard : (p : Place) → statement r (syntax.Discard p) w env ≡ still (discarded env.scene.stage p) env
  of-Discard p = ap (λ a. a.step w env) (is-Discard r p)

  pub of-Return : (p : Place) → statement r (syntax.Return p) w env ≡ still (returned r p) env
  of-Return p = ap (λ a. a.step w env) (is-Return r p)

  pub of-ReturnValue : (p : Place) (e : Phrase) → statement r (syntax.ReturnValue p e) w env ≡ return_with r p e env
  of-ReturnValue p e = ap (λ a. a.step w env) (is-ReturnValue r p e)

pub ruleset steps = (of-Empty, of-Block, of-Decl, of-Expr, of-If, of-IfElse, of-Switch, of-Case, of-Default, of-While, of-Do, of-For, of-Break, of-Continue, of-Discard, of-Return, of-ReturnValue)

-- ---- labels

module _ (r : Ty) where
  pub label-Empty : (p : Place) → (answer r (syntax.Empty p)).label ≡ None
  label-Empty p = ap (λ a. a.label) (is-Empty r p)

  pub label-Block : (p : Place) (all : List Syntax) → (answer r (syntax.Block p all)).label ≡ None
  label-Block p all = ap (λ a. a.label) (is-Block r p all)

  pub label-Decl : (d : Decl) → (answer r (syntax.Decl d)).label ≡ None
  label-Decl d = ap (λ a. a.label) (is-Decl r d)

  pub label-Expr : (e : Phrase) → (answer r (syntax.Expr e)).label ≡ None
  label-Expr e = ap (λ a. a.label) (is-Expr r e)

  pub label-If : (p : Place) (t : Phrase) (a : Syntax) → (answer r (syntax.If p t a)).label ≡ None
  label-If p t a = ap (λ a. a.label) (is-If r p t a)

  pub label-IfElse : (p : Place) (t : Phrase) (a b : Syntax) → (answer r (syntax.IfElse p t a b)).label ≡ None
  label-IfElse p t a b = ap (λ a. a.label) (is-IfElse r p t a b)

  pub label-Switch : (p : Place) (e : Phrase) (all : List Syntax) → (answer r (syntax.Switch p e all)).label ≡ None
  label-Switch p e all = ap (λ a. a.label) (is-Switch r p e all)

  pub label-Case : (p : Place) (e : Phrase) → (answer r (syntax.Case p e)).label ≡ Some (Case p e)
  label-Case p e = ap (λ a. a.label) (is-Case r p e)

  pub label-Default : (p : Place) → (answer r (syntax.Default p)).label ≡ Some (Default p)
  label-Default p = ap (λ a. a.label) (is-Default r p)

  pub label-While : (p : Place) (t : Phrase) (a : Syntax) → (answer r (syntax.While p t a)).label ≡ None
  label-While p t a = ap (λ a. a.label) (is-While r p t a)

  pub label-Do : (p : Place) (a : Syntax) (t : Phrase) → (answer r (syntax.Do p a t)).label ≡ None
  label-Do p a t = ap (λ a. a.label) (is-Do r p a t)

  pub label-For : (p : Place) (i : ForInit) (t n : Option Phrase) (a : Syntax) → (answer r (syntax.For p i t n a)).label ≡ None
  label-For p i t n a = ap (λ a. a.label) (is-For r p i t n a)

  pub label-Break : (p : Place) → (answer r (syntax.Break p)).label ≡ None
  label-Break p = ap (λ a. a.label) (is-Break r p)

  pub label-Continue : (p : Place) → (answer r (syntax.Continue p)).label ≡ None
  label-Continue p = ap (λ a. a.label) (is-Continue r p)

  pub label-Discard : (p : Place) → (answer r (syntax.Discard p)).label ≡ None
  label-Discard p = ap (λ a. a.label) (is-Discard r p)

  pub label-Return : (p : Place) → (answer r (syntax.Return p)).label ≡ None
  label-Return p = ap (λ a. a.label) (is-Return r p)

  pub label-ReturnValue : (p : Place) (e : Phrase) → (answer r (syntax.ReturnValue p e)).label ≡ None
  label-ReturnValue p e = ap (λ a. a.label) (is-ReturnValue r p e)

pub ruleset labels = (label-Empty, label-Block, label-Decl, label-Expr, label-If, label-IfElse, label-Switch, label-Case, label-Default, label-While, label-Do, label-For, label-Break, label-Continue, label-Discard, label-Return, label-ReturnValue)
