-- Each fold over typed statements, by the kind of the statement.
use Rattle.std.proofs.Common.{◌≡◌, sym, ap, ◌∙◌, ℕ, List, Option, Bool}
use Rattle.gsl_tree.specs.declared.expr.Expr.{Expr}
use Rattle.gsl_tree.specs.declared.stmt.Stmt.{Stmt}
use Rattle.gsl_tree.specs.declared.stmt.Arm.{Arm}
use Rattle.gsl_tree.specs.declared.stmt.Stmt.TheVariants as s
use Rattle.gsl_tree.specs.declared.stmt.Stmt.TheVariants.{rolls-Empty, rolls-Eval, rolls-Declare, rolls-Group, rolls-If, rolls-Loop, rolls-Switch, rolls-Break, rolls-Continue, rolls-Return, rolls-Discard}
use Rattle.gsl_tree.specs.declared.stmt.Stmt.TheOpen.{Stmt-F, Arm-F}
use Rattle.gsl_tree.specs.declared.stmt.Stmt.TheFolds.{fold-Stmt, fold-Arm, fold-roll-Stmt, fold-roll-Arm, map-Stmt}

module _ (A A' : Type 0) (step : Stmt-F A A' → A) (step' : Arm-F A A' → A') where
  abbrev mapped : Stmt-F Stmt Arm → Stmt-F A A'
  mapped = map-Stmt Stmt Arm A A' (fold-Stmt A A' step step') (fold-Arm A A' step step')

  pub at-Empty : fold-Stmt A A' step step' (s.Empty) ≡ step (mapped Stmt-F.Empty)
  at-Empty = ap (fold-Stmt A A' step step') (sym rolls-Empty) ∙ fold-roll-Stmt A A' step step' Stmt-F.Empty

  pub at-Eval : (e : Expr) → fold-Stmt A A' step step' (s.Eval e) ≡ step (mapped (Stmt-F.Eval e))
  at-Eval e = ap (fold-Stmt A A' step step') (sym (rolls-Eval e)) ∙ fold-roll-Stmt A A' step step' (Stmt-F.Eval e)

  pub at-Declare : (n : ℕ) (init : Option Expr) → fold-Stmt A A' step step' (s.Declare n init) ≡ step (mapped (Stmt-F.Declare n init))
  at-Declare n init = ap (fold-Stmt A A' step step') (sym (rolls-Declare n init)) ∙ fold-roll-Stmt A A' step step' (Stmt-F.Declare n init)

  pub at-Group : (ss : List Stmt) → fold-Stmt A A' step step' (s.Group ss) ≡ step (mapped (Stmt-F.Group ss))
  at-Group ss = ap (fold-Stmt A A' step step') (sym (rolls-Group ss)) ∙ fold-roll-Stmt A A' step step' (Stmt-F.Group ss)

  pub at-If : (test : Expr) (a : Stmt) (b : Option Stmt) → fold-Stmt A A' step step' (s.If test a b) ≡ step (mapped (Stmt-F.If test a b))
  at-If test a b = ap (fold-Stmt A A' step step') (sym (rolls-If test a b)) ∙ fold-roll-Stmt A A' step step' (Stmt-F.If test a b)

  pub at-Loop : (test : Option Expr) (step_ : Option Expr) (body : Stmt) (last : Bool) → fold-Stmt A A' step step' (s.Loop test step_ body last) ≡ step (mapped (Stmt-F.Loop test step_ body last))
  at-Loop test step_ body last = ap (fold-Stmt A A' step step') (sym (rolls-Loop test step_ body last)) ∙ fold-roll-Stmt A A' step step' (Stmt-F.Loop test step_ body last)

  pub at-Switch : (e : Expr) (arms : List Arm) → fold-Stmt A A' step step' (s.Switch e arms) ≡ step (mapped (Stmt-F.Switch e arms))
  at-Switch e arms = ap (fold-Stmt A A' step step') (sym (rolls-Switch e arms)) ∙ fold-roll-Stmt A A' step step' (Stmt-F.Switch e arms)

  pub at-Break : fold-Stmt A A' step step' (s.Break) ≡ step (mapped Stmt-F.Break)
  at-Break = ap (fold-Stmt A A' step step') (sym rolls-Break) ∙ fold-roll-Stmt A A' step step' Stmt-F.Break

  pub at-Continue : fold-Stmt A A' step step' (s.Continue) ≡ step (mapped Stmt-F.Continue)
  at-Continue = ap (fold-Stmt A A' step step') (sym rolls-Continue) ∙ fold-roll-Stmt A A' step step' Stmt-F.Continue

  pub at-Return : (value : Option Expr) → fold-Stmt A A' step step' (s.Return value) ≡ step (mapped (Stmt-F.Return value))
  at-Return value = ap (fold-Stmt A A' step step') (sym (rolls-Return value)) ∙ fold-roll-Stmt A A' step step' (Stmt-F.Return value)

  pub at-Discard : fold-Stmt A A' step step' (s.Discard) ≡ step (mapped Stmt-F.Discard)
  at-Discard = ap (fold-Stmt A A' step step') (sym rolls-Discard) ∙ fold-roll-Stmt A A' step step' Stmt-F.Discard

pub ruleset stmt_folds = (at-Empty, at-Eval, at-Declare, at-Group, at-If, at-Loop, at-Switch, at-Break, at-Continue, at-Return, at-Discard, fold-roll-Arm)
