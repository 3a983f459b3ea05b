-- What a statement does, by its kind.
use Rattle.std.proofs.Common.{◌≡◌, ap, ℕ, Bool, List, map, Option, Some, None}
use Rattle.gsl_types.specs.declared.ty.Ty.{Ty}
use Rattle.gsl_tree.specs.declared.expr.Expr.{Expr}
use Rattle.gsl_tree.specs.declared.stmt.Arm.{Arm as TreeArm, roll-Arm}
use Rattle.gsl_tree.specs.declared.stmt.Stmt.{Stmt}
use Rattle.gsl_tree.specs.declared.stmt.Stmt.TheFolds.{fold-roll-Arm}
use Rattle.gsl_tree.specs.declared.stmt.Stmt.TheOpen.{Stmt-F, Arm-F}
use Rattle.gsl_tree.specs.declared.stmt.Stmt.TheVariants as s
use Rattle.gsl_tree.proofs.StmtFolds as at
use Rattle.gsl_meaning.specs.State.{State}
use Rattle.gsl_meaning.specs.Running.{Run}
use Rattle.gsl_meaning.specs.Expressions.{Setting}
use Rattle.gsl_meaning.specs.Statements.{Arm, Flow, arm_by, arm_runs, runs, runs_by}

module _ (setting : Setting) (locals : List Ty) where
  abbrev r : Stmt → Run Flow
  r = runs setting locals

  abbrev step : Stmt-F (Run Flow) Arm → Run Flow
  step = runs_by setting locals

  pub arm-opens : (arm : Arm-F Stmt TreeArm) → arm_runs setting locals (roll-Arm arm) ≡ arm_by (record { labels = arm.labels; is_default = arm.is_default; body = map r arm.body })
  unfolding runs arm_runs
  arm-opens arm = fold-roll-Arm (Run Flow) Arm step arm_by arm

  pub runs-Empty : (state : State) (units : ℕ) → runs setting locals s.Empty state units ≡ step Stmt-F.Empty state units
  unfolding runs arm_runs
  runs-Empty state units = ap (λ (run : Run Flow). run state units) (at.at-Empty (Run Flow) Arm step arm_by)

  pub runs-Eval : (e : Expr) (state : State) (units : ℕ) → runs setting locals (s.Eval e) state units ≡ step (Stmt-F.Eval e) state units
  unfolding runs arm_runs
  runs-Eval e state units = ap (λ (run : Run Flow). run state units) (at.at-Eval (Run Flow) Arm step arm_by e)

  pub runs-Declare : (n : ℕ) (init : Option Expr) (state : State) (units : ℕ) → runs setting locals (s.Declare n init) state units ≡ step (Stmt-F.Declare n init) state units
  unfolding runs arm_runs
  runs-Declare n init state units = ap (λ (run : Run Flow). run state units) (at.at-Declare (Run Flow) Arm step arm_by n init)

  pub runs-Group : (ss : List Stmt) (state : State) (units : ℕ) → runs setting locals (s.Group ss) state units ≡ step (Stmt-F.Group (map r ss)) state units
  unfolding runs arm_runs
  runs-Group ss state units = ap (λ (run : Run Flow). run state units) (at.at-Group (Run Flow) Arm step arm_by ss)

  pub runs-If : (t : Expr) (a : Stmt) (state : State) (units : ℕ) → runs setting locals (s.If t a None) state units ≡ step (Stmt-F.If t (r a) None) state units
  unfolding runs arm_runs
  runs-If t a state units = ap (λ (run : Run Flow). run state units) (at.at-If (Run Flow) Arm step arm_by t a None)

  pub runs-Else : (t : Expr) (a b : Stmt) (state : State) (units : ℕ) → runs setting locals (s.If t a (Some b)) state units ≡ step (Stmt-F.If t (r a) (Some (r b))) state units
  unfolding runs arm_runs
  runs-Else t a b state units = ap (λ (run : Run Flow). run state units) (at.at-If (Run Flow) Arm step arm_by t a (Some b))

  pub runs-Loop : (t : Option Expr) (e : Option Expr) (b : Stmt) (last : Bool) (state : State) (units : ℕ) → runs setting locals (s.Loop t e b last) state units ≡ step (Stmt-F.Loop t e (r b) last) state units
  unfolding runs arm_runs
  runs-Loop t e b last state units = ap (λ (run : Run Flow). run state units) (at.at-Loop (Run Flow) Arm step arm_by t e b last)

  pub runs-Switch : (e : Expr) (arms : List TreeArm) (state : State) (units : ℕ) → runs setting locals (s.Switch e arms) state units ≡ step (Stmt-F.Switch e (map (arm_runs setting locals) arms)) state units
  unfolding runs arm_runs
  runs-Switch e arms state units = ap (λ (run : Run Flow). run state units) (at.at-Switch (Run Flow) Arm step arm_by e arms)

  pub runs-Break : (state : State) (units : ℕ) → runs setting locals s.Break state units ≡ step Stmt-F.Break state units
  unfolding runs arm_runs
  runs-Break state units = ap (λ (run : Run Flow). run state units) (at.at-Break (Run Flow) Arm step arm_by)

  pub runs-Continue : (state : State) (units : ℕ) → runs setting locals s.Continue state units ≡ step Stmt-F.Continue state units
  unfolding runs arm_runs
  runs-Continue state units = ap (λ (run : Run Flow). run state units) (at.at-Continue (Run Flow) Arm step arm_by)

  pub runs-Return : (e : Option Expr) (state : State) (units : ℕ) → runs setting locals (s.Return e) state units ≡ step (Stmt-F.Return e) state units
  unfolding runs arm_runs
  runs-Return e state units = ap (λ (run : Run Flow). run state units) (at.at-Return (Run Flow) Arm step arm_by e)

  pub runs-Discard : (state : State) (units : ℕ) → runs setting locals s.Discard state units ≡ step Stmt-F.Discard state units
  unfolding runs arm_runs
  runs-Discard state units = ap (λ (run : Run Flow). run state units) (at.at-Discard (Run Flow) Arm step arm_by)

pub ruleset runs_step = (arm-opens, runs-Empty, runs-Eval, runs-Declare, runs-Group, runs-If, runs-Else, runs-Loop, runs-Switch, runs-Break, runs-Continue, runs-Return, runs-Discard)
