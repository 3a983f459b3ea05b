-- What is counted of a statement, from what is counted of its parts.
use Rattle.std.proofs.Common.{◌≡◌, refl, sym, ap, ◌∙◌, ℕ, ◌+◌, Bool, List, [], ◌∷◌, ◌++◌, map, sum, length, arith, Option, Some, None}
use Rattle.gsl_types.specs.declared.ty.StructType.{StructType}
use Rattle.gsl_tree.specs.declared.expr.Expr.{Expr}
use Rattle.gsl_tree.specs.declared.stmt.Stmt.{Stmt}
use Rattle.gsl_tree.specs.declared.stmt.Arm.{Arm, out-Arm}
use Rattle.gsl_tree.specs.declared.stmt.Stmt.TheVariants as s
use Rattle.gsl_tree.specs.declared.stmt.Stmt.TheFolds.{fold-Arm, fold-roll-Arm}
use Rattle.gsl_tree.specs.declared.stmt.Stmt.TheViews.{roll-out-Arm}
use Rattle.gsl_tree.specs.Trees.{or_nothing}
use Rattle.gsl_tree.specs.Weights.{read_weights, stmt_weight, stmt_weight_by, arm_weight_by, one_if}
use Rattle.gsl_tree.proofs.StmtFolds as at
use Rattle.gsl_weights.specs.Telling.{up_to, in_turn}
use Rattle.gsl_weights.specs.Weighing.{read_weighed, any_weighed, stmt_weighed, arm_weighed}
use Rattle.gsl_weights.proofs.Sums.{in_turn_sum}

module _ (structs : List StructType) where
  abbrev arm_weight : Arm → ℕ
  arm_weight = fold-Arm ℕ ℕ (stmt_weight_by structs) arm_weight_by

  pub any-None : (n : ℕ) → any_weighed structs n None ≡ up_to (n + 0)
  unfolding any_weighed
  any-None n = refl

  pub any-Some : (n : ℕ) (e : Expr) → any_weighed structs n (Some e) ≡ read_weighed structs n e
  unfolding any_weighed read_weighed
  any-Some n e = omega arith

  read_both : (a b : List Expr) → read_weights structs (a ++ b) ≡ read_weights structs a + read_weights structs b
  read_both [] b = omega arith
  read_both (e ∷ a) b = omega (arith, read_both a b)

  all_stmts : (n : ℕ) (stmts : List Stmt) → up_to (in_turn (stmt_weighed structs) n stmts) ≡ up_to (n + sum (map (stmt_weight structs) stmts))
  unfolding stmt_weighed
  all_stmts n stmts = in_turn_sum (stmt_weight structs) (stmt_weighed structs) (λ n s. refl) n stmts

  all_arms : (n : ℕ) (arms : List Arm) → up_to (in_turn (arm_weighed structs) n arms) ≡ up_to (n + sum (map arm_weight arms))
  unfolding arm_weighed
  all_arms n arms = in_turn_sum arm_weight (arm_weighed structs) (λ n arm. refl) n arms

  abbrev over : ℕ → ℕ → ℕ
  over n weight = up_to (n + weight)

  pub stmt-Empty : (n : ℕ) → stmt_weighed structs n s.Empty ≡ up_to (n + 1)
  unfolding stmt_weighed
  stmt-Empty n = ap (over n) (at.at-Empty ℕ ℕ (stmt_weight_by structs) arm_weight_by) ∙ omega arith

  pub stmt-Break : (n : ℕ) → stmt_weighed structs n s.Break ≡ up_to (n + 1)
  unfolding stmt_weighed
  stmt-Break n = ap (over n) (at.at-Break ℕ ℕ (stmt_weight_by structs) arm_weight_by) ∙ omega arith

  pub stmt-Continue : (n : ℕ) → stmt_weighed structs n s.Continue ≡ up_to (n + 1)
  unfolding stmt_weighed
  stmt-Continue n = ap (over n) (at.at-Continue ℕ ℕ (stmt_weight_by structs) arm_weight_by) ∙ omega arith

  pub stmt-Discard : (n : ℕ) → stmt_weighed structs n s.Discard ≡ up_to (n + 1)
  unfolding stmt_weighed
  stmt-Discard n = ap (over n) (at.at-Discard ℕ ℕ (stmt_weight_by structs) arm_weight_by) ∙ omega arith

  pub stmt-Eval : (n : ℕ) (e : Expr) → stmt_weighed structs n (s.Eval e) ≡ read_weighed structs (up_to (n + 1)) e
  unfolding stmt_weighed read_weighed
  stmt-Eval n e = ap (over n) (at.at-Eval ℕ ℕ (stmt_weight_by structs) arm_weight_by e) ∙ omega arith

  pub stmt-Declare : (n number : ℕ) (init : Option Expr) → stmt_weighed structs n (s.Declare number init) ≡ any_weighed structs (up_to (n + 1)) init
  unfolding stmt_weighed any_weighed
  stmt-Declare n number init = ap (over n) (at.at-Declare ℕ ℕ (stmt_weight_by structs) arm_weight_by number init) ∙ omega arith

  pub stmt-Return : (n : ℕ) (value : Option Expr) → stmt_weighed structs n (s.Return value) ≡ any_weighed structs (up_to (n + 1)) value
  unfolding stmt_weighed any_weighed
  stmt-Return n value = ap (over n) (at.at-Return ℕ ℕ (stmt_weight_by structs) arm_weight_by value) ∙ omega arith

  pub stmt-Group : (n : ℕ) (stmts : List Stmt) → stmt_weighed structs n (s.Group stmts) ≡ up_to (in_turn (stmt_weighed structs) (up_to (n + 1)) stmts + 0)
  unfolding stmt_weighed
  stmt-Group n stmts = ap (over n) (at.at-Group ℕ ℕ (stmt_weight_by structs) arm_weight_by stmts) ∙ omega (arith, all_stmts (up_to (n + 1)) stmts)

  pub stmt-If : (n : ℕ) (test : Expr) (first : Stmt) → stmt_weighed structs n (s.If test first None) ≡ stmt_weighed structs (read_weighed structs (up_to (n + 1)) test) first
  unfolding stmt_weighed read_weighed
  stmt-If n test first = ap (over n) (at.at-If ℕ ℕ (stmt_weight_by structs) arm_weight_by test first None) ∙ omega arith

  pub stmt-Else : (n : ℕ) (test : Expr) (first other : Stmt) → stmt_weighed structs n (s.If test first (Some other)) ≡ stmt_weighed structs (stmt_weighed structs (read_weighed structs (up_to (n + 1)) test) first) other
  unfolding stmt_weighed read_weighed
  stmt-Else n test first other = ap (over n) (at.at-If ℕ ℕ (stmt_weight_by structs) arm_weight_by test first (Some other)) ∙ omega arith

  pub stmt-Loop : (n : ℕ) (test step : Option Expr) (body : Stmt) (last : Bool) → stmt_weighed structs n (s.Loop test step body last) ≡ stmt_weighed structs (any_weighed structs (any_weighed structs (up_to (n + 1)) test) step) body
  unfolding stmt_weighed any_weighed
  stmt-Loop n test step body last = ap (over n) (at.at-Loop ℕ ℕ (stmt_weight_by structs) arm_weight_by test step body last) ∙ omega (arith, read_both (or_nothing test) (or_nothing step))

  pub stmt-Switch : (n : ℕ) (e : Expr) (arms : List Arm) → stmt_weighed structs n (s.Switch e arms) ≡ up_to (in_turn (arm_weighed structs) (read_weighed structs (up_to (n + 1)) e) arms + 0)
  unfolding stmt_weighed read_weighed
  stmt-Switch n e arms = ap (over n) (at.at-Switch ℕ ℕ (stmt_weight_by structs) arm_weight_by e arms) ∙ omega (arith, all_arms (read_weighed structs (up_to (n + 1)) e) arms)

  abbrev opened : Arm → ℕ
  opened arm = length (out-Arm arm).labels + one_if (out-Arm arm).is_default + sum (map (stmt_weight structs) (out-Arm arm).body)

  arm_is : (arm : Arm) → arm_weight arm ≡ opened arm
  arm_is arm = ap arm_weight (sym (roll-out-Arm arm)) ∙ fold-roll-Arm ℕ ℕ (stmt_weight_by structs) arm_weight_by (out-Arm arm)

  pub arm_opens : (n : ℕ) (arm : Arm) → arm_weighed structs n arm ≡ up_to (in_turn (stmt_weighed structs) (up_to (up_to (n + up_to (length (out-Arm arm).labels)) + one_if (out-Arm arm).is_default)) (out-Arm arm).body + 0)
  unfolding arm_weighed
  arm_opens n arm = omega (arith, arm_is arm, all_stmts (up_to (up_to (n + up_to (length (out-Arm arm).labels)) + one_if (out-Arm arm).is_default)) (out-Arm arm).body)

pub ruleset any_step = (any-None, any-Some)

pub ruleset stmt_step = (stmt-Empty, stmt-Break, stmt-Continue, stmt-Discard, stmt-Eval, stmt-Declare, stmt-Return, stmt-Group, stmt-If, stmt-Else, stmt-Loop, stmt-Switch)
