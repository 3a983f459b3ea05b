-- What is asked for at statements, from what is asked for at their parts.
use Rattle.std.proofs.Common.{◌≡◌, refl, sym, ap, ◌∙◌, ℕ, List, [], ◌∷◌, map, Option, Some, None}
use Rattle.std.specs.Prelude.{Bool, true, false, ◌||◌, if◌then◌else◌}
use Rattle.gsl_tree.specs.declared.expr.Expr.{Expr}
use Rattle.gsl_tree.specs.declared.stmt.Arm.{Arm, out-Arm}
use Rattle.gsl_tree.specs.declared.stmt.Stmt.{Stmt}
use Rattle.gsl_tree.specs.declared.stmt.Stmt.TheFolds.{fold-Arm, fold-roll-Arm}
use Rattle.gsl_tree.specs.declared.stmt.Stmt.TheOpen.{Stmt-F}
use Rattle.gsl_tree.specs.declared.stmt.Stmt.TheVariants as stmt
use Rattle.gsl_tree.specs.declared.stmt.Stmt.TheViews.{roll-out-Arm}
use Rattle.gsl_tree.specs.declared.unit.Prototype.{Prototype}
use Rattle.gsl_tree.proofs.StmtFolds as at
use Rattle.gsl_lower_needs.specs.declared.need.Need.{Need}
use Rattle.gsl_lower_needs.specs.Asking.{Ask, Asked, Asks, behind, ◌>>=◌, given}
use Rattle.gsl_lower_needs.specs.Bodies.{AskingStmt, any_leaves, any_value, arm_by, arms, arms_in_turn, asking, evaluated, in_turn, loops, row, statement, stmt_by, unless}
use Rattle.gsl_lower_needs.specs.Coming.{evaluates}

assoc : {A B C : Type 0} (r : Asked A) (f : A → Ask B) (g : B → Ask C) → behind (behind r f) g ≡ behind r (λ a. f a >>= g)
assoc (Asks a needs) f g = refl

same : {A B : Type 0} (r : Asked A) (f g : A → Ask B) → ((a : A) (needs : List Need) → f a needs ≡ g a needs) → behind r f ≡ behind r g
same (Asks a needs) f g is = is a needs

module _ (s : List Prototype) where
  abbrev step : Stmt-F AskingStmt (Ask (Unit {0})) → AskingStmt
  step = stmt_by s

  abbrev whole : AskingStmt → Ask Bool
  whole x = x.asked >>= (λ done. given x.leaves)

  pub any_value-None : (needs : List Need) → any_value s None needs ≡ Asks tt needs
  unfolding any_value
  any_value-None needs = refl

  pub any_value-Some : (e : Expr) (needs : List Need) → any_value s (Some e) needs ≡ evaluates s e needs
  unfolding any_value evaluates
  any_value-Some e needs = refl

  -- ---- every kind of statement

  pub statement-Empty : (needs : List Need) → statement s stmt.Empty needs ≡ Asks false needs
  unfolding statement
  statement-Empty needs = ap (λ x. whole x needs) (at.at-Empty AskingStmt (Ask (Unit {0})) step arm_by)

  pub statement-Eval : (e : Expr) (needs : List Need) → statement s (stmt.Eval e) needs ≡ behind (evaluates s e needs) (λ done. given false)
  unfolding statement evaluates
  statement-Eval e needs = ap (λ x. whole x needs) (at.at-Eval AskingStmt (Ask (Unit {0})) step arm_by e)

  pub statement-Declare : (n : ℕ) (init : Option Expr) (needs : List Need) → statement s (stmt.Declare n init) needs ≡ behind (any_value s init needs) (λ done. given false)
  unfolding statement any_value
  statement-Declare n init needs = ap (λ x. whole x needs) (at.at-Declare AskingStmt (Ask (Unit {0})) step arm_by n init)

  pub statement-Group : (ss : List Stmt) (needs : List Need) → statement s (stmt.Group ss) needs ≡ row s ss needs
  unfolding statement row
  statement-Group ss needs = ap (λ x. whole x needs) (at.at-Group AskingStmt (Ask (Unit {0})) step arm_by ss)

  second_same : (first : AskingStmt) (other : Ask (Unit {0})) (needs : List Need)
      → behind (behind (first.asked needs) (λ b. other)) (λ done. given false) ≡ behind (whole first needs) (λ left. other >>= (λ done. given false))
  second_same first other needs = assoc (first.asked needs) (λ b. other) (λ done. given false) ∙ sym (assoc (first.asked needs) (λ b. given first.leaves) (λ left. other >>= (λ done. given false)))

  forked_same : (test : Asked (Unit {0})) (first : AskingStmt) (other : Ask (Unit {0}))
      → behind (behind test (λ a. first.asked >>= (λ b. other))) (λ done. given false) ≡ behind test (λ a. whole first >>= (λ left. other >>= (λ done. given false)))
  forked_same test first other = assoc test (λ a. first.asked >>= (λ b. other)) (λ done. given false) ∙ same test _ _ (λ a needs. second_same first other needs)

  pub statement-If : (t : Expr) (a : Stmt) (needs : List Need) → statement s (stmt.If t a None) needs ≡ behind (evaluates s t needs) (λ x. statement s a >>= (λ left. given false))
  unfolding statement evaluates
  statement-If t a needs = ap (λ x. whole x needs) (at.at-If AskingStmt (Ask (Unit {0})) step arm_by t a None) ∙ forked_same (evaluated s t needs) (asking s a) (given tt)

  pub statement-Else : (t : Expr) (a b : Stmt) (needs : List Need) → statement s (stmt.If t a (Some b)) needs
      ≡ behind (evaluates s t needs) (λ x. statement s a >>= (λ left. statement s b >>= (λ last. given false)))
  unfolding statement evaluates
  statement-Else t a b needs =
      ap (λ x. whole x needs) (at.at-If AskingStmt (Ask (Unit {0})) step arm_by t a (Some b)) ∙ forked_same (evaluated s t needs) (asking s a) (asking s b).asked
      ∙ same (evaluated s t needs) _ _ (λ x at_first. same (whole (asking s a) at_first) _ _ (λ left at_second. sym (assoc ((asking s b).asked at_second) (λ done. given (asking s b).leaves) (λ last. given false))))

  pub statement-Loop : (t : Option Expr) (e : Option Expr) (b : Stmt) (last : Bool) (needs : List Need) → statement s (stmt.Loop t e b last) needs ≡ behind (loops s t e b last needs) (λ done. given false)
  unfolding statement loops
  statement-Loop t e b last needs = ap (λ x. whole x needs) (at.at-Loop AskingStmt (Ask (Unit {0})) step arm_by t e b last)

  body_same : (body : AskingStmt) (rest : Ask (Unit {0})) (needs : List Need) → behind (body.asked needs) (λ a. rest) ≡ behind (whole body needs) (λ left. rest)
  body_same body rest needs = sym (assoc (body.asked needs) (λ done. given body.leaves) (λ left. rest))

  pub loops-last : (t e : Option Expr) (b : Stmt) (needs : List Need) → loops s t e b true needs ≡ behind (statement s b needs) (λ left. any_value s e >>= (λ done. any_value s t))
  unfolding loops statement any_value
  loops-last t e b needs = body_same (asking s b) (any_value s e >>= (λ done. any_value s t)) needs

  pub loops-first : (t e : Option Expr) (b : Stmt) (needs : List Need) → loops s t e b false needs ≡ behind (any_value s t needs) (λ done. statement s b >>= (λ left. any_value s e))
  unfolding loops statement any_value
  loops-first t e b needs = same (any_value s t needs) _ _ (λ done at_body. body_same (asking s b) (any_value s e) at_body)

  pub statement-Switch : (e : Expr) (all : List Arm) (needs : List Need) → statement s (stmt.Switch e all) needs ≡ behind (evaluates s e needs) (λ x. arms s all >>= (λ done. given false))
  unfolding statement evaluates arms
  statement-Switch e all needs =
      ap (λ x. whole x needs) (at.at-Switch AskingStmt (Ask (Unit {0})) step arm_by e all)
      ∙ assoc (evaluated s e needs) (λ a. arms_in_turn (map (fold-Arm AskingStmt (Ask (Unit {0})) step arm_by) all)) (λ done. given false)

  pub statement-Break : (needs : List Need) → statement s stmt.Break needs ≡ Asks true needs
  unfolding statement
  statement-Break needs = ap (λ x. whole x needs) (at.at-Break AskingStmt (Ask (Unit {0})) step arm_by)

  pub statement-Continue : (needs : List Need) → statement s stmt.Continue needs ≡ Asks true needs
  unfolding statement
  statement-Continue needs = ap (λ x. whole x needs) (at.at-Continue AskingStmt (Ask (Unit {0})) step arm_by)

  pub statement-Return : (e : Option Expr) (needs : List Need) → statement s (stmt.Return e) needs ≡ behind (any_value s e needs) (λ done. given true)
  unfolding statement any_value
  statement-Return e needs = ap (λ x. whole x needs) (at.at-Return AskingStmt (Ask (Unit {0})) step arm_by e)

  pub statement-Discard : (needs : List Need) → statement s stmt.Discard needs ≡ Asks true needs
  unfolding statement
  statement-Discard needs = ap (λ x. whole x needs) (at.at-Discard AskingStmt (Ask (Unit {0})) step arm_by)

  -- ---- rows

  row_by : (left : Bool) (r : Asked (Unit {0})) (rest : Ask (Unit {0})) (later : Bool)
      → behind (behind r (λ done. unless left rest)) (λ done. given (left || later)) ≡ behind (behind r (λ done. given left)) (λ l. if l then given true else (rest >>= (λ done. given later)))
  row_by true (Asks done needs) rest later = refl
  row_by false (Asks done needs) rest later = refl

  pub row-opens : (one : Stmt) (ss : List Stmt) (needs : List Need) → row s (one ∷ ss) needs ≡ behind (statement s one needs) (λ left. if left then given true else row s ss)
  unfolding row statement in_turn
  row-opens one ss needs = row_by (asking s one).leaves ((asking s one).asked needs) (in_turn (map (asking s) ss)) (any_leaves (map (λ (x : AskingStmt). x.leaves) (map (asking s) ss)))

  pub row-ends : (needs : List Need) → row s [] needs ≡ Asks false needs
  unfolding row in_turn
  row-ends needs = refl

  arm_is : (arm : Arm) → fold-Arm AskingStmt (Ask (Unit {0})) step arm_by arm ≡ in_turn (map (asking s) (out-Arm arm).body)
  arm_is arm = ap (fold-Arm AskingStmt (Ask (Unit {0})) step arm_by) (sym (roll-out-Arm arm)) ∙ fold-roll-Arm AskingStmt (Ask (Unit {0})) step arm_by (out-Arm arm)

  pub arms-opens : (arm : Arm) (all : List Arm) (needs : List Need) → arms s (arm ∷ all) needs ≡ behind (row s (out-Arm arm).body needs) (λ left. arms s all)
  unfolding arms arms_in_turn row
  arms-opens arm all needs =
      ap (λ (x : Ask (Unit {0})). behind (x needs) (λ done. arms s all)) (arm_is arm)
      ∙ sym (assoc (in_turn (map (asking s) (out-Arm arm).body) needs) (λ done. given (any_leaves (map (λ (x : AskingStmt). x.leaves) (map (asking s) (out-Arm arm).body)))) (λ left. arms s all))

  pub arms-ends : (needs : List Need) → arms s [] needs ≡ Asks tt needs
  unfolding arms arms_in_turn
  arms-ends needs = refl

pub ruleset parts_step = (any_value-None, any_value-Some)

pub ruleset bodies_step = (statement-Empty, statement-Eval, statement-Declare, statement-Group, statement-If, statement-Else, statement-Loop, loops-last, loops-first, statement-Switch, statement-Break, statement-Continue, statement-Return, statement-Discard)
