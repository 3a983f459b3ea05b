-- Whole statements, kind by kind, and the statements in them.
use Rattle.std.proofs.Common.{◌≡◌, refl, sym, ap, ◌∙◌, subst, Bool, true, false, ◌||◌, List, [], ◌∷◌, ◌++◌, map, Option, Some, None, if◌then◌else◌}
use Rattle.std.specs.List.{AllByRecursion}
use Rattle.gsl_tree.specs.Trees.{Exits, Placed, body_of, exprs_of, in_loop, in_switch, or_nothing, with_exits}
use Rattle.gsl_tree.specs.declared.expr.Expr.{Expr}
use Rattle.gsl_tree.specs.declared.stmt.Arm.{Arm}
use Rattle.gsl_tree.specs.declared.stmt.Stmt.{Stmt}
use Rattle.gsl_tree.specs.declared.stmt.Stmt.TheOpen.{Stmt-F, Arm-F}
use Rattle.gsl_tree.specs.declared.stmt.Stmt.TheFolds.{fold-Arm, fold-Stmt, fold-roll-Arm, fold-roll-Stmt, ind-Stmt, map-Arm, map-Stmt}
use Rattle.gsl_tree.specs.declared.stmt.Stmt.TheViews.{out-roll-Arm, out-roll-Stmt, roll-Arm, roll-Stmt}
use Rattle.gsl_tree.specs.declared.unit.Prototype.{Prototype}
use Rattle.gsl_lower_needs.specs.declared.need.Need.{Need}
use Rattle.gsl_lower_needs.specs.Asking.{Ask}
use Rattle.gsl_lower_needs.specs.Bodies.{AskingStmt, any_leaves, arm_by, arm_leaves_by, arms_in_turn, evaluated, if_any, in_turn, leaves, leaves_by, looped, row, stmt_asked, stmt_by, unless}
use Rattle.gsl_lower_used.specs.Lowered.{AlongAllLowered, AlongLowered, ThroughoutLowered, lowered_bodies, lowered_inner, up_to_jump}
use Rattle.gsl_lower_law_needs.specs.Used.{AreAsked, IsAsked}
use Rattle.gsl_lower_law_needs.proofs.Covering.{Covers, covers_both, covers_first, covers_map, covers_plain, grows_given}
use Rattle.gsl_lower_law_needs.proofs.Whole.{expr_covered}

-- ---- one behind the other

along_append : (P : Exits → Stmt → Type 0) (exits : Exits) (first second : List Stmt) → AlongAllLowered P (with_exits exits first) → AlongAllLowered P (with_exits exits second) → AlongAllLowered P (with_exits exits (first ++ second))
along_append P exits [] second p q = q
along_append P exits (one ∷ first) second (AlongAllLowered.more _ _ p rest) q = AlongAllLowered.more (exits, one) (with_exits exits (first ++ second)) p (along_append P exits first second rest q)

joined : (P : Expr → Type 0) (a b : Option Expr) → AllByRecursion P (or_nothing a) → AllByRecursion P (or_nothing b) → AllByRecursion P (or_nothing a ++ or_nothing b)
joined P None b p q = q
joined P (Some a) b p q = (p.0, q)

module _ (s : List Prototype) where
  abbrev into : Stmt → AskingStmt
  into = fold-Stmt AskingStmt (Ask (Unit {0})) (stmt_by s) arm_by

  abbrev arm_into : Arm → Ask (Unit {0})
  arm_into = fold-Arm AskingStmt (Ask (Unit {0})) (stmt_by s) arm_by

  abbrev leaving : Stmt → Bool
  leaving = fold-Stmt Bool Bool leaves_by arm_leaves_by

  abbrev arm_leaving : Arm → Bool
  arm_leaving = fold-Arm Bool Bool leaves_by arm_leaves_by

  -- ---- what is covered

  abbrev Exprs : List Expr → List Need → Type 0
  Exprs es after = AllByRecursion (ThroughoutLowered s (IsAsked after)) es

  abbrev Row : List Placed → List Need → Type 0
  Row placed after = AlongAllLowered (AreAsked s after) placed

  -- of a statement by its form
  abbrev Form : Exits → Stmt-F Stmt Arm → List Need → Type 0
  Form exits x after = Exprs (exprs_of x) after × Row (lowered_inner exits x) after

  abbrev Whole : Exits → Stmt → List Need → Type 0
  Whole exits one after = AlongLowered (AreAsked s after) exits one

  pub record OfStmt (one : Stmt) : Type 0 where
    pub leaves_is : (into one).leaves ≡ leaves one
    pub covers : (exits : Exits) → Covers (into one).asked (Whole exits one)

  abbrev OfArm : Arm → Type 0
  OfArm arm = (exits : Exits) → Covers (arm_into arm) (Row (with_exits exits (up_to_jump (body_of arm))))

  abbrev Child : Type 0
  Child = (one : Stmt) × OfStmt one

  abbrev ChildArm : Type 0
  ChildArm = (arm : Arm) × OfArm arm

  abbrev stmts : List Child → List Stmt
  stmts ss = map (λ (one : Child). one.0) ss

  abbrev arms_of : List ChildArm → List Arm
  arms_of arms = map (λ (arm : ChildArm). arm.0) arms

  all_of : (ss : List Child) → AllByRecursion OfStmt (stmts ss)
  all_of [] = tt
  all_of (one ∷ ss) = (one.1, all_of ss)

  -- ---- rows

  none_along : (after : List Need) → Row [] after
  none_along after = AlongAllLowered.none

  one_along : (exits : Exits) (one : Stmt) (ss : List Stmt) (after : List Need) → Whole exits one after → Row (with_exits exits ss) after → Row (with_exits exits (one ∷ ss)) after
  one_along exits one ss after p q = AlongAllLowered.more (exits, one) (with_exits exits ss) p q

  covers_unless : (left : Bool) (rest : Ask (Unit {0})) (exits : Exits) (ss : List Stmt) → Covers rest (Row (with_exits exits ss)) → Covers (unless left rest) (Row (with_exits exits (if left then [] else ss)))
  covers_unless true rest exits ss c = covers_plain (grows_given {A = Unit {0}} {a = tt}) none_along
  covers_unless false rest exits ss c = c

  pub covers_turn : (ss : List Stmt) (exits : Exits) → AllByRecursion OfStmt ss → Covers (in_turn (map into ss)) (Row (with_exits exits (up_to_jump ss)))
  unfolding in_turn
  covers_turn [] exits all = covers_plain (grows_given {A = Unit {0}} {a = tt}) none_along
  covers_turn (one ∷ ss) exits all =
      covers_both (all.0.covers exits)
      (λ done. subst (λ (b : Bool). Covers (unless (into one).leaves (in_turn (map into ss))) (Row (with_exits exits (if b then [] else up_to_jump ss)))) all.0.leaves_is (covers_unless (into one).leaves (in_turn (map into ss)) exits (up_to_jump ss) (covers_turn ss exits all.1)))
      (one_along exits one (if leaves one then [] else up_to_jump ss))

  covers_arms : (arms : List ChildArm) (exits : Exits) → Covers (arms_in_turn (map arm_into (arms_of arms))) (Row (with_exits exits (lowered_bodies (arms_of arms))))
  unfolding arms_in_turn
  covers_arms [] exits = covers_plain (grows_given {A = Unit {0}} {a = tt}) none_along
  covers_arms (arm ∷ arms) exits =
      covers_both (arm.1 exits) (λ done. covers_arms arms exits) (λ after p q. along_append (AreAsked s after) exits (up_to_jump (body_of arm.0)) (lowered_bodies (arms_of arms)) p q)

  all_leave : (ss : List Stmt) → AllByRecursion OfStmt ss → any_leaves (map (λ (x : AskingStmt). x.leaves) (map into ss)) ≡ any_leaves (map leaving ss)
  unfolding leaves
  all_leave [] all = refl
  all_leave (one ∷ ss) all = ap (λ b. b || any_leaves (map (λ (x : AskingStmt). x.leaves) (map into ss))) all.0.leaves_is ∙ ap (λ b. leaving one || b) (all_leave ss all.1)

  -- ---- expressions

  covers_expr : (e : Expr) → Covers (evaluated s e) (Exprs (e ∷ []))
  covers_expr e = covers_map (expr_covered s e).value (λ after p. (p, tt))

  covers_any : (e : Option Expr) → Covers (if_any s e) (Exprs (or_nothing e))
  covers_any None = covers_plain (grows_given {A = Unit {0}} {a = tt}) (λ after. tt)
  covers_any (Some e) = covers_expr e

  -- a loop
  covers_looped : (test step : Option Expr) (body : AskingStmt) (last : Bool) {P : List Need → Type 0} → Covers body.asked P → Covers (looped s test step body last) (λ after. Exprs (or_nothing test ++ or_nothing step) after × P after)
  covers_looped test step body true c =
      covers_both c (λ a. covers_both (covers_any step) (λ b. covers_any test) (λ after p q. joined (ThroughoutLowered s (IsAsked after)) test step q p)) (λ after p q. (q, p))
  covers_looped test step body false {P} c =
      covers_both {Q = λ after. P after × Exprs (or_nothing step) after} (covers_any test) (λ a. covers_both c (λ b. covers_any step) (λ after p q. (p, q))) (λ after p q. (joined (ThroughoutLowered s (IsAsked after)) test step p q.1, q.0))

  -- ---- every kind of statement

  abbrev Leave : Stmt-F Stmt Arm → Type 0
  Leave x = leaves_by (map-Stmt AskingStmt (Ask (Unit {0})) Bool Bool (λ (y : AskingStmt). y.leaves) (λ arm. false) (map-Stmt Stmt Arm AskingStmt (Ask (Unit {0})) into arm_into x)) ≡ leaves_by (map-Stmt Stmt Arm Bool Bool leaving arm_leaving x)

  whole_of : (exits : Exits) (x : Stmt-F Stmt Arm) (after : List Need) → Form exits x after → Whole exits (roll-Stmt x) after
  whole_of exits x after p = let q = subst (λ (z : Stmt-F Stmt Arm). Form exits z after) (sym (out-roll-Stmt x)) p in AlongLowered.whole exits (roll-Stmt x) q.0 q.1

  -- one layer, by what its parts cover
  rolled : (x : Stmt-F Stmt Arm) → Leave x → ((exits : Exits) → Covers (stmt_asked s (map-Stmt Stmt Arm AskingStmt (Ask (Unit {0})) into arm_into x)) (Form exits x)) → OfStmt (roll-Stmt x)
  unfolding leaves
  rolled x leave is = record {
    leaves_is = ap (λ (y : AskingStmt). y.leaves) (fold-roll-Stmt AskingStmt (Ask (Unit {0})) (stmt_by s) arm_by x) ∙ leave ∙ sym (fold-roll-Stmt Bool Bool leaves_by arm_leaves_by x);
    covers = λ exits. subst (λ (y : AskingStmt). Covers y.asked (Whole exits (roll-Stmt x))) (sym (fold-roll-Stmt AskingStmt (Ask (Unit {0})) (stmt_by s) arm_by x)) (covers_map (is exits) (whole_of exits x));
  }

  bare : (after : List Need) → Unit {0} × Row [] after
  bare after = (tt, none_along after)

  alone : (es : List Expr) (after : List Need) → Exprs es after → Exprs es after × Row [] after
  alone es after p = (p, none_along after)

  by_stmt : (y : Stmt-F Child ChildArm) → OfStmt (roll-Stmt (map-Stmt _ _ _ _ (λ one. one.0) (λ arm. arm.0) y))
  by_stmt Stmt-F.Empty = rolled Stmt-F.Empty refl (λ exits. covers_plain (grows_given {A = Unit {0}} {a = tt}) bare)
  by_stmt (Stmt-F.Eval e) = rolled (Stmt-F.Eval e) refl (λ exits. covers_map (covers_expr e) (alone (e ∷ [])))
  by_stmt (Stmt-F.Declare number init) = rolled (Stmt-F.Declare number init) refl (λ exits. covers_map (covers_any init) (alone (or_nothing init)))
  by_stmt (Stmt-F.Group ss) = rolled (Stmt-F.Group (stmts ss)) (all_leave (stmts ss) (all_of ss)) (λ exits. covers_map (covers_turn (stmts ss) exits (all_of ss)) (λ after p. (tt, p)))
  by_stmt (Stmt-F.If test first None) = rolled (Stmt-F.If test first.0 None) refl
      (λ exits. covers_both (covers_expr test) (λ a. covers_first (first.1.covers exits) (λ b. grows_given {A = Unit {0}} {a = tt})) (λ after p q. (p, one_along exits first.0 [] after q (none_along after))))
  by_stmt (Stmt-F.If test first (Some other)) = rolled (Stmt-F.If test first.0 (Some other.0)) refl
      (λ exits. covers_both (covers_expr test) (λ a. covers_both (first.1.covers exits) (λ b. other.1.covers exits) (λ after p q. one_along exits first.0 (other.0 ∷ []) after p (one_along exits other.0 [] after q (none_along after)))) (λ after p q. (p, q)))
  by_stmt (Stmt-F.Loop test step body last) = rolled (Stmt-F.Loop test step body.0 last) refl
      (λ exits. covers_map (covers_looped test step (into body.0) last (body.1.covers in_loop)) (λ after p. (p.0, one_along in_loop body.0 [] after p.1 (none_along after))))
  by_stmt (Stmt-F.Switch e arms) = rolled (Stmt-F.Switch e (arms_of arms)) refl (λ exits. covers_both (covers_expr e) (λ a. covers_arms arms (in_switch exits)) (λ after p q. (p, q)))
  by_stmt Stmt-F.Break = rolled Stmt-F.Break refl (λ exits. covers_plain (grows_given {A = Unit {0}} {a = tt}) bare)
  by_stmt Stmt-F.Continue = rolled Stmt-F.Continue refl (λ exits. covers_plain (grows_given {A = Unit {0}} {a = tt}) bare)
  by_stmt (Stmt-F.Return e) = rolled (Stmt-F.Return e) refl (λ exits. covers_map (covers_any e) (alone (or_nothing e)))
  by_stmt Stmt-F.Discard = rolled Stmt-F.Discard refl (λ exits. covers_plain (grows_given {A = Unit {0}} {a = tt}) bare)

  rolled_arm : (x : Arm-F Stmt Arm) → AllByRecursion OfStmt x.body → OfArm (roll-Arm x)
  rolled_arm x all exits =
      subst (λ (arm : Ask (Unit {0})). Covers arm (Row (with_exits exits (up_to_jump (body_of (roll-Arm x)))))) (sym (fold-roll-Arm AskingStmt (Ask (Unit {0})) (stmt_by s) arm_by x))
      (subst (λ (z : Arm-F Stmt Arm). Covers (in_turn (map into x.body)) (Row (with_exits exits (up_to_jump z.body)))) (sym (out-roll-Arm x)) (covers_turn x.body exits all))

  by_arm : (y : Arm-F Child ChildArm) → OfArm (roll-Arm (map-Arm _ _ _ _ (λ one. one.0) (λ arm. arm.0) y))
  by_arm y = rolled_arm (map-Arm _ _ _ _ (λ one. one.0) (λ arm. arm.0) y) (all_of y.body)

  stmt_covered : (one : Stmt) → OfStmt one
  stmt_covered one = ind-Stmt OfStmt OfArm (λ x y is. subst (λ z. OfStmt (roll-Stmt z)) is (by_stmt y)) (λ x y is. subst (λ z. OfArm (roll-Arm z)) is (by_arm y)) one

  stmts_covered : (ss : List Stmt) → AllByRecursion OfStmt ss
  stmts_covered [] = tt
  stmts_covered (one ∷ ss) = (stmt_covered one, stmts_covered ss)

  pub row_covered : (ss : List Stmt) (exits : Exits) → Covers (row s ss) (Row (with_exits exits (up_to_jump ss)))
  unfolding row
  row_covered ss exits = covers_first (covers_turn ss exits (stmts_covered ss)) (λ done. grows_given)
