-- Whether a statement leaves, as it is lowered and as it stands.
use Rattle.std.proofs.Common.{◌≡◌, refl, sym, ap, ◌∙◌, subst, Bool, ◌||◌, List, [], ◌∷◌, map}
use Rattle.gsl_types.specs.declared.ty.Ty.{Ty}
use Rattle.gsl_tree.specs.declared.stmt.Arm.{Arm}
use Rattle.gsl_tree.specs.declared.stmt.Stmt.{Stmt}
use Rattle.gsl_tree.specs.declared.stmt.Stmt.TheFolds.{fold-Arm, fold-Stmt, fold-roll-Stmt, ind-Stmt, map-Stmt}
use Rattle.gsl_tree.specs.declared.stmt.Stmt.TheOpen.{Stmt-F}
use Rattle.gsl_tree.specs.declared.stmt.Stmt.TheViews.{roll-Stmt}
use Rattle.gsl_lower_expr.specs.Lowering as lowering
use Rattle.gsl_lower_needs.specs.Bodies.{any_leaves, arm_leaves_by, leaves, leaves_by}
use Rattle.gsl_lower_stmt.specs.Lowering.{arm_by, lowers_stmt, stmt_by}
use Rattle.gsl_lower_stmt.specs.Parts.{LowerArm, LowerStmt}

module _ (lower : lowering.Setting) (locals : List Ty) where
  abbrev low : Stmt → LowerStmt
  low = fold-Stmt LowerStmt LowerArm (stmt_by lower locals) arm_by

  abbrev low_arm : Arm → LowerArm
  low_arm = fold-Arm LowerStmt LowerArm (stmt_by lower locals) arm_by

  abbrev leaving : Stmt → Bool
  leaving = fold-Stmt Bool Bool leaves_by arm_leaves_by

  abbrev arm_leaving : Arm → Bool
  arm_leaving = fold-Arm Bool Bool leaves_by arm_leaves_by

  abbrev OfStmt : Stmt → Type 0
  OfStmt s = (low s).leaves ≡ leaving s

  abbrev OfArm : Arm → Type 0
  OfArm arm = Unit {0}

  abbrev Child : Type 0
  Child = (s : Stmt) × OfStmt s

  abbrev ChildArm : Type 0
  ChildArm = (arm : Arm) × OfArm arm

  abbrev stmts : List Child → List Stmt
  stmts ss = map (λ (s : Child). s.0) ss

  all_leave : (ss : List Child) → any_leaves (map (λ (x : LowerStmt). x.leaves) (map low (stmts ss))) ≡ any_leaves (map leaving (stmts ss))
  all_leave [] = refl
  all_leave (s ∷ ss) = ap (λ b. b || any_leaves (map (λ (x : LowerStmt). x.leaves) (map low (stmts ss)))) s.1 ∙ ap (λ b. leaving s.0 || b) (all_leave ss)

  abbrev Leave : Stmt-F Stmt Arm → Type 0
  Leave x = leaves_by (map-Stmt LowerStmt LowerArm Bool Bool (λ (y : LowerStmt). y.leaves) (λ (y : LowerArm). y.leaves) (map-Stmt Stmt Arm LowerStmt LowerArm low low_arm x)) ≡ leaves_by (map-Stmt Stmt Arm Bool Bool leaving arm_leaving x)

  rolled : (x : Stmt-F Stmt Arm) → Leave x → OfStmt (roll-Stmt x)
  rolled x is = ap (λ (y : LowerStmt). y.leaves) (fold-roll-Stmt LowerStmt LowerArm (stmt_by lower locals) arm_by x) ∙ is ∙ sym (fold-roll-Stmt Bool Bool leaves_by arm_leaves_by x)

  by_stmt : (y : Stmt-F Child ChildArm) → OfStmt (roll-Stmt (map-Stmt Child ChildArm Stmt Arm (λ (s : Child). s.0) (λ (arm : ChildArm). arm.0) y))
  by_stmt (Stmt-F.Group ss) = rolled (Stmt-F.Group (stmts ss)) (all_leave ss)
  by_stmt y = rolled (map-Stmt Child ChildArm Stmt Arm (λ (s : Child). s.0) (λ (arm : ChildArm). arm.0) y) refl

  pub leaves_is : (s : Stmt) → (lowers_stmt lower locals s).leaves ≡ leaves s
  unfolding lowers_stmt leaves
  leaves_is s = ind-Stmt OfStmt OfArm (λ x y is. subst (λ z. OfStmt (roll-Stmt z)) is (by_stmt y)) (λ x y is. tt) s
