-- Statements by the new numbers, form by form.
use Rattle.std.proofs.Common.{◌≡◌, refl, sym, ap, ◌∙◌, List, [], ◌∷◌, ◌++◌, map, Option, Some, None}
use Rattle.std.specs.Prelude.{option_map}
use Rattle.std.proofs.lemmas.List.{map-append}
use Rattle.gsl_tree.specs.declared.expr.Expr.{Expr}
use Rattle.gsl_tree.specs.declared.stmt.Arm.{Arm, out-Arm, roll-Arm}
use Rattle.gsl_tree.specs.declared.stmt.Stmt.{Stmt, out-Stmt}
use Rattle.gsl_tree.specs.declared.stmt.Stmt.TheOpen.{Stmt-F}
use Rattle.gsl_tree.specs.declared.stmt.Stmt.TheFolds.{fold-Arm, fold-roll-Stmt, fold-roll-Arm, map-Stmt}
use Rattle.gsl_tree.specs.declared.stmt.Stmt.TheViews.{roll-out-Stmt, roll-out-Arm}
use Rattle.gsl_tree.specs.declared.stmt.Stmt.TheVariants.{outs-Empty, outs-Eval, outs-Declare, outs-Group, outs-If, outs-Loop, outs-Switch, outs-Break, outs-Continue, outs-Return, outs-Discard}
use Rattle.gsl_tree.specs.Trees.{Exits, Placed, in_switch, body_of, bodies, with_exits, inner_of, or_nothing, exprs_of}
use Rattle.gsl_link_whole.specs.Numbers.{Numbering}
use Rattle.gsl_link_whole.specs.Renumbering.{renumbered_expr, renumbered_form, renumbered_arm, renumbered_stmt}

module _ (n : Numbering) where
  abbrev ren : Expr → Expr
  ren = renumbered_expr n

  -- the labels of a `switch` and what stands behind them, by the new numbers
  abbrev pub new_arm : Arm → Arm
  new_arm = fold-Arm Stmt Arm (renumbered_form n) renumbered_arm

  abbrev pub new_stmt_form : Stmt-F Stmt Arm → Stmt-F Stmt Arm
  new_stmt_form Stmt-F.Empty = Stmt-F.Empty
  new_stmt_form (Stmt-F.Eval e) = Stmt-F.Eval (renumbered_expr n e)
  new_stmt_form (Stmt-F.Declare number init) = Stmt-F.Declare number (option_map (renumbered_expr n) init)
  new_stmt_form (Stmt-F.Group stmts) = Stmt-F.Group (map (renumbered_stmt n) stmts)
  new_stmt_form (Stmt-F.If test first other) = Stmt-F.If (renumbered_expr n test) (renumbered_stmt n first) (option_map (renumbered_stmt n) other)
  new_stmt_form (Stmt-F.Loop test step body test_last) = Stmt-F.Loop (option_map (renumbered_expr n) test) (option_map (renumbered_expr n) step) (renumbered_stmt n body) test_last
  new_stmt_form (Stmt-F.Switch selector arms) = Stmt-F.Switch (renumbered_expr n selector) (map (fold-Arm Stmt Arm (renumbered_form n) renumbered_arm) arms)
  new_stmt_form Stmt-F.Break = Stmt-F.Break
  new_stmt_form Stmt-F.Continue = Stmt-F.Continue
  new_stmt_form (Stmt-F.Return value) = Stmt-F.Return (option_map (renumbered_expr n) value)
  new_stmt_form Stmt-F.Discard = Stmt-F.Discard

  abbrev go : Stmt → Stmt
  go = renumbered_stmt n

  layers : (form : Stmt-F Stmt Arm) → out-Stmt (renumbered_form n (map-Stmt Stmt Arm Stmt Arm go new_arm form)) ≡ new_stmt_form form
  layers Stmt-F.Empty = outs-Empty
  layers (Stmt-F.Eval e) = outs-Eval (ren e)
  layers (Stmt-F.Declare k init) = outs-Declare k (option_map ren init)
  layers (Stmt-F.Group stmts) = outs-Group (map go stmts)
  layers (Stmt-F.If test first None) = outs-If (ren test) (go first) None
  layers (Stmt-F.If test first (Some other)) = outs-If (ren test) (go first) (Some (go other))
  layers (Stmt-F.Loop test step body last) = outs-Loop (option_map ren test) (option_map ren step) (go body) last
  layers (Stmt-F.Switch selector arms) = outs-Switch (ren selector) (map new_arm arms)
  layers Stmt-F.Break = outs-Break
  layers Stmt-F.Continue = outs-Continue
  layers (Stmt-F.Return value) = outs-Return (option_map ren value)
  layers Stmt-F.Discard = outs-Discard

  pub stmt_form_of : (s : Stmt) → out-Stmt (renumbered_stmt n s) ≡ new_stmt_form (out-Stmt s)
  stmt_form_of s = ap (λ x. out-Stmt (go x)) (sym (roll-out-Stmt s)) ∙ ap out-Stmt (fold-roll-Stmt Stmt Arm (renumbered_form n) renumbered_arm (out-Stmt s)) ∙ layers (out-Stmt s)

  arm_opened : (arm : Arm) → new_arm arm ≡ roll-Arm (record { labels = (out-Arm arm).labels; is_default = (out-Arm arm).is_default; body = map go (out-Arm arm).body })
  arm_opened arm = ap new_arm (sym (roll-out-Arm arm)) ∙ fold-roll-Arm Stmt Arm (renumbered_form n) renumbered_arm (out-Arm arm)

  pub arm_labels : (arm : Arm) → (out-Arm (new_arm arm)).labels ≡ (out-Arm arm).labels
  arm_labels arm = ap (λ a. (out-Arm a).labels) (arm_opened arm)

  pub arm_default : (arm : Arm) → (out-Arm (new_arm arm)).is_default ≡ (out-Arm arm).is_default
  arm_default arm = ap (λ a. (out-Arm a).is_default) (arm_opened arm)

  pub arm_body : (arm : Arm) → body_of (new_arm arm) ≡ map (renumbered_stmt n) (body_of arm)
  arm_body arm = ap body_of (arm_opened arm)

  -- ---- the parts

  abbrev pub placed_new : Placed → Placed
  placed_new placed = (placed.0, renumbered_stmt n placed.1)

  pub exits_new : (exits : Exits) (stmts : List Stmt) → with_exits exits (map (renumbered_stmt n) stmts) ≡ map placed_new (with_exits exits stmts)
  exits_new exits [] = refl
  exits_new exits (s ∷ stmts) = ap (λ l. placed_new (exits, s) ∷ l) (exits_new exits stmts)

  bodies_new : (arms : List Arm) → bodies (map new_arm arms) ≡ map go (bodies arms)
  bodies_new [] = refl
  bodies_new (arm ∷ arms) = ap (λ l. l ++ bodies (map new_arm arms)) (arm_body arm) ∙ ap (λ l. map go (body_of arm) ++ l) (bodies_new arms) ∙ sym (map-append go (body_of arm) (bodies arms))

  pub inner_new : (exits : Exits) (form : Stmt-F Stmt Arm) → inner_of exits (new_stmt_form form) ≡ map placed_new (inner_of exits form)
  inner_new exits Stmt-F.Empty = refl
  inner_new exits (Stmt-F.Eval e) = refl
  inner_new exits (Stmt-F.Declare k init) = refl
  inner_new exits (Stmt-F.Group stmts) = exits_new exits stmts
  inner_new exits (Stmt-F.If test first None) = refl
  inner_new exits (Stmt-F.If test first (Some other)) = refl
  inner_new exits (Stmt-F.Loop test step body last) = refl
  inner_new exits (Stmt-F.Switch selector arms) = ap (with_exits (in_switch exits)) (bodies_new arms) ∙ exits_new (in_switch exits) (bodies arms)
  inner_new exits Stmt-F.Break = refl
  inner_new exits Stmt-F.Continue = refl
  inner_new exits (Stmt-F.Return value) = refl
  inner_new exits Stmt-F.Discard = refl

  optional_new : (e : Option Expr) → or_nothing (option_map ren e) ≡ map ren (or_nothing e)
  optional_new None = refl
  optional_new (Some e) = refl

  pub exprs_of_new : (form : Stmt-F Stmt Arm) → exprs_of (new_stmt_form form) ≡ map (renumbered_expr n) (exprs_of form)
  exprs_of_new Stmt-F.Empty = refl
  exprs_of_new (Stmt-F.Eval e) = refl
  exprs_of_new (Stmt-F.Declare k init) = optional_new init
  exprs_of_new (Stmt-F.Group stmts) = refl
  exprs_of_new (Stmt-F.If test first other) = refl
  exprs_of_new (Stmt-F.Loop test step body last) =
      ap (λ l. l ++ or_nothing (option_map ren step)) (optional_new test) ∙ ap (λ l. map ren (or_nothing test) ++ l) (optional_new step)
      ∙ sym (map-append ren (or_nothing test) (or_nothing step))
  exprs_of_new (Stmt-F.Switch selector arms) = refl
  exprs_of_new Stmt-F.Break = refl
  exprs_of_new Stmt-F.Continue = refl
  exprs_of_new (Stmt-F.Return value) = optional_new value
  exprs_of_new Stmt-F.Discard = refl
