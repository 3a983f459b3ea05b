-- The calls in trees by new numbers are those in the trees, by the new numbers of heads.
use Rattle.std.proofs.Common.{◌≡◌, refl, sym, ap, ◌∙◌, ℕ, List, [], ◌∷◌, ◌++◌, map, Option, Some, None}
use Rattle.std.specs.Prelude.{flat_map, option_map}
use Rattle.std.specs.List.{AllByRecursion}
use Rattle.std.proofs.lemmas.List.{map-append}
use Rattle.gsl_types.specs.declared.ty.Ty.{Ty}
use Rattle.gsl_tree.specs.declared.expr.Expr.{Expr, out-Expr}
use Rattle.gsl_tree.specs.declared.expr.ExprKind.{ExprKind}
use Rattle.gsl_tree.specs.declared.expr.ExprKind.TheOpen.{ExprKind-F}
use Rattle.gsl_tree.specs.declared.expr.ExprKind.TheFolds.{fold-ExprKind, fold-roll-Expr, fold-roll-ExprKind, map-ExprKind}
use Rattle.gsl_tree.specs.declared.expr.ExprKind.TheViews.{roll-out-Expr, roll-out-ExprKind}
use Rattle.gsl_tree.specs.declared.stmt.Arm.{Arm, out-Arm}
use Rattle.gsl_tree.specs.declared.stmt.Stmt.{Stmt, out-Stmt}
use Rattle.gsl_tree.specs.declared.stmt.Stmt.TheOpen.{Stmt-F}
use Rattle.gsl_tree.specs.declared.stmt.Stmt.TheFolds.{fold-Arm, fold-roll-Stmt, fold-roll-Arm, map-Stmt}
use Rattle.gsl_tree.specs.declared.stmt.Stmt.TheViews.{roll-out-Stmt, roll-out-Arm}
use Rattle.gsl_tree.specs.declared.unit.Function.{Function}
use Rattle.gsl_tree.specs.declared.unit.GlobalVar.{GlobalVar}
use Rattle.gsl_tree.specs.Around.{Around}
use Rattle.gsl_tree.specs.Trees.{place_of, form_of, parts_of, Throughout, ThroughoutAll, Exits, Placed, outside, in_switch, or_nothing, body_of, bodies, with_exits, inner_of, exprs_of, Along, AlongAll}
use Rattle.gsl_tree.specs.Expressions.{IsExpr, IsNode}
use Rattle.gsl_tree.specs.Statements.{IsStep, IsStmt, IsBody}
use Rattle.gsl_link_units.specs.Types.{new_number}
use Rattle.gsl_link_whole.specs.Numbers.{Numbering}
use Rattle.gsl_link_whole.specs.Renumbering.{renumbered_kind, renumbered_part, renumbered_expr, renumbered_stmt, renumbered_function, renumbered_global}
use Rattle.gsl_link_calls.specs.declared.call.Call.{Call}
use Rattle.gsl_link_calls.specs.Calls.{together, calls_kind, with_call, calls_part, expr_calls, stmt_calls_by, arm_calls_by, stmt_calls, global_calls, function_calls, renumbered_call}
use Rattle.gsl_link_law.proofs.Forms.{new_form, new_form_of}
use Rattle.gsl_link_law.proofs.StmtForms.{new_arm, new_stmt_form, stmt_form_of, arm_body, exprs_of_new}

module _ (n : Numbering) where
  abbrev news : List Call → List Call
  news calls = map (renumbered_call n.heads) calls

  join : (a b x y : List Call) → x ≡ news a → y ≡ news b → x ++ y ≡ news (a ++ b)
  join a b x y first second = ap (λ l. l ++ y) first ∙ ap (λ l. news a ++ l) second ∙ sym (map-append (renumbered_call n.heads) a b)

  -- one after the other
  pub flat_new : {A : Type 0} (calls : A → List Call) (new : A → A) (xs : List A) → AllByRecursion (λ x. calls (new x) ≡ map (renumbered_call n.heads) (calls x)) xs → flat_map calls (map new xs) ≡ map (renumbered_call n.heads) (flat_map calls xs)
  flat_new calls new [] all = refl
  flat_new calls new (x ∷ xs) all = join (calls x) (flat_map calls xs) (calls (new x)) (flat_map calls (map new xs)) all.0 (flat_new calls new xs all.1)

  together_new : {A : Type 0} (calls : A → List Call) (new : A → A) (xs : List A) → AllByRecursion (λ x. calls (new x) ≡ news (calls x)) xs → together (map calls (map new xs)) ≡ news (together (map calls xs))
  together_new calls new [] all = refl
  together_new calls new (x ∷ xs) all = join (calls x) (together (map calls xs)) (calls (new x)) (together (map calls (map new xs))) all.0 (together_new calls new xs all.1)

  -- ---- expressions

  abbrev ren : Expr → Expr
  ren = renumbered_expr n

  abbrev ren_kind : ExprKind → ExprKind
  ren_kind = fold-ExprKind ExprKind Expr (renumbered_kind n) (renumbered_part n)

  abbrev kind_calls : ExprKind → Option ℕ × List Call
  kind_calls = fold-ExprKind (Option ℕ × List Call) (List Call) calls_kind calls_part

  -- of a form: the head that it calls, and the calls in its parts
  abbrev of_form : ExprKind-F ExprKind Expr → Option ℕ × List Call
  of_form form = calls_kind (map-ExprKind _ _ _ _ kind_calls expr_calls form)

  calls_opened : (e : Expr) → expr_calls e ≡ with_call (place_of e) (of_form (form_of e)).0 (of_form (form_of e)).1
  calls_opened e =
      ap expr_calls (sym (roll-out-Expr e)) ∙ fold-roll-Expr (Option ℕ × List Call) (List Call) calls_kind calls_part (out-Expr e)
      ∙ ap (λ k. with_call (place_of e) k.0 k.1) (ap kind_calls (sym (roll-out-ExprKind (out-Expr e).kind)) ∙ fold-roll-ExprKind (Option ℕ × List Call) (List Call) calls_kind calls_part (form_of e))

  place_same : (e : Expr) → place_of (ren e) ≡ place_of e
  place_same e = ap place_of (ap ren (sym (roll-out-Expr e)) ∙ fold-roll-Expr ExprKind Expr (renumbered_kind n) (renumbered_part n) (out-Expr e))

  abbrev Same : Expr → Type 0
  Same e = expr_calls (ren e) ≡ news (expr_calls e)

  abbrev new_pair : Option ℕ × List Call → Option ℕ × List Call
  new_pair k = (option_map (new_number n.heads) k.0, news k.1)

  abbrev no_head : List Call → Option ℕ × List Call
  no_head calls = (None, calls)

  parts : (es : List Expr) → AllByRecursion Same es → together (map expr_calls (map ren es)) ≡ news (together (map expr_calls es))
  parts es all = together_new expr_calls ren es all

  form_new : (form : ExprKind-F ExprKind Expr) → AllByRecursion Same (parts_of form) → of_form (new_form n form) ≡ new_pair (of_form form)
  form_new (ExprKind-F.Const v) all = refl
  form_new (ExprKind-F.Local k) all = refl
  form_new (ExprKind-F.Global k) all = refl
  form_new (ExprKind-F.Param k) all = refl
  form_new (ExprKind-F.BlockMember b k) all = refl
  form_new (ExprKind-F.Stage var) all = refl
  form_new (ExprKind-F.Interface k) all = refl
  form_new (ExprKind-F.Member a k) all = ap no_head (parts (a ∷ []) all)
  form_new (ExprKind-F.Index a i) all = ap no_head (parts (a ∷ i ∷ []) all)
  form_new (ExprKind-F.Swizzle a lanes) all = ap no_head (parts (a ∷ []) all)
  form_new (ExprKind-F.Length a) all = ap no_head (parts (a ∷ []) all)
  form_new (ExprKind-F.Unary op a) all = ap no_head (parts (a ∷ []) all)
  form_new (ExprKind-F.Binary op a b) all = ap no_head (parts (a ∷ b ∷ []) all)
  form_new (ExprKind-F.Logic op a b) all = ap no_head (parts (a ∷ b ∷ []) all)
  form_new (ExprKind-F.Choose test a b) all = ap no_head (parts (test ∷ a ∷ b ∷ []) all)
  form_new (ExprKind-F.Assign a b) all = ap no_head (parts (a ∷ b ∷ []) all)
  form_new (ExprKind-F.Update op a b) all = ap no_head (parts (a ∷ b ∷ []) all)
  form_new (ExprKind-F.Step op a) all = ap no_head (parts (a ∷ []) all)
  form_new (ExprKind-F.Call k args) all = ap (λ (calls : List Call). (Some (new_number n.heads k), calls)) (parts args all)
  form_new (ExprKind-F.Built which args) all = ap no_head (parts args all)
  form_new (ExprKind-F.Build args) all = ap no_head (parts args all)
  form_new (ExprKind-F.Convert a) all = ap no_head (parts (a ∷ []) all)
  form_new (ExprKind-F.Comma items) all = ap no_head (parts items all)

  with_new : (place : _) (head : Option ℕ) (calls : List Call) → with_call place (option_map (new_number n.heads) head) (news calls) ≡ news (with_call place head calls)
  with_new place None calls = refl
  with_new place (Some head) calls = refl

  by_parts : (e : Expr) → AllByRecursion Same (parts_of (form_of e)) → Same e
  by_parts e all =
      calls_opened (ren e) ∙ ap (λ place. with_call place (of_form (form_of (ren e))).0 (of_form (form_of (ren e))).1) (place_same e)
      ∙ ap (λ k. with_call (place_of e) k.0 k.1) (ap of_form (new_form_of n e) ∙ form_new (form_of e) all)
      ∙ with_new (place_of e) (of_form (form_of e)).0 (of_form (form_of e)).1 ∙ ap news (sym (calls_opened e))

  module _ (around : Around) where
    mutual
      pub expr_new : (e : Expr) → IsExpr around e → expr_calls (renumbered_expr n e) ≡ map (renumbered_call n.heads) (expr_calls e)
      expr_new _ (Throughout.whole e node inside) = by_parts e (exprs_new (parts_of (form_of e)) inside)

      exprs_new : (es : List Expr) → ThroughoutAll (IsNode around) es → AllByRecursion Same es
      exprs_new _ ThroughoutAll.none = tt
      exprs_new _ (ThroughoutAll.more e es is rest) = (expr_new e is, exprs_new es rest)

    -- ---- statements

    abbrev go : Stmt → Stmt
    go = renumbered_stmt n

    abbrev arm_calls : Arm → List Call
    arm_calls = fold-Arm (List Call) (List Call) stmt_calls_by arm_calls_by

    abbrev of_stmt : Stmt-F Stmt Arm → List Call
    of_stmt form = stmt_calls_by (map-Stmt Stmt Arm (List Call) (List Call) stmt_calls arm_calls form)

    stmt_opened : (s : Stmt) → stmt_calls s ≡ of_stmt (out-Stmt s)
    stmt_opened s = ap stmt_calls (sym (roll-out-Stmt s)) ∙ fold-roll-Stmt (List Call) (List Call) stmt_calls_by arm_calls_by (out-Stmt s)

    arm_opened : (arm : Arm) → arm_calls arm ≡ together (map stmt_calls (body_of arm))
    arm_opened arm = ap arm_calls (sym (roll-out-Arm arm)) ∙ fold-roll-Arm (List Call) (List Call) stmt_calls_by arm_calls_by (out-Arm arm)

    abbrev SameStmt : Stmt → Type 0
    SameStmt s = stmt_calls (go s) ≡ news (stmt_calls s)

    abbrev SamePlaced : Placed → Type 0
    SamePlaced placed = SameStmt placed.1

    unplaced : (exits : Exits) (stmts : List Stmt) → AllByRecursion SamePlaced (with_exits exits stmts) → AllByRecursion SameStmt stmts
    unplaced exits [] all = tt
    unplaced exits (s ∷ stmts) all = (all.0, unplaced exits stmts all.1)

    front : (xs ys : List Stmt) → AllByRecursion SameStmt (xs ++ ys) → AllByRecursion SameStmt xs × AllByRecursion SameStmt ys
    front [] ys all = (tt, all)
    front (x ∷ xs) ys all = let rest = front xs ys all.1 in ((all.0, rest.0), rest.1)

    arms_new : (arms : List Arm) → AllByRecursion SameStmt (bodies arms) → AllByRecursion (λ arm. arm_calls (new_arm n arm) ≡ news (arm_calls arm)) arms
    arms_new [] all = tt
    arms_new (arm ∷ arms) all =
        let both = front (body_of arm) (bodies arms) all in (
          arm_opened (new_arm n arm) ∙ ap (λ l. together (map stmt_calls l)) (arm_body n arm) ∙ together_new stmt_calls go (body_of arm) both.0 ∙ ap news (sym (arm_opened arm)),
          arms_new arms both.1,
        )

    each_expr : (es : List Expr) → AllByRecursion (IsExpr around) es → AllByRecursion Same es
    each_expr [] all = tt
    each_expr (e ∷ es) all = (expr_new e all.0, each_expr es all.1)

    in_exprs : (form : Stmt-F Stmt Arm) → AllByRecursion (IsExpr around) (exprs_of form) → flat_map expr_calls (exprs_of (new_stmt_form n form)) ≡ news (flat_map expr_calls (exprs_of form))
    in_exprs form exprs = ap (flat_map expr_calls) (exprs_of_new n form) ∙ flat_new expr_calls ren (exprs_of form) (each_expr (exprs_of form) exprs)

    stmt_form_new : (exits : Exits) (form : Stmt-F Stmt Arm) → AllByRecursion (IsExpr around) (exprs_of form) → AllByRecursion SamePlaced (inner_of exits form) → of_stmt (new_stmt_form n form) ≡ news (of_stmt form)
    stmt_form_new exits Stmt-F.Empty exprs all = refl
    stmt_form_new exits (Stmt-F.Eval e) exprs all = join _ [] _ [] (in_exprs (Stmt-F.Eval e) exprs) refl
    stmt_form_new exits (Stmt-F.Declare k init) exprs all = join _ [] _ [] (in_exprs (Stmt-F.Declare k init) exprs) refl
    stmt_form_new exits (Stmt-F.Group stmts) exprs all = together_new stmt_calls go stmts (unplaced exits stmts all)
    stmt_form_new exits (Stmt-F.If test first None) exprs all =
        join _ (stmt_calls first ++ []) _ (stmt_calls (go first) ++ []) (in_exprs (Stmt-F.If test first None) exprs) (join (stmt_calls first) [] (stmt_calls (go first)) [] all.0 refl)
    stmt_form_new exits (Stmt-F.If test first (Some other)) exprs all =
        join _ (stmt_calls first ++ stmt_calls other) _ (stmt_calls (go first) ++ stmt_calls (go other)) (in_exprs (Stmt-F.If test first (Some other)) exprs)
        (join (stmt_calls first) (stmt_calls other) (stmt_calls (go first)) (stmt_calls (go other)) all.0 all.1.0)
    stmt_form_new exits (Stmt-F.Loop test step body last) exprs all = join _ (stmt_calls body) _ (stmt_calls (go body)) (in_exprs (Stmt-F.Loop test step body last) exprs) all.0
    stmt_form_new exits (Stmt-F.Switch selector arms) exprs all =
        join _ (together (map arm_calls arms)) _ (together (map arm_calls (map (new_arm n) arms))) (in_exprs (Stmt-F.Switch selector arms) exprs)
        (together_new arm_calls (new_arm n) arms (arms_new arms (unplaced (in_switch exits) (bodies arms) all)))
    stmt_form_new exits Stmt-F.Break exprs all = refl
    stmt_form_new exits Stmt-F.Continue exprs all = refl
    stmt_form_new exits (Stmt-F.Return value) exprs all = join _ [] _ [] (in_exprs (Stmt-F.Return value) exprs) refl
    stmt_form_new exits Stmt-F.Discard exprs all = refl

    module _ (result : Ty) where
      mutual
        stmt_new : (exits : Exits) (s : Stmt) → IsStmt around result exits s → SameStmt s
        stmt_new _ _ (Along.whole exits s has inner) =
            stmt_opened (go s) ∙ ap of_stmt (stmt_form_of n s) ∙ stmt_form_new exits (out-Stmt s) has.typed (stmts_new (inner_of exits (out-Stmt s)) inner) ∙ ap news (sym (stmt_opened s))

        stmts_new : (all : List Placed) → AlongAll (IsStep around result) all → AllByRecursion SamePlaced all
        stmts_new _ AlongAll.none = tt
        stmts_new _ (AlongAll.more placed rest has others) = (stmt_new placed.0 placed.1 has, stmts_new rest others)

      -- the calls in a function
      pub function_new : (f : Function) → IsBody around result f.body → function_calls (renumbered_function n f) ≡ map (renumbered_call n.heads) (function_calls f)
      function_new f has = flat_new stmt_calls go f.body (unplaced outside f.body (stmts_new (with_exits outside f.body) has))

    -- and in an initialiser
    pub global_new : (g : GlobalVar) → AllByRecursion (IsExpr around) (or_nothing g.init) → global_calls (renumbered_global n g) ≡ map (renumbered_call n.heads) (global_calls g)
    global_new g has = by_case g.init has
      where
        by_case : (init : Option Expr) → AllByRecursion (IsExpr around) (or_nothing init) → flat_map expr_calls (or_nothing (option_map ren init)) ≡ news (flat_map expr_calls (or_nothing init))
        by_case None all = refl
        by_case (Some e) all = join (expr_calls e) [] (expr_calls (ren e)) [] (expr_new e all.0) refl
