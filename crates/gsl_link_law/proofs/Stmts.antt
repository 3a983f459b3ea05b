-- A statement that is well typed in a unit is so by the new numbers, and as deep.
use Rattle.std.proofs.Common.{◌≡◌, refl, sym, ap, ◌∙◌, subst, ℕ, ◌+◌, ◌^◌, ◌<◌, ◌≤◌, max, slice_get, Bool, true, false, not, List, [], ◌∷◌, ◌++◌, map, length, Option, Some, None}
use Rattle.std.specs.Prelude.{option_map}
use Rattle.std.specs.List.{AllByRecursion}
use Rattle.std.proofs.lemmas.Bool.{true≢false}
use Rattle.std.proofs.lemmas.List.{length-map}
use Rattle.gsl_types.specs.declared.ty.Scalar.TheVariants.{Bool as Boolean}
use Rattle.gsl_types.specs.declared.ty.Ty.{Ty}
use Rattle.gsl_types.specs.declared.ty.Ty.TheOpen.{Ty-F}
use Rattle.gsl_types.specs.declared.ty.Ty.TheVariants as ty
use Rattle.gsl_types.specs.declared.ty.Ty.TheVariants.{outs-Void, rolls-Void}
use Rattle.gsl_types.specs.declared.ty.Ty.TheViews.{out-Ty, roll-Ty, roll-out-Ty}
use Rattle.gsl_tree.specs.declared.expr.Expr.{Expr}
use Rattle.gsl_tree.specs.declared.expr.ExprKind.{ExprKind}
use Rattle.gsl_tree.specs.declared.expr.ExprKind.TheOpen.{ExprKind-F}
use Rattle.gsl_tree.specs.declared.stmt.Arm.{Arm, out-Arm}
use Rattle.gsl_tree.specs.declared.stmt.Stmt.{Stmt, out-Stmt}
use Rattle.gsl_tree.specs.declared.stmt.Stmt.TheOpen.{Stmt-F}
use Rattle.gsl_tree.specs.declared.stmt.Stmt.TheFolds.{fold-Arm, fold-roll-Stmt, fold-roll-Arm, map-Stmt}
use Rattle.gsl_tree.specs.declared.stmt.Stmt.TheViews.{roll-out-Stmt, roll-out-Arm}
use Rattle.gsl_tree.specs.Around.{Around}
use Rattle.gsl_tree.specs.Paths.{repeats}
use Rattle.gsl_tree.specs.Trees.{type_of, form_of, parts_of, Exits, Placed, outside, in_switch, or_nothing, body_of, bodies, with_exits, inner_of, exprs_of, Along, AlongAll}
use Rattle.gsl_tree.specs.Expressions.{IsExpr, IsNode, IsIndex, MayBeRead, boolean}
use Rattle.gsl_tree.specs.Statements.{IsArm, AreArms, labels_of, defaults_in, one_more, most_labels, HasTypeIfAny, Returns, IsLoop, MayStand, IsStep, IsStmt, IsBody, deepest, logic_depth, depth_by, expr_depth, depth_in, stmt_depth_by, arm_depth_by, stmt_depth}
use Rattle.gsl_link_units.specs.Types.{retyped}
use Rattle.gsl_link_whole.specs.Numbers.{Numbering}
use Rattle.gsl_link_whole.specs.Renumbering.{renumbered_expr, renumbered_stmt}
use Rattle.gsl_link_law.specs.Renumbered.{IsRenumbered, HasTypes}
use Rattle.gsl_link_law.proofs.Layered.{new_layer, out_retyped, new_void, new_one, new_index}
use Rattle.gsl_link_law.proofs.Forms.{new_type, SaysSame, SameForm, says_same, maps_same}
use Rattle.gsl_link_law.proofs.Constant.{both}
use Rattle.gsl_link_law.proofs.Exprs.{at_mapped, read_new}
use Rattle.gsl_link_law.proofs.Nodes.{expr_new}
use Rattle.gsl_link_law.proofs.StmtForms.{new_arm, new_stmt_form, stmt_form_of, arm_labels, arm_default, arm_body, placed_new, exits_new, inner_new, exprs_of_new}

-- a type that is `void` by the new numbers was so
void_back : (numbers : List ℕ) (t : Ty) → retyped numbers t ≡ ty.Void → t ≡ ty.Void
void_back numbers t same = sym (roll-out-Ty t) ∙ by_layer (out-Ty t) (sym (out_retyped numbers t) ∙ ap out-Ty same ∙ outs-Void)
  where
    is_void : Ty-F Ty → Bool
    is_void Ty-F.Void = true
    is_void (Ty-F.One s) = false
    is_void (Ty-F.Vector s k) = false
    is_void (Ty-F.Array e k) = false
    is_void (Ty-F.Runtime e) = false
    is_void (Ty-F.Struct k) = false

    no : {X : Type 0} (y : Ty-F Ty) → is_void y ≡ false → y ≡ Ty-F.Void → X
    no y other e = let never : ⊥ = true≢false (sym (ap is_void e) ∙ other) in elim never [ ]

    by_layer : (y : Ty-F Ty) → new_layer numbers y ≡ Ty-F.Void → roll-Ty y ≡ ty.Void
    by_layer Ty-F.Void e = rolls-Void
    by_layer (Ty-F.One s) e = no (Ty-F.One s) refl e
    by_layer (Ty-F.Vector s k) e = no (Ty-F.Vector s k) refl e
    by_layer (Ty-F.Array u k) e = no (Ty-F.Array (retyped numbers u) k) refl e
    by_layer (Ty-F.Runtime u) e = no (Ty-F.Runtime (retyped numbers u)) refl e
    by_layer (Ty-F.Struct k) e = no (new_layer numbers (Ty-F.Struct k)) refl e

module _ (n : Numbering) (few many : Around) (is : IsRenumbered n few many) (fine : HasTypes few) (result : Ty) where
  abbrev new : Ty → Ty
  new = retyped n.structs

  abbrev ren : Expr → Expr
  ren = renumbered_expr n

  abbrev go : Stmt → Stmt
  go = renumbered_stmt n

  -- ---- arms

  labels_new : (arms : List Arm) → labels_of (map (new_arm n) arms) ≡ labels_of arms
  labels_new [] = refl
  labels_new (arm ∷ arms) = ap (λ l. l ++ labels_of (map (new_arm n) arms)) (arm_labels n arm) ∙ ap (λ l. (out-Arm arm).labels ++ l) (labels_new arms)

  defaults_new : (arms : List Arm) → defaults_in (map (new_arm n) arms) ≡ defaults_in arms
  defaults_new [] = refl
  defaults_new (arm ∷ arms) = ap (λ b. one_more b (defaults_in (map (new_arm n) arms))) (arm_default n arm) ∙ ap (one_more (out-Arm arm).is_default) (defaults_new arms)

  arm_new : (arm : Arm) → IsArm arm → IsArm (new_arm n arm)
  arm_new arm has = record {
    labelled = subst (λ l. 0 < one_more (out-Arm (new_arm n arm)).is_default (length l)) (sym (arm_labels n arm)) (subst (λ b. 0 < one_more b (length (out-Arm arm).labels)) (sym (arm_default n arm)) has.labelled);
    words = subst (AllByRecursion (λ word. word < 2 ^ 32)) (sym (arm_labels n arm)) has.words;
    filled = subst (λ l. 0 < length l) (sym (arm_body n arm)) (subst (λ k. 0 < k) (sym (length-map (body_of arm) go)) has.filled);
  }

  each_new : (arms : List Arm) → AllByRecursion IsArm arms → AllByRecursion IsArm (map (new_arm n) arms)
  each_new [] all = tt
  each_new (arm ∷ arms) all = (arm_new arm all.0, each_new arms all.1)

  arms_new : (arms : List Arm) → AreArms arms → AreArms (map (new_arm n) arms)
  arms_new arms has = record {
    each = each_new arms has.each;
    differ = ap (λ l. not (repeats l)) (labels_new arms) ∙ has.differ;
    default = subst (λ k. k ≤ 1) (sym (defaults_new arms)) has.default;
    count = subst (λ l. length l + defaults_in (map (new_arm n) arms) ≤ most_labels) (sym (labels_new arms)) (subst (λ k. length (labels_of arms) + k ≤ most_labels) (sym (defaults_new arms)) has.count);
  }

  -- ---- one statement

  typed_as : (t : Ty) (e : Option Expr) → HasTypeIfAny t e → HasTypeIfAny (new t) (option_map ren e)
  typed_as t None has = tt
  typed_as t (Some e) has = new_type n e ∙ ap new has

  test_new : (e : Option Expr) → HasTypeIfAny boolean e → HasTypeIfAny boolean (option_map ren e)
  test_new e has = subst (λ t. HasTypeIfAny t (option_map ren e)) (new_one n.structs Boolean) (typed_as boolean e has)

  loop_new : (test step : Option Expr) (last : Bool) → IsLoop test step last → IsLoop (option_map ren test) (option_map ren step) last
  loop_new test step false has = test_new test has
  loop_new None step true has = elim (true≢false (sym has.0)) [ ]
  loop_new (Some test) None true has = (has.0, has.1, test_new (Some test) has.2)
  loop_new (Some test) (Some step) true has = elim (true≢false has.1) [ ]

  returns_new : (value : Option Expr) → Returns result value → Returns (new result) (option_map ren value)
  returns_new None has = ap new has ∙ new_void n.structs
  returns_new (Some e) has = ((λ same. has.0 (void_back n.structs result same)), new_type n e ∙ ap new has.1)

  stands_new : (exits : Exits) (form : Stmt-F Stmt Arm) → MayStand few result exits form → MayStand many (new result) exits (new_stmt_form n form)
  stands_new exits Stmt-F.Empty has = tt
  stands_new exits (Stmt-F.Eval e) has = tt
  stands_new exits (Stmt-F.Declare k init) has = (new has.0, ap (λ l. slice_get l k) is.locals ∙ at_mapped new few.locals k has.0 has.1, typed_as has.0 init has.2)
  stands_new exits (Stmt-F.Group stmts) has = tt
  stands_new exits (Stmt-F.If test first other) has = new_type n test ∙ ap new has ∙ new_one n.structs Boolean
  stands_new exits (Stmt-F.Loop test step body last) has = loop_new test step last has
  stands_new exits (Stmt-F.Switch selector arms) has = (subst IsIndex (sym (new_type n selector)) (new_index n.structs (type_of selector) has.0), arms_new arms has.1)
  stands_new exits Stmt-F.Break has = has
  stands_new exits Stmt-F.Continue has = has
  stands_new exits (Stmt-F.Return value) has = returns_new value has
  stands_new exits Stmt-F.Discard has = sym is.stage ∙ has

  typed_new : (es : List Expr) → AllByRecursion (IsExpr few) es → AllByRecursion (IsExpr many) (map ren es)
  typed_new [] all = tt
  typed_new (e ∷ es) all = (expr_new n few many is fine e all.0, typed_new es all.1)

  reads_new : (es : List Expr) → AllByRecursion (IsExpr few) es → AllByRecursion (MayBeRead few) es → AllByRecursion (MayBeRead many) (map ren es)
  reads_new [] all reads = tt
  reads_new (e ∷ es) all reads = (read_new n few many is fine e all.0 reads.0, reads_new es all.1 reads.1)

  step_new : (exits : Exits) (s : Stmt) → IsStep few result exits s → IsStep many (new result) exits (go s)
  step_new exits s has =
      let form = stmt_form_of n s in
      let exprs = sym (ap exprs_of form ∙ exprs_of_new n (out-Stmt s)) in
      record {
        stands = subst (MayStand many (new result) exits) (sym form) (stands_new exits (out-Stmt s) has.stands);
        typed = subst (AllByRecursion (IsExpr many)) exprs (typed_new (exprs_of (out-Stmt s)) has.typed);
        reads = subst (AllByRecursion (MayBeRead many)) exprs (reads_new (exprs_of (out-Stmt s)) has.typed has.reads);
      }

  mutual
    -- a statement by the new numbers is well typed
    pub stmt_new : (exits : Exits) (s : Stmt) → IsStmt few result exits s → IsStmt many (retyped n.structs result) exits (renumbered_stmt n s)
    stmt_new _ _ (Along.whole exits s has inner) =
        Along.whole exits (go s) (step_new exits s has)
        (subst (AlongAll (IsStep many (new result))) (sym (ap (inner_of exits) (stmt_form_of n s) ∙ inner_new n exits (out-Stmt s))) (stmts_new (inner_of exits (out-Stmt s)) inner))

    pub stmts_new : (all : List Placed) → AlongAll (IsStep few result) all → AlongAll (IsStep many (retyped n.structs result)) (map (placed_new n) all)
    stmts_new _ AlongAll.none = AlongAll.none
    stmts_new _ (AlongAll.more placed rest has others) = AlongAll.more (placed_new n placed) (map (placed_new n) rest) (stmt_new placed.0 placed.1 has) (stmts_new rest others)

  -- ---- depths

  abbrev Deep : Expr → Type 0
  Deep = SaysSame n depth_by depth_by (IsNode few)

  deep_form : (form : ExprKind-F ExprKind Expr) → AllByRecursion Deep (parts_of form) → SameForm n depth_by depth_by (IsNode few) form
  deep_form (ExprKind-F.Const v) all = refl
  deep_form (ExprKind-F.Local k) all = refl
  deep_form (ExprKind-F.Global k) all = refl
  deep_form (ExprKind-F.Param k) all = refl
  deep_form (ExprKind-F.BlockMember b k) all = refl
  deep_form (ExprKind-F.Stage var) all = refl
  deep_form (ExprKind-F.Interface k) all = refl
  deep_form (ExprKind-F.Member a k) all = all.0
  deep_form (ExprKind-F.Index a i) all = both max _ _ _ _ all.0 all.1.0
  deep_form (ExprKind-F.Swizzle a lanes) all = all.0
  deep_form (ExprKind-F.Length a) all = all.0
  deep_form (ExprKind-F.Unary op a) all = all.0
  deep_form (ExprKind-F.Binary op a b) all = both max _ _ _ _ all.0 all.1.0
  deep_form (ExprKind-F.Logic op a b) all = both (logic_depth op) _ _ _ _ all.0 all.1.0
  deep_form (ExprKind-F.Choose t a b) all = both max _ _ _ _ all.0 (ap (λ d. 1 + d) (both max _ _ _ _ all.1.0 all.1.1.0))
  deep_form (ExprKind-F.Assign a b) all = both max _ _ _ _ all.0 all.1.0
  deep_form (ExprKind-F.Update op a b) all = both max _ _ _ _ all.0 all.1.0
  deep_form (ExprKind-F.Step op a) all = all.0
  deep_form (ExprKind-F.Call k args) all = ap deepest (maps_same n expr_depth expr_depth args all)
  deep_form (ExprKind-F.Built which args) all = ap deepest (maps_same n expr_depth expr_depth args all)
  deep_form (ExprKind-F.Build args) all = ap deepest (maps_same n expr_depth expr_depth args all)
  deep_form (ExprKind-F.Convert a) all = all.0
  deep_form (ExprKind-F.Comma items) all = ap deepest (maps_same n expr_depth expr_depth items all)

  pub depth_new : (e : Expr) → IsExpr few e → expr_depth (renumbered_expr n e) ≡ expr_depth e
  depth_new e typed = says_same n depth_by depth_by (IsNode few) (λ x node all. deep_form (form_of x) all) e typed

  abbrev arm_depth : Arm → ℕ
  arm_depth = fold-Arm ℕ ℕ stmt_depth_by arm_depth_by

  depth_opened : (s : Stmt) → stmt_depth s ≡ stmt_depth_by (map-Stmt Stmt Arm ℕ ℕ stmt_depth arm_depth (out-Stmt s))
  depth_opened s = ap stmt_depth (sym (roll-out-Stmt s)) ∙ fold-roll-Stmt ℕ ℕ stmt_depth_by arm_depth_by (out-Stmt s)

  arm_depth_is : (arm : Arm) → arm_depth arm ≡ 1 + deepest (map stmt_depth (body_of arm))
  arm_depth_is arm = ap arm_depth (sym (roll-out-Arm arm)) ∙ fold-roll-Arm ℕ ℕ stmt_depth_by arm_depth_by (out-Arm arm)

  -- each statement is as deep
  abbrev DeepStmt : Stmt → Type 0
  DeepStmt s = stmt_depth (go s) ≡ stmt_depth s

  all_deep : (stmts : List Stmt) → AllByRecursion DeepStmt stmts → map stmt_depth (map go stmts) ≡ map stmt_depth stmts
  all_deep [] all = refl
  all_deep (s ∷ stmts) all = ap (λ d. d ∷ map stmt_depth (map go stmts)) all.0 ∙ ap (λ l. stmt_depth s ∷ l) (all_deep stmts all.1)

  front : (xs ys : List Stmt) → AllByRecursion DeepStmt (xs ++ ys) → AllByRecursion DeepStmt xs × AllByRecursion DeepStmt ys
  front [] ys all = (tt, all)
  front (x ∷ xs) ys all = let rest = front xs ys all.1 in ((all.0, rest.0), rest.1)

  arms_deep : (arms : List Arm) → AllByRecursion DeepStmt (bodies arms) → map arm_depth (map (new_arm n) arms) ≡ map arm_depth arms
  arms_deep [] all = refl
  arms_deep (arm ∷ arms) all =
      let parts = front (body_of arm) (bodies arms) all in
      ap (λ d. d ∷ map arm_depth (map (new_arm n) arms))
      (arm_depth_is (new_arm n arm) ∙ ap (λ l. 1 + deepest (map stmt_depth l)) (arm_body n arm) ∙ ap (λ l. 1 + deepest l) (all_deep (body_of arm) parts.0) ∙ sym (arm_depth_is arm))
      ∙ ap (λ l. arm_depth arm ∷ l) (arms_deep arms parts.1)

  depth_in_new : (e : Option Expr) → AllByRecursion (IsExpr few) (or_nothing e) → depth_in (option_map ren e) ≡ depth_in e
  depth_in_new None all = refl
  depth_in_new (Some e) all = depth_new e all.0

  optional_parts : (a b : Option Expr) → AllByRecursion (IsExpr few) (or_nothing a ++ or_nothing b) → AllByRecursion (IsExpr few) (or_nothing a) × AllByRecursion (IsExpr few) (or_nothing b)
  optional_parts None b all = (tt, all)
  optional_parts (Some a) b all = ((all.0, tt), all.1)

  -- the statements that are parts, without their exits
  abbrev DeepPlaced : Placed → Type 0
  DeepPlaced placed = DeepStmt placed.1

  unplaced : (exits : Exits) (stmts : List Stmt) → AllByRecursion DeepPlaced (with_exits exits stmts) → AllByRecursion DeepStmt stmts
  unplaced exits [] all = tt
  unplaced exits (s ∷ stmts) all = (all.0, unplaced exits stmts all.1)

  depth_form : (exits : Exits) (form : Stmt-F Stmt Arm) → AllByRecursion (IsExpr few) (exprs_of form) → AllByRecursion DeepPlaced (inner_of exits form)
      → stmt_depth_by (map-Stmt Stmt Arm ℕ ℕ stmt_depth arm_depth (new_stmt_form n form)) ≡ stmt_depth_by (map-Stmt Stmt Arm ℕ ℕ stmt_depth arm_depth form)
  depth_form exits Stmt-F.Empty typed all = refl
  depth_form exits (Stmt-F.Eval e) typed all = depth_new e typed.0
  depth_form exits (Stmt-F.Declare k init) typed all = depth_in_new init typed
  depth_form exits (Stmt-F.Group stmts) typed all = ap deepest (all_deep stmts (unplaced exits stmts all))
  depth_form exits (Stmt-F.If test first None) typed all = both max _ _ _ _ (depth_new test typed.0) (ap (λ d. 1 + max d 0) all.0)
  depth_form exits (Stmt-F.If test first (Some other)) typed all = both max _ _ _ _ (depth_new test typed.0) (ap (λ d. 1 + d) (both max _ _ _ _ all.0 all.1.0))
  depth_form exits (Stmt-F.Loop test step body last) typed all =
      let parts = optional_parts test step typed in
      ap (λ d. 1 + d) (both max _ _ _ _ (depth_in_new test parts.0) (both max _ _ _ _ (depth_in_new step parts.1) all.0))
  depth_form exits (Stmt-F.Switch selector arms) typed all = both max _ _ _ _ (depth_new selector typed.0) (ap deepest (arms_deep arms (unplaced (in_switch exits) (bodies arms) all)))
  depth_form exits Stmt-F.Break typed all = refl
  depth_form exits Stmt-F.Continue typed all = refl
  depth_form exits (Stmt-F.Return value) typed all = depth_in_new value typed
  depth_form exits Stmt-F.Discard typed all = refl

  mutual
    pub stmt_deep : (exits : Exits) (s : Stmt) → IsStmt few result exits s → DeepStmt s
    stmt_deep _ _ (Along.whole exits s has inner) =
        depth_opened (go s) ∙ ap (λ form. stmt_depth_by (map-Stmt Stmt Arm ℕ ℕ stmt_depth arm_depth form)) (stmt_form_of n s)
        ∙ depth_form exits (out-Stmt s) has.typed (stmts_deep (inner_of exits (out-Stmt s)) inner) ∙ sym (depth_opened s)

    stmts_deep : (all : List Placed) → AlongAll (IsStep few result) all → AllByRecursion DeepPlaced all
    stmts_deep _ AlongAll.none = tt
    stmts_deep _ (AlongAll.more placed rest has others) = (stmt_deep placed.0 placed.1 has, stmts_deep rest others)

  -- a body by the new numbers is as deep
  pub body_deep : (body : List Stmt) → IsBody few result body → deepest (map stmt_depth (map (renumbered_stmt n) body)) ≡ deepest (map stmt_depth body)
  body_deep body has = ap deepest (all_deep body (unplaced outside body (stmts_deep (with_exits outside body) has)))

  -- and well typed
  pub body_new : (body : List Stmt) → IsBody few result body → IsBody many (retyped n.structs result) (map (renumbered_stmt n) body)
  body_new body has = subst (AlongAll (IsStep many (new result))) (sym (exits_new n outside body)) (stmts_new (with_exits outside body) has)
