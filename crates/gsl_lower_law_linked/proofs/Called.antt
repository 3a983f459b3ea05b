-- The functions that a function calls are the heads of the calls in it.
use Rattle.std.proofs.Common.{◌≡◌, refl, sym, ap, ◌∙◌, subst, inl, inr, ◌⊎◌, ⊎_elim, ℕ, Bool, true, false, ◌||◌, List, [], ◌∷◌, ◌++◌, map, Option, Some, None}
use Rattle.std.specs.Prelude.{nat_eq}
use Rattle.std.specs.List.{AllByRecursion, flat_map, list_any}
use Rattle.std.proofs.lemmas.Bool.{eqb-true, false≢true, or_cases}
use Rattle.gsl_base.specs.declared.fault.Place.{Place}
use Rattle.gsl_types.specs.declared.ty.Ty.{Ty}
use Rattle.gsl_tree.specs.Around.{Around}
use Rattle.gsl_tree.specs.Expressions.{IsExpr, IsNode}
use Rattle.gsl_tree.specs.Statements.{IsBody, IsStep}
use Rattle.gsl_tree.specs.Trees.{Along, AlongAll, Exits, Placed, Throughout, ThroughoutAll, bodies, exprs_of, form_of, in_loop, in_switch, inner_of, or_nothing, outside, parts_of, with_exits}
use Rattle.gsl_tree.specs.Weights as weights
use Rattle.gsl_tree.specs.Weights.{calls_by, calls_in, calls_of, calls_part}
use Rattle.gsl_tree.specs.declared.expr.Expr.{Expr}
use Rattle.gsl_tree.specs.declared.expr.ExprKind.{ExprKind}
use Rattle.gsl_tree.specs.declared.expr.ExprKind.TheFolds.{fold-Expr, fold-ExprKind, fold-roll-Expr, fold-roll-ExprKind, map-ExprKind}
use Rattle.gsl_tree.specs.declared.expr.ExprKind.TheOpen.{ExprKind-F}
use Rattle.gsl_tree.specs.declared.expr.ExprKind.TheViews.{out-Expr, roll-out-Expr, roll-out-ExprKind}
use Rattle.gsl_tree.specs.declared.stmt.Arm.{Arm}
use Rattle.gsl_tree.specs.declared.stmt.Stmt.{Stmt}
use Rattle.gsl_tree.specs.declared.stmt.Stmt.TheFolds.{fold-Arm, fold-Stmt, fold-roll-Arm, fold-roll-Stmt, map-Stmt}
use Rattle.gsl_tree.specs.declared.stmt.Stmt.TheOpen.{Stmt-F}
use Rattle.gsl_tree.specs.declared.stmt.Stmt.TheViews.{out-Arm, out-Stmt, roll-out-Arm, roll-out-Stmt}
use Rattle.gsl_tree.specs.declared.unit.Function.{Function}
use Rattle.gsl_link_calls.specs.Calls as link
use Rattle.gsl_link_calls.specs.declared.call.Call.{Call}
use Rattle.gsl_link_calls.specs.Calls.{calls_kind, expr_calls, function_calls, together, with_call}
use Rattle.gsl_link_calls.specs.Ranks.{IsIn}
use Rattle.gsl_link_law.proofs.Members.{In, in_behind, in_front}

abbrev flat : List (List ℕ) → List ℕ
flat lists = flat_map (λ (l : List ℕ). l) lists

-- a number of two lists is one of either
of_either : (a b : List ℕ) (n : ℕ) → IsIn (a ++ b) n → IsIn a n ⊎ IsIn b n
of_either [] b n is = inr is
of_either (x ∷ a) b n is = by (nat_eq n x) (of_either a b n) is
  where
    by : (t : Bool) → (IsIn (a ++ b) n → IsIn a n ⊎ IsIn b n) → (t || list_any (nat_eq n) (a ++ b)) ≡ true → ((t || list_any (nat_eq n) a) ≡ true) ⊎ IsIn b n
    by true later is = inl refl
    by false later is = later is

module _ (P : ℕ → Type 0) where
  -- of all calls the heads are so
  abbrev AllCalls : List Call → Type 0
  AllCalls calls = (c : Call) → In c calls → P c.head

  abbrev AllIn : List ℕ → Type 0
  AllIn l = (n : ℕ) → IsIn l n → P n

  none_in : AllIn []
  none_in n is = absurd (false≢true is)

  both_in : (a b : List ℕ) → AllIn a → AllIn b → AllIn (a ++ b)
  both_in a b first second n is = ⊎_elim (λ here. first n here) (λ there. second n there) (of_either a b n is)

  front : (a b : List Call) → AllCalls (a ++ b) → AllCalls a
  front a b all c at = all c (in_front c a b at)

  back : (a b : List Call) → AllCalls (a ++ b) → AllCalls b
  back a b all c at = all c (in_behind c a b at)

  -- ---- several items, of each of which it is known
  abbrev Tells : {A : Type 0} → (A → List Call) → (A → List ℕ) → List A → Type 0
  Tells calls heads items = AllByRecursion (λ item. AllCalls (calls item) → AllIn (heads item)) items

  together_told : {A : Type 0} (calls : A → List Call) (heads : A → List ℕ) (items : List A) → Tells calls heads items → AllCalls (together (map calls items)) → AllIn (flat (map heads items))
  together_told calls heads [] tells all = none_in
  together_told calls heads (item ∷ items) tells all =
      both_in (heads item) (flat (map heads items)) (tells.0 (front (calls item) (together (map calls items)) all)) (together_told calls heads items tells.1 (back (calls item) (together (map calls items)) all))

  flat_told : {A : Type 0} (calls : A → List Call) (heads : A → List ℕ) (items : List A) → Tells calls heads items → AllCalls (flat_map calls items) → AllIn (flat_map heads items)
  flat_told calls heads [] tells all = none_in
  flat_told calls heads (item ∷ items) tells all =
      both_in (heads item) (flat_map heads items) (tells.0 (front (calls item) (flat_map calls items) all)) (flat_told calls heads items tells.1 (back (calls item) (flat_map calls items) all))

  tells_both : {A : Type 0} (calls : A → List Call) (heads : A → List ℕ) (a b : List A) → Tells calls heads (a ++ b) → Tells calls heads a × Tells calls heads b
  tells_both calls heads [] b tells = (tt, tells)
  tells_both calls heads (x ∷ a) b tells = let rest = tells_both calls heads a b tells.1 in ((tells.0, rest.0), rest.1)

  -- ---- expressions

  abbrev heads_form : ExprKind-F ExprKind Expr → List ℕ
  heads_form form = calls_by (map-ExprKind _ _ _ _ (fold-ExprKind (List ℕ) (List ℕ) calls_by calls_part) calls_in form)

  heads_at : (e : Expr) → calls_in e ≡ heads_form (form_of e)
  heads_at e =
      ap calls_in (sym (roll-out-Expr e)) ∙ fold-roll-Expr (List ℕ) (List ℕ) calls_by calls_part (out-Expr e)
      ∙ ap (fold-ExprKind (List ℕ) (List ℕ) calls_by calls_part) (sym (roll-out-ExprKind (out-Expr e).kind)) ∙ fold-roll-ExprKind (List ℕ) (List ℕ) calls_by calls_part (form_of e)

  abbrev kind_calls : ExprKind → Option ℕ × List Call
  kind_calls = fold-ExprKind (Option ℕ × List Call) (List Call) calls_kind link.calls_part

  abbrev of_form : ExprKind-F ExprKind Expr → Option ℕ × List Call
  of_form form = calls_kind (map-ExprKind _ _ _ _ kind_calls expr_calls form)

  calls_at : (e : Expr) → expr_calls e ≡ with_call (out-Expr e).place (of_form (form_of e)).0 (of_form (form_of e)).1
  calls_at e =
      ap expr_calls (sym (roll-out-Expr e)) ∙ fold-roll-Expr (Option ℕ × List Call) (List Call) calls_kind link.calls_part (out-Expr e)
      ∙ ap (λ k. with_call (out-Expr e).place k.0 k.1) (ap kind_calls (sym (roll-out-ExprKind (out-Expr e).kind)) ∙ fold-roll-ExprKind (Option ℕ × List Call) (List Call) calls_kind link.calls_part (form_of e))

  abbrev TellsAll : List Expr → Type 0
  TellsAll es = Tells expr_calls calls_in es

  form_told : (place : Place) (form : ExprKind-F ExprKind Expr) → TellsAll (parts_of form) → AllCalls (with_call place (of_form form).0 (of_form form).1) → AllIn (heads_form form)
  form_told place (ExprKind-F.Call number args) tells all =
      both_in (flat (map calls_in args)) (number ∷ []) (together_told expr_calls calls_in args tells (λ c at. all c (inr at)))
      (λ n is. ⊎_elim (λ here. subst P (sym (eqb-true n number here)) (all (record { head = number; place = place }) (inl refl))) (λ none. absurd (false≢true none)) (or_cases (nat_eq n number) false is))
  form_told place (ExprKind-F.Const v) tells all = none_in
  form_told place (ExprKind-F.Local n) tells all = none_in
  form_told place (ExprKind-F.Global n) tells all = none_in
  form_told place (ExprKind-F.Param n) tells all = none_in
  form_told place (ExprKind-F.BlockMember b n) tells all = none_in
  form_told place (ExprKind-F.Stage var) tells all = none_in
  form_told place (ExprKind-F.Interface n) tells all = none_in
  form_told place (ExprKind-F.Member a n) tells all = together_told expr_calls calls_in (a ∷ []) tells all
  form_told place (ExprKind-F.Index a i) tells all = together_told expr_calls calls_in (a ∷ i ∷ []) tells all
  form_told place (ExprKind-F.Swizzle a lanes) tells all = together_told expr_calls calls_in (a ∷ []) tells all
  form_told place (ExprKind-F.Length a) tells all = together_told expr_calls calls_in (a ∷ []) tells all
  form_told place (ExprKind-F.Unary o a) tells all = together_told expr_calls calls_in (a ∷ []) tells all
  form_told place (ExprKind-F.Binary o a b) tells all = together_told expr_calls calls_in (a ∷ b ∷ []) tells all
  form_told place (ExprKind-F.Logic o a b) tells all = together_told expr_calls calls_in (a ∷ b ∷ []) tells all
  form_told place (ExprKind-F.Choose t a b) tells all = together_told expr_calls calls_in (t ∷ a ∷ b ∷ []) tells all
  form_told place (ExprKind-F.Assign a b) tells all = together_told expr_calls calls_in (a ∷ b ∷ []) tells all
  form_told place (ExprKind-F.Update o a b) tells all = together_told expr_calls calls_in (a ∷ b ∷ []) tells all
  form_told place (ExprKind-F.Step o a) tells all = together_told expr_calls calls_in (a ∷ []) tells all
  form_told place (ExprKind-F.Built which args) tells all = together_told expr_calls calls_in args tells all
  form_told place (ExprKind-F.Build args) tells all = together_told expr_calls calls_in args tells all
  form_told place (ExprKind-F.Convert a) tells all = together_told expr_calls calls_in (a ∷ []) tells all
  form_told place (ExprKind-F.Comma items) tells all = together_told expr_calls calls_in items tells all

  module _ (Q : Expr → Type 0) where
    mutual
      expr_told : (e : Expr) → Throughout Q e → AllCalls (expr_calls e) → AllIn (calls_in e)
      expr_told _ (Throughout.whole e is parts) all n at =
          form_told (out-Expr e).place (form_of e) (exprs_told (parts_of (form_of e)) parts) (λ c here. all c (subst (In c) (sym (calls_at e)) here)) n (subst (λ l. IsIn l n) (heads_at e) at)

      exprs_told : (es : List Expr) → ThroughoutAll Q es → TellsAll es
      exprs_told _ ThroughoutAll.none = tt
      exprs_told _ (ThroughoutAll.more e es is rest) = (expr_told e is, exprs_told es rest)

  exprs_of_told : (around : Around) (es : List Expr) → AllByRecursion (IsExpr around) es → TellsAll es
  exprs_of_told around [] all = tt
  exprs_of_told around (e ∷ es) all = (expr_told (IsNode around) e all.0, exprs_of_told around es all.1)

  -- ---- statements

  abbrev calls_arm : Arm → List Call
  calls_arm = fold-Arm (List Call) (List Call) link.stmt_calls_by link.arm_calls_by

  abbrev heads_arm : Arm → List ℕ
  heads_arm = fold-Arm (List ℕ) (List ℕ) weights.stmt_calls_by weights.arm_calls_by

  abbrev calls_form : Stmt-F Stmt Arm → List Call
  calls_form form = link.stmt_calls_by (map-Stmt _ _ _ _ link.stmt_calls calls_arm form)

  abbrev heads_stmt : Stmt-F Stmt Arm → List ℕ
  heads_stmt form = weights.stmt_calls_by (map-Stmt _ _ _ _ weights.stmt_calls heads_arm form)

  stmt_calls_at : (s : Stmt) → link.stmt_calls s ≡ calls_form (out-Stmt s)
  stmt_calls_at s = ap link.stmt_calls (sym (roll-out-Stmt s)) ∙ fold-roll-Stmt (List Call) (List Call) link.stmt_calls_by link.arm_calls_by (out-Stmt s)

  stmt_heads_at : (s : Stmt) → weights.stmt_calls s ≡ heads_stmt (out-Stmt s)
  stmt_heads_at s = ap weights.stmt_calls (sym (roll-out-Stmt s)) ∙ fold-roll-Stmt (List ℕ) (List ℕ) weights.stmt_calls_by weights.arm_calls_by (out-Stmt s)

  arm_calls_at : (arm : Arm) → calls_arm arm ≡ together (map link.stmt_calls (out-Arm arm).body)
  arm_calls_at arm = ap calls_arm (sym (roll-out-Arm arm)) ∙ fold-roll-Arm (List Call) (List Call) link.stmt_calls_by link.arm_calls_by (out-Arm arm)

  arm_heads_at : (arm : Arm) → heads_arm arm ≡ flat (map weights.stmt_calls (out-Arm arm).body)
  arm_heads_at arm = ap heads_arm (sym (roll-out-Arm arm)) ∙ fold-roll-Arm (List ℕ) (List ℕ) weights.stmt_calls_by weights.arm_calls_by (out-Arm arm)

  abbrev TellsStmts : List Stmt → Type 0
  TellsStmts ss = Tells link.stmt_calls weights.stmt_calls ss

  abbrev TellsPlaced : List Placed → Type 0
  TellsPlaced placed = AllByRecursion (λ (one : Placed). AllCalls (link.stmt_calls one.1) → AllIn (weights.stmt_calls one.1)) placed

  placed_told : (exits : Exits) (ss : List Stmt) → TellsPlaced (with_exits exits ss) → TellsStmts ss
  placed_told exits [] tells = tt
  placed_told exits (s ∷ ss) tells = (tells.0, placed_told exits ss tells.1)

  arms_told : (arms : List Arm) → TellsStmts (bodies arms) → Tells calls_arm heads_arm arms
  arms_told [] tells = tt
  arms_told (arm ∷ arms) tells =
      let both = tells_both link.stmt_calls weights.stmt_calls (out-Arm arm).body (bodies arms) tells in
      (λ all n is. together_told link.stmt_calls weights.stmt_calls (out-Arm arm).body both.0 (λ c at. all c (subst (In c) (sym (arm_calls_at arm)) at)) n (subst (λ l. IsIn l n) (arm_heads_at arm) is), arms_told arms both.1)

  -- what stands in a statement's expressions, and what within it
  both_told : (es : List Expr) (calls : List Call) (heads : List ℕ) → TellsAll es → (AllCalls calls → AllIn heads) → AllCalls (flat_map expr_calls es ++ calls) → AllIn (flat_map calls_in es ++ heads)
  both_told es calls heads tells inner all = both_in (flat_map calls_in es) heads (flat_told expr_calls calls_in es tells (front (flat_map expr_calls es) calls all)) (inner (back (flat_map expr_calls es) calls all))

  stmt_form_told : (exits : Exits) (form : Stmt-F Stmt Arm) → TellsAll (exprs_of form) → TellsPlaced (inner_of exits form) → AllCalls (calls_form form) → AllIn (heads_stmt form)
  stmt_form_told exits (Stmt-F.Group ss) tells inner = together_told link.stmt_calls weights.stmt_calls ss (placed_told exits ss inner)
  stmt_form_told exits (Stmt-F.If test first None) tells inner =
      both_told (test ∷ []) (link.stmt_calls first ++ []) (weights.stmt_calls first ++ []) tells (λ all. both_in (weights.stmt_calls first) [] (inner.0 (front (link.stmt_calls first) [] all)) none_in)
  stmt_form_told exits (Stmt-F.If test first (Some other)) tells inner =
      both_told (test ∷ []) (link.stmt_calls first ++ link.stmt_calls other) (weights.stmt_calls first ++ weights.stmt_calls other) tells
      (λ all. both_in (weights.stmt_calls first) (weights.stmt_calls other) (inner.0 (front (link.stmt_calls first) (link.stmt_calls other) all)) (inner.1.0 (back (link.stmt_calls first) (link.stmt_calls other) all)))
  stmt_form_told exits (Stmt-F.Loop test step body last) tells inner = both_told (or_nothing test ++ or_nothing step) (link.stmt_calls body) (weights.stmt_calls body) tells inner.0
  stmt_form_told exits (Stmt-F.Switch e arms) tells inner =
      both_told (e ∷ []) (together (map calls_arm arms)) (flat (map heads_arm arms)) tells (together_told calls_arm heads_arm arms (arms_told arms (placed_told (in_switch exits) (bodies arms) inner)))
  stmt_form_told exits (Stmt-F.Eval e) tells inner = both_told (e ∷ []) [] [] tells (λ all. none_in)
  stmt_form_told exits (Stmt-F.Declare number init) tells inner = both_told (or_nothing init) [] [] tells (λ all. none_in)
  stmt_form_told exits (Stmt-F.Return value) tells inner = both_told (or_nothing value) [] [] tells (λ all. none_in)
  stmt_form_told exits Stmt-F.Empty tells inner = λ all. none_in
  stmt_form_told exits Stmt-F.Break tells inner = λ all. none_in
  stmt_form_told exits Stmt-F.Continue tells inner = λ all. none_in
  stmt_form_told exits Stmt-F.Discard tells inner = λ all. none_in

  module _ (around : Around) (result : Ty) where
    mutual
      stmt_told : (exits : Exits) (s : Stmt) → Along (IsStep around result) exits s → AllCalls (link.stmt_calls s) → AllIn (weights.stmt_calls s)
      stmt_told _ _ (Along.whole exits s step inner) all n at =
          stmt_form_told exits (out-Stmt s) (exprs_of_told around (exprs_of (out-Stmt s)) step.typed) (all_told (inner_of exits (out-Stmt s)) inner) (λ c here. all c (subst (In c) (sym (stmt_calls_at s)) here)) n
          (subst (λ l. IsIn l n) (stmt_heads_at s) at)

      all_told : (placed : List Placed) → AlongAll (IsStep around result) placed → TellsPlaced placed
      all_told _ AlongAll.none = tt
      all_told _ (AlongAll.more one rest first later) = (stmt_told one.0 one.1 first, all_told rest later)

    -- of a function whose body is well typed
    pub function_told : (f : Function) → IsBody around result f.body → AllCalls (function_calls f) → AllIn (calls_of f)
    function_told f is all = flat_told link.stmt_calls weights.stmt_calls f.body (placed_told outside f.body (all_told (with_exits outside f.body) is)) all
