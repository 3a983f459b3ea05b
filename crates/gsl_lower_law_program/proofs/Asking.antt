-- What is asked of expressions, calls and all, where each function that is called may be.
use Rattle.std.proofs.Common.{◌≡◌, refl, sym, ap, ◌∙◌, subst, ℕ, Bool, true, false, ◌||◌, List, [], ◌∷◌, ◌++◌, map, Option, Some, None}
use Rattle.std.specs.Prelude.{nat_eq}
use Rattle.std.specs.List.{AllByRecursion, flat_map, list_any}
use Rattle.std.proofs.lemmas.Bool.{eq-eqb, false≢true, or_left, or_right}
use Rattle.gsl_base.specs.declared.input.Input.{Input}
use Rattle.gsl_types.specs.declared.ty.Direction.{Direction}
use Rattle.gsl_types.specs.declared.ty.Ty.{Ty}
use Rattle.gsl_words.specs.declared.module.Module.{Module}
use Rattle.gsl_values.specs.declared.value.Value.{Value}
use Rattle.gsl_tree.specs.Trees.{Along, AlongAll, Exits, Placed, Throughout, ThroughoutAll, bodies, exprs_of, form_of, in_loop, in_switch, inner_of, or_nothing, outside, parts_of, with_exits}
use Rattle.gsl_tree.specs.Weights.{arm_calls_by, calls_by, calls_in, calls_of, calls_part, stmt_calls, stmt_calls_by}
use Rattle.gsl_tree.specs.declared.expr.Expr.{Expr}
use Rattle.gsl_tree.specs.declared.expr.ExprKind.{ExprKind}
use Rattle.gsl_tree.specs.declared.expr.ExprKind.TheFolds.{fold-ExprKind, fold-roll-Expr, fold-roll-ExprKind, map-ExprKind}
use Rattle.gsl_tree.specs.declared.expr.ExprKind.TheOpen.{ExprKind-F}
use Rattle.gsl_tree.specs.declared.expr.ExprKind.TheViews.{out-Expr, roll-out-Expr, roll-out-ExprKind}
use Rattle.gsl_tree.specs.declared.program.Program.{Program}
use Rattle.gsl_tree.specs.declared.stmt.Arm.{Arm}
use Rattle.gsl_tree.specs.declared.stmt.Stmt.{Stmt}
use Rattle.gsl_tree.specs.declared.stmt.Stmt.TheFolds.{fold-Arm, fold-roll-Arm, fold-roll-Stmt, map-Stmt}
use Rattle.gsl_tree.specs.declared.stmt.Stmt.TheOpen.{Stmt-F}
use Rattle.gsl_tree.specs.declared.stmt.Stmt.TheViews.{out-Arm, out-Stmt, roll-out-Arm, roll-out-Stmt}
use Rattle.gsl_tree.specs.declared.unit.Function.{Function}
use Rattle.gsl_link_calls.specs.Ranks.{IsIn}
use Rattle.gsl_spv.specs.Sections.{Sections}
use Rattle.gsl_lower_holders.specs.declared.place.FlowPlace.{FlowPlace}
use Rattle.gsl_lower_used.specs.Lowered.{AlongAllLowered, AlongLowered, ThroughoutAllLowered, ThroughoutLowered, lowered_inner, lowered_parts, up_to_jump}
use Rattle.gsl_lower_used.proofs.Within.{body_along, inner_all, inner_along, parts_all, parts_throughout, up_to_all}
use Rattle.gsl_lower_follows.specs.Frames.{Frame}
use Rattle.gsl_lower_law_shader.specs.Depths.{AreAsked, AreAskedOf, AsksBelow, AsksBelowFor, MayCall}
use Rattle.gsl_lower_law_shader.specs.Asked.{AreAskedElseOf, AsksElse, AsksElseFor}
use Rattle.gsl_lower_law_program.proofs.Sounds.{AreKnown, IsAssigned, IsKnown, sound_in}

-- ---- numbers in lists

pub in_front : (a b : List ℕ) (n : ℕ) → IsIn a n → IsIn (a ++ b) n
in_front [] b n is = absurd (false≢true is)
in_front (x ∷ a) b n is = by (nat_eq n x) is (in_front a b n)
  where
    by : (t : Bool) → (t || list_any (nat_eq n) a) ≡ true → (IsIn a n → IsIn (a ++ b) n) → (t || list_any (nat_eq n) (a ++ b)) ≡ true
    by true is later = refl
    by false is later = later is

pub in_back : (a b : List ℕ) (n : ℕ) → IsIn b n → IsIn (a ++ b) n
in_back [] b n is = is
in_back (x ∷ a) b n is = or_right (nat_eq n x) (list_any (nat_eq n) (a ++ b)) (in_back a b n is)

-- all numbers in a list are so
abbrev AllIn : (ℕ → Type 0) → List ℕ → Type 0
AllIn P l = (n : ℕ) → IsIn l n → P n

abbrev flat : List (List ℕ) → List ℕ
flat lists = flat_map (λ (l : List ℕ). l) lists

module _ (P : ℕ → Type 0) where
  abbrev AllOf : {A : Type 0} → (A → List ℕ) → List A → Type 0
  AllOf calls items = AllByRecursion (λ item. AllIn P (calls item)) items

  each_in : {A : Type 0} (calls : A → List ℕ) (items : List A) → AllIn P (flat (map calls items)) → AllOf calls items
  each_in calls [] all = tt
  each_in calls (item ∷ items) all = (λ n is. all n (in_front (calls item) (flat (map calls items)) n is), each_in calls items (λ n is. all n (in_back (calls item) (flat (map calls items)) n is)))

  each_of : {A : Type 0} (calls : A → List ℕ) (items : List A) → AllIn P (flat_map calls items) → AllOf calls items
  each_of calls [] all = tt
  each_of calls (item ∷ items) all = (λ n is. all n (in_front (calls item) (flat_map calls items) n is), each_of calls items (λ n is. all n (in_back (calls item) (flat_map calls items) n is)))

  both_of : {A : Type 0} (calls : A → List ℕ) (a b : List A) → AllOf calls a → AllOf calls b → AllOf calls (a ++ b)
  both_of calls [] b first second = second
  both_of calls (x ∷ a) b first second = (first.0, both_of calls a b first.1 second)

  -- ---- the calls in expressions

  -- the calls in an expression, by its form
  abbrev calls_form : ExprKind-F ExprKind Expr → List ℕ
  calls_form form = calls_by (map-ExprKind _ _ _ _ (fold-ExprKind (List ℕ) (List ℕ) calls_by calls_part) calls_in form)

  calls_at : (e : Expr) → calls_in e ≡ calls_form (form_of e)
  calls_at e =
      ap calls_in (sym (roll-out-Expr e)) ∙ fold-roll-Expr (List ℕ) (List ℕ) calls_by calls_part (out-Expr e)
      ∙ ap (fold-ExprKind (List ℕ) (List ℕ) calls_by calls_part) (sym (roll-out-ExprKind (out-Expr e).kind)) ∙ fold-roll-ExprKind (List ℕ) (List ℕ) calls_by calls_part (form_of e)

  parts_in : (form : ExprKind-F ExprKind Expr) → AllIn P (calls_form form) → AllOf calls_in (parts_of form)
  parts_in (ExprKind-F.Call number args) all = each_in calls_in args (λ n is. all n (in_front (flat (map calls_in args)) (number ∷ []) n is))
  parts_in (ExprKind-F.Const v) all = tt
  parts_in (ExprKind-F.Local n) all = tt
  parts_in (ExprKind-F.Global n) all = tt
  parts_in (ExprKind-F.Param n) all = tt
  parts_in (ExprKind-F.BlockMember b n) all = tt
  parts_in (ExprKind-F.Stage var) all = tt
  parts_in (ExprKind-F.Interface n) all = tt
  parts_in (ExprKind-F.Member a n) all = each_in calls_in (a ∷ []) all
  parts_in (ExprKind-F.Index a i) all = each_in calls_in (a ∷ i ∷ []) all
  parts_in (ExprKind-F.Swizzle a lanes) all = each_in calls_in (a ∷ []) all
  parts_in (ExprKind-F.Length a) all = each_in calls_in (a ∷ []) all
  parts_in (ExprKind-F.Unary o a) all = each_in calls_in (a ∷ []) all
  parts_in (ExprKind-F.Binary o a b) all = each_in calls_in (a ∷ b ∷ []) all
  parts_in (ExprKind-F.Logic o a b) all = each_in calls_in (a ∷ b ∷ []) all
  parts_in (ExprKind-F.Choose t a b) all = each_in calls_in (t ∷ a ∷ b ∷ []) all
  parts_in (ExprKind-F.Assign a b) all = each_in calls_in (a ∷ b ∷ []) all
  parts_in (ExprKind-F.Update o a b) all = each_in calls_in (a ∷ b ∷ []) all
  parts_in (ExprKind-F.Step o a) all = each_in calls_in (a ∷ []) all
  parts_in (ExprKind-F.Built which args) all = each_in calls_in args all
  parts_in (ExprKind-F.Build args) all = each_in calls_in args all
  parts_in (ExprKind-F.Convert a) all = each_in calls_in (a ∷ []) all
  parts_in (ExprKind-F.Comma items) all = each_in calls_in items all

  -- ---- the calls in statements

  abbrev calls_arm : Arm → List ℕ
  calls_arm = fold-Arm (List ℕ) (List ℕ) stmt_calls_by arm_calls_by

  abbrev calls_stmt_form : Stmt-F Stmt Arm → List ℕ
  calls_stmt_form form = stmt_calls_by (map-Stmt _ _ _ _ stmt_calls calls_arm form)

  stmt_at : (s : Stmt) → stmt_calls s ≡ calls_stmt_form (out-Stmt s)
  stmt_at s = ap stmt_calls (sym (roll-out-Stmt s)) ∙ fold-roll-Stmt (List ℕ) (List ℕ) stmt_calls_by arm_calls_by (out-Stmt s)

  arm_at : (arm : Arm) → calls_arm arm ≡ flat (map stmt_calls (out-Arm arm).body)
  arm_at arm = ap calls_arm (sym (roll-out-Arm arm)) ∙ fold-roll-Arm (List ℕ) (List ℕ) stmt_calls_by arm_calls_by (out-Arm arm)

  abbrev InEach : List Placed → Type 0
  InEach placed = AllByRecursion (λ (one : Placed). AllIn P (stmt_calls one.1)) placed

  placed_in : (exits : Exits) (stmts : List Stmt) → AllOf stmt_calls stmts → InEach (with_exits exits stmts)
  placed_in exits [] all = tt
  placed_in exits (s ∷ stmts) all = (all.0, placed_in exits stmts all.1)

  arms_in : (arms : List Arm) → AllOf calls_arm arms → AllOf stmt_calls (bodies arms)
  arms_in [] all = tt
  arms_in (arm ∷ arms) all =
      both_of stmt_calls (out-Arm arm).body (bodies arms) (each_in stmt_calls (out-Arm arm).body (λ n is. all.0 n (subst (λ l. IsIn l n) (sym (arm_at arm)) is))) (arms_in arms all.1)

  exprs_in : (form : Stmt-F Stmt Arm) → AllIn P (calls_stmt_form form) → AllOf calls_in (exprs_of form)
  exprs_in (Stmt-F.Eval e) all = each_of calls_in (e ∷ []) (λ n is. all n (in_front (flat_map calls_in (e ∷ [])) [] n is))
  exprs_in (Stmt-F.Declare number init) all = each_of calls_in (or_nothing init) (λ n is. all n (in_front (flat_map calls_in (or_nothing init)) [] n is))
  exprs_in (Stmt-F.If test first None) all = each_of calls_in (test ∷ []) (λ n is. all n (in_front (flat_map calls_in (test ∷ [])) (stmt_calls first ++ []) n is))
  exprs_in (Stmt-F.If test first (Some other)) all = each_of calls_in (test ∷ []) (λ n is. all n (in_front (flat_map calls_in (test ∷ [])) (stmt_calls first ++ stmt_calls other) n is))
  exprs_in (Stmt-F.Loop test step body last) all = each_of calls_in (or_nothing test ++ or_nothing step) (λ n is. all n (in_front (flat_map calls_in (or_nothing test ++ or_nothing step)) (stmt_calls body) n is))
  exprs_in (Stmt-F.Switch e arms) all = each_of calls_in (e ∷ []) (λ n is. all n (in_front (flat_map calls_in (e ∷ [])) (flat (map calls_arm arms)) n is))
  exprs_in (Stmt-F.Return value) all = each_of calls_in (or_nothing value) (λ n is. all n (in_front (flat_map calls_in (or_nothing value)) [] n is))
  exprs_in (Stmt-F.Group stmts) all = tt
  exprs_in Stmt-F.Empty all = tt
  exprs_in Stmt-F.Break all = tt
  exprs_in Stmt-F.Continue all = tt
  exprs_in Stmt-F.Discard all = tt

  inner_in : (exits : Exits) (form : Stmt-F Stmt Arm) → AllIn P (calls_stmt_form form) → InEach (inner_of exits form)
  inner_in exits (Stmt-F.Group stmts) all = placed_in exits stmts (each_in stmt_calls stmts (λ n is. all n is))
  inner_in exits (Stmt-F.If test first None) all = placed_in exits (first ∷ []) (λ n is. all n (in_back (flat_map calls_in (test ∷ [])) (stmt_calls first ++ []) n (in_front (stmt_calls first) [] n is)), tt)
  inner_in exits (Stmt-F.If test first (Some other)) all =
      placed_in exits (first ∷ other ∷ []) (
        λ n is. all n (in_back (flat_map calls_in (test ∷ [])) (stmt_calls first ++ stmt_calls other) n (in_front (stmt_calls first) (stmt_calls other) n is)),
        (λ n is. all n (in_back (flat_map calls_in (test ∷ [])) (stmt_calls first ++ stmt_calls other) n (in_back (stmt_calls first) (stmt_calls other) n is)), tt),
      )
  inner_in exits (Stmt-F.Loop test step body last) all = placed_in in_loop (body ∷ []) (λ n is. all n (in_back (flat_map calls_in (or_nothing test ++ or_nothing step)) (stmt_calls body) n is), tt)
  inner_in exits (Stmt-F.Switch e arms) all =
      placed_in (in_switch exits) (bodies arms) (arms_in arms (each_in calls_arm arms (λ n is. all n (in_back (flat_map calls_in (e ∷ [])) (flat (map calls_arm arms)) n is))))
  inner_in exits (Stmt-F.Eval e) all = tt
  inner_in exits (Stmt-F.Declare number init) all = tt
  inner_in exits (Stmt-F.Return value) all = tt
  inner_in exits Stmt-F.Empty all = tt
  inner_in exits Stmt-F.Break all = tt
  inner_in exits Stmt-F.Continue all = tt
  inner_in exits Stmt-F.Discard all = tt

-- ---- what is asked

module _ (m : Module) (input : Input) (whole : Sections) (p : Program) (place : FlowPlace) (stages : List (Option Value)) (rank : ℕ → ℕ) (below depth : ℕ) (f : Frame m input whole) (params : List (Direction × Ty)) (locals : List Ty) where
  abbrev May : ℕ → Type 0
  May = MayCall m input whole p place stages rank below

  abbrev Else : Expr → Type 0
  Else = AsksElse m input whole p place stages depth f params locals

  abbrev Wanted : Expr → Type 0
  Wanted = AsksBelow m input whole p place stages rank below depth f params locals

  one_asked : (e : Expr) (form : ExprKind-F ExprKind Expr) → AllIn May (calls_form May form) → IsAssigned p form → AsksElseFor m input whole p place stages depth f params locals e form → AsksBelowFor m input whole p place stages rank below depth f params locals e form
  one_asked e (ExprKind-F.Assign a b) all assigned ask = (assigned, ask)
  one_asked e (ExprKind-F.Call number args) all assigned ask = (all number (in_back (flat (map calls_in args)) (number ∷ []) number (or_left (nat_eq number number) false (eq-eqb number number refl))), ask)
  one_asked e form all assigned ask = ask

  mutual
    asked : (e : Expr) → ThroughoutLowered p.prototypes Else e → AllIn May (calls_in e) → Throughout (IsKnown p) e → ThroughoutLowered p.prototypes Wanted e
    asked _ (ThroughoutLowered.whole e ask asks) all (Throughout.whole _ known behind) =
        let here : AllIn May (calls_form May (form_of e)) = λ n is. all n (subst (λ l. IsIn l n) (sym (calls_at May e)) is) in
        ThroughoutLowered.whole e (one_asked e (form_of e) here known.assigned ask)
        (all_asked (lowered_parts p.prototypes (form_of e)) asks (parts_all p.prototypes (λ part. AllIn May (calls_in part)) (form_of e) (parts_in May (form_of e) here)) (parts_throughout p.prototypes (IsKnown p) (form_of e) behind))

    all_asked : (es : List Expr) → ThroughoutAllLowered p.prototypes Else es → AllOf May calls_in es → ThroughoutAll (IsKnown p) es → ThroughoutAllLowered p.prototypes Wanted es
    all_asked _ ThroughoutAllLowered.none all known = ThroughoutAllLowered.none
    all_asked _ (ThroughoutAllLowered.more e es ask asks) all (ThroughoutAll.more _ _ known behind) = ThroughoutAllLowered.more e es (asked e ask all.0 known) (all_asked es asks all.1 behind)

  exprs_asked : (es : List Expr) → AllOf May calls_in es → AllByRecursion (Throughout (IsKnown p)) es → AllByRecursion (ThroughoutLowered p.prototypes Else) es → AllByRecursion (AreAsked m input whole p place stages rank below depth f params locals) es
  exprs_asked [] all known asks = tt
  exprs_asked (e ∷ es) all known asks = (record { sound = sound_in p e known.0; asks = asked e asks.0 all.0 known.0 }, exprs_asked es all.1 known.1 asks.1)

  abbrev Elsewhere : Exits → Stmt → Type 0
  Elsewhere = AreAskedElseOf m input whole p place stages depth f params locals

  abbrev Below : Exits → Stmt → Type 0
  Below = AreAskedOf m input whole p place stages rank below depth f params locals

  mutual
    along : (exits : Exits) (s : Stmt) → AlongLowered Elsewhere exits s → AllIn May (stmt_calls s) → Along (AreKnown p) exits s → AlongLowered Below exits s
    along _ _ (AlongLowered.whole exits s asks inner) all (Along.whole _ _ known within) =
        let here : AllIn May (calls_stmt_form May (out-Stmt s)) = λ n is. all n (subst (λ l. IsIn l n) (sym (stmt_at May s)) is) in
        AlongLowered.whole exits s (exprs_asked (exprs_of (out-Stmt s)) (exprs_in May (out-Stmt s) here) known asks)
        (all_along (lowered_inner exits (out-Stmt s)) inner (inner_all (λ (one : Placed). AllIn May (stmt_calls one.1)) exits (out-Stmt s) (inner_in May exits (out-Stmt s) here)) (inner_along (AreKnown p) exits (out-Stmt s) within))

    all_along : (placed : List Placed) → AlongAllLowered Elsewhere placed → InEach May placed → AlongAll (AreKnown p) placed → AlongAllLowered Below placed
    all_along _ AlongAllLowered.none all known = AlongAllLowered.none
    all_along _ (AlongAllLowered.more one rest first later) all (AlongAll.more _ _ known behind) = AlongAllLowered.more one rest (along one.0 one.1 first all.0 known) (all_along rest later all.1 behind)

  -- of a function's body
  pub body_asked : (tree : Function) → ((n : ℕ) → IsIn (calls_of tree) n → May n) → AlongAll (AreKnown p) (with_exits outside tree.body) → AlongAllLowered Elsewhere (with_exits outside (up_to_jump tree.body)) → AlongAllLowered Below (with_exits outside (up_to_jump tree.body))
  body_asked tree all known asks =
      all_along (with_exits outside (up_to_jump tree.body)) asks (up_to_all (λ (one : Placed). AllIn May (stmt_calls one.1)) outside tree.body (placed_in May outside tree.body (each_of May stmt_calls tree.body all))) (body_along (AreKnown p) outside tree.body known)
