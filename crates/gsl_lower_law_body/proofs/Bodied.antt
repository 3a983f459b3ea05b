-- Whole statements, kind by kind, and the statements in them.
use Rattle.std.proofs.Common.{◌≡◌, refl, sym, ap, ◌∙◌, subst, Bool, true, false, List, [], ◌∷◌, ◌++◌, if◌then◌else◌, map, Option, Some, None}
use Rattle.gsl_base.specs.declared.input.Input.{Input}
use Rattle.gsl_types.specs.declared.ty.Ty.{Ty}
use Rattle.gsl_words.specs.declared.module.Module.{Module}
use Rattle.gsl_tree.specs.Around.{Around}
use Rattle.gsl_tree.specs.Trees.{Exits, Placed, body_of, in_switch, with_exits}
use Rattle.gsl_tree.specs.declared.expr.Expr.{Expr}
use Rattle.gsl_tree.specs.declared.program.Program.{Program}
use Rattle.gsl_tree.specs.declared.stmt.Arm.{Arm, out-Arm}
use Rattle.gsl_tree.specs.declared.stmt.Stmt.{Stmt, out-Stmt}
use Rattle.gsl_tree.specs.declared.stmt.Stmt.TheFolds.{fold-roll-Arm, fold-roll-Stmt, map-Stmt}
use Rattle.gsl_tree.specs.declared.stmt.Stmt.TheOpen.{Stmt-F}
use Rattle.gsl_tree.specs.declared.stmt.Stmt.TheViews.{roll-out-Arm, roll-out-Stmt}
use Rattle.gsl_meaning.specs.Expressions as meaning
use Rattle.gsl_meaning.specs.Expressions.{evaluating}
use Rattle.gsl_meaning.specs.Running.{Run}
use Rattle.gsl_meaning.specs.Statements as statement
use Rattle.gsl_meaning.specs.Statements.{arm_runs, runs, runs_all, then_if_normal}
use Rattle.gsl_meaning.specs.Running as shader_run
use Rattle.gsl_spv.specs.Sections.{Sections}
use Rattle.gsl_lower_expr.specs.Lowering as lowering
use Rattle.gsl_lower_holders.specs.Flow.{◌>>=◌, given, lacking}
use Rattle.gsl_lower_needs.specs.Bodies.{any_leaves, leaves}
use Rattle.gsl_lower_stmt.specs.Lowering.{arm_by, lowers_arm, lowers_stmt, stmt_by, value_if_any, value_of}
use Rattle.gsl_lower_stmt.specs.Parts.{LowerArm, LowerStmt, in_turn, looped, returned, unless}
use Rattle.gsl_lower_used.specs.Lowered.{AlongAllLowered, AlongLowered, lowered_bodies, lowered_inner, up_to_jump}
use Rattle.gsl_lower_follows.specs.Frames.{Frame}
use Rattle.gsl_lower_law_stmt.specs.Doing.{DoesStatement}
use Rattle.gsl_lower_law_stmt.proofs.Declared.{declared_does}
use Rattle.gsl_lower_law_stmt.proofs.Exits.{break_does, continue_does, eval_does, return_does, return_nothing_does}
use Rattle.gsl_lower_law_stmt.proofs.Rows.{nothing_does, one_then}
use Rattle.gsl_lower_law_stmt.proofs.Ways.{if_does}
use Rattle.gsl_lower_law_loops.proofs.Looped.{loop_does}
use Rattle.gsl_lower_law_switch.specs.Choosing.{AreArms, IsArm}
use Rattle.gsl_lower_law_switch.proofs.Switched.{switch_does}
use Rattle.gsl_lower_law_discard.proofs.Discarded.{discard_does}
use Rattle.gsl_lower_law_body.specs.Asking.{Asks, AsksAt, Computes, Gives, IfAny, Returns}
use Rattle.gsl_lower_law_body.proofs.Leaving.{leaves_is}

module _ (m : Module) (input : Input) (sections : Sections) (f : Frame m input sections) (p : Program) (around : Around) (lower : lowering.Setting) (means : meaning.Setting) (locals : List Ty) where
  abbrev Does : LowerStmt → Run statement.Flow → Type 0
  Does s run = DoesStatement m input sections f p around s.leaves s.run run

  -- a statement as it is lowered, and as it is meant
  abbrev low : Stmt → LowerStmt
  low = lowers_stmt lower locals

  abbrev low_arm : Arm → LowerArm
  low_arm = lowers_arm lower locals

  abbrev run : Stmt → Run statement.Flow
  run = runs means locals

  abbrev run_arm : Arm → statement.Arm
  run_arm = arm_runs means locals

  -- ---- parts

  abbrev AllDo : List Placed → Type 0
  AllDo [] = Unit {0}
  AllDo (placed ∷ rest) = Does (low placed.1) (run placed.1) × AllDo rest

  first_do : (exits : Exits) (ss more : List Stmt) → AllDo (with_exits exits (ss ++ more)) → AllDo (with_exits exits ss)
  first_do exits [] more all = tt
  first_do exits (s ∷ ss) more all = (all.0, first_do exits ss more all.1)

  rest_do : (exits : Exits) (ss more : List Stmt) → AllDo (with_exits exits (ss ++ more)) → AllDo (with_exits exits more)
  rest_do exits [] more all = all
  rest_do exits (s ∷ ss) more all = rest_do exits ss more all.1

  abbrev any : List Stmt → Bool
  any ss = any_leaves (map (λ (s : LowerStmt). s.leaves) (map low ss))

  abbrev RowDoes : List Stmt → Type 0
  RowDoes ss = DoesStatement m input sections f p around (any ss) (in_turn (map low ss)) (statement.in_turn (map run ss))

  -- whatever stands behind a jump, no code for it is asked for
  dropped : (leaves : Bool) (x : Run statement.Flow) → DoesStatement m input sections f p around leaves (λ exits. lacking) x
  dropped leaves x = record { adds = λ exits b. tt; does = λ exits b s units state good. tt }

  abbrev joined : Stmt → List Stmt → Run statement.Flow
  joined s ss = shader_run.◌>>=◌ (run s) (then_if_normal (statement.in_turn (map run ss)))

  one_more : (exits : Exits) (s : Stmt) (ss : List Stmt) (left : Bool) → (low s).leaves ≡ left → Does (low s) (run s) → AllDo (with_exits exits (if left then [] else up_to_jump ss)) → (AllDo (with_exits exits (up_to_jump ss)) → RowDoes ss) → RowDoes (s ∷ ss)
  unfolding in_turn
  one_more exits s ss true is does all more =
      subst (λ left. DoesStatement m input sections f p around (any (s ∷ ss)) (λ to. (low s).run to >>= (λ done. unless left (in_turn (map low ss) to))) (joined s ss)) (sym is)
      (subst (λ left. DoesStatement m input sections f p around (any (s ∷ ss)) (λ to. (low s).run to >>= (λ done. unless left lacking)) (joined s ss)) is
      (one_then m input sections f p around (low s) (λ to. lacking) (any ss) (run s) (statement.in_turn (map run ss)) does (dropped (any ss) (statement.in_turn (map run ss))) (any (s ∷ ss)) refl))
  one_more exits s ss false is does all more = one_then m input sections f p around (low s) (in_turn (map low ss)) (any ss) (run s) (statement.in_turn (map run ss)) does (more all) (any (s ∷ ss)) refl

  -- statements one behind the other, of which those do that are lowered
  row_does : (exits : Exits) (ss : List Stmt) → AllDo (with_exits exits (up_to_jump ss)) → RowDoes ss
  unfolding in_turn
  row_does exits [] all = nothing_does m input sections f p around
  row_does exits (s ∷ ss) all = one_more exits s ss (leaves s) (leaves_is lower locals s) all.0 all.1 (λ rest. row_does exits ss rest)

  -- ---- arms

  low_arm_is : (arm : Arm) → low_arm arm ≡ arm_by (record { labels = (out-Arm arm).labels; is_default = (out-Arm arm).is_default; body = map low (out-Arm arm).body })
  unfolding lowers_arm lowers_stmt
  low_arm_is arm = ap low_arm (sym (roll-out-Arm arm)) ∙ fold-roll-Arm LowerStmt LowerArm (stmt_by lower locals) arm_by (out-Arm arm)

  run_arm_is : (arm : Arm) → run_arm arm ≡ statement.arm_by (record { labels = (out-Arm arm).labels; is_default = (out-Arm arm).is_default; body = map run (out-Arm arm).body })
  unfolding arm_runs runs
  run_arm_is arm = ap run_arm (sym (roll-out-Arm arm)) ∙ fold-roll-Arm (Run statement.Flow) statement.Arm (statement.runs_by means locals) statement.arm_by (out-Arm arm)

  arm_is : (arm : Arm) → RowDoes (body_of arm) → IsArm m input sections f p around (low_arm arm) (run_arm arm)
  arm_is arm does =
      subst (λ (a : LowerArm). IsArm m input sections f p around a (run_arm arm)) (sym (low_arm_is arm))
      (subst (λ (b : statement.Arm). IsArm m input sections f p around (arm_by (record { labels = (out-Arm arm).labels; is_default = (out-Arm arm).is_default; body = map low (out-Arm arm).body })) b) (sym (run_arm_is arm))
      (record { labels = refl; is_default = refl; does = does }))

  arms_are : (exits : Exits) (arms : List Arm) → AllDo (with_exits exits (lowered_bodies arms)) → AreArms m input sections f p around (map low_arm arms) (map run_arm arms)
  arms_are exits [] all = tt
  arms_are exits (arm ∷ arms) all = (arm_is arm (row_does exits (body_of arm) (first_do exits (up_to_jump (body_of arm)) (lowered_bodies arms) all)), arms_are exits arms (rest_do exits (up_to_jump (body_of arm)) (lowered_bodies arms) all))

  -- ---- loops

  loop_by : (body : LowerStmt) (x : Run statement.Flow) → Does body x → (test step : Option Expr) → IfAny m input sections f p around lower means locals (Gives m input sections f p around lower means locals) test
      → IfAny m input sections f p around lower means locals (Computes m input sections f p around lower means locals) step → (last : Bool)
      → DoesStatement m input sections f p around false (λ exits. looped last (value_if_any lower test) (value_if_any lower step) body) (statement.looping last (statement.testing means test) (statement.stepping_on means step) x)
  loop_by body x does None None test step last = loop_does m input sections f p around body x does None None tt None None tt last
  loop_by body x does None (Some e) test step last = loop_does m input sections f p around body x does (Some (value_of lower e)) (Some (evaluating means e)) step None None tt last
  loop_by body x does (Some t) None test step last = loop_does m input sections f p around body x does None None tt (Some (value_of lower t)) (Some (evaluating means t)) test last
  loop_by body x does (Some t) (Some e) test step last = loop_does m input sections f p around body x does (Some (value_of lower e)) (Some (evaluating means e)) step (Some (value_of lower t)) (Some (evaluating means t)) test last

  return_by : (e : Option Expr) → Returns m input sections f p around lower means locals e → DoesStatement m input sections f p around true (λ exits. returned (value_if_any lower e)) (statement.returning_with means e)
  return_by None is = return_nothing_does m input sections f p around is
  return_by (Some e) is = return_does m input sections f p around is.splits f.result (value_of lower e) (evaluating means e) is.gives is.real refl

  -- ---- every kind of statement

  abbrev lowered : Stmt-F Stmt Arm → LowerStmt
  lowered form = stmt_by lower locals (map-Stmt Stmt Arm LowerStmt LowerArm low low_arm form)

  abbrev meant : Stmt-F Stmt Arm → Run statement.Flow
  meant form = statement.runs_by means locals (map-Stmt Stmt Arm (Run statement.Flow) statement.Arm run run_arm form)

  by_layer : (exits : Exits) (form : Stmt-F Stmt Arm) → Asks m input sections f p around lower means locals form → AllDo (lowered_inner exits form) → Does (lowered form) (meant form)
  by_layer exits Stmt-F.Empty asks all = nothing_does m input sections f p around
  by_layer exits (Stmt-F.Eval e) asks all = eval_does m input sections f p around asks.splits asks.ty (value_of lower e) (evaluating means e) asks.gives
  by_layer exits (Stmt-F.Declare number init) asks all = declared_does m input sections f p around number asks.ty asks.named asks.splits _ _ asks.gives
  by_layer exits (Stmt-F.Group ss) asks all = row_does exits ss all
  by_layer exits (Stmt-F.If test first None) asks all =
      if_does m input sections f p around (low first).leaves false (low first).run (λ exits. given tt) (run first) (shader_run.given statement.Normal) all.0 (nothing_does m input sections f p around) asks.splits asks.ty (value_of lower test) (evaluating means test) asks.real asks.gives
  by_layer exits (Stmt-F.If test first (Some other)) asks all =
      if_does m input sections f p around (low first).leaves (low other).leaves (low first).run (low other).run (run first) (run other) all.0 all.1.0 asks.splits asks.ty (value_of lower test) (evaluating means test) asks.real asks.gives
  by_layer exits (Stmt-F.Loop test step body last) asks all = loop_by (low body) (run body) all.0 test step asks.0 asks.1 last
  by_layer exits (Stmt-F.Switch e arms) asks all = switch_does m input sections f p around (map low_arm arms) (map run_arm arms) (arms_are (in_switch exits) arms all) asks.splits asks.ty (value_of lower e) (evaluating means e) asks.real asks.gives
  by_layer exits Stmt-F.Break asks all = break_does m input sections f p around
  by_layer exits Stmt-F.Continue asks all = continue_does m input sections f p around
  by_layer exits (Stmt-F.Return e) asks all = return_by e asks
  by_layer exits Stmt-F.Discard asks all = discard_does m input sections f p around

  low_is : (s : Stmt) → low s ≡ lowered (out-Stmt s)
  unfolding lowers_stmt lowers_arm
  low_is s = ap low (sym (roll-out-Stmt s)) ∙ fold-roll-Stmt LowerStmt LowerArm (stmt_by lower locals) arm_by (out-Stmt s)

  run_is : (s : Stmt) → run s ≡ meant (out-Stmt s)
  unfolding runs arm_runs
  run_is s = ap run (sym (roll-out-Stmt s)) ∙ fold-roll-Stmt (Run statement.Flow) statement.Arm (statement.runs_by means locals) statement.arm_by (out-Stmt s)

  one_does : (exits : Exits) (s : Stmt) → Asks m input sections f p around lower means locals (out-Stmt s) → AllDo (lowered_inner exits (out-Stmt s)) → Does (low s) (run s)
  one_does exits s asks all = subst (λ (l : LowerStmt). Does l (run s)) (sym (low_is s)) (subst (λ (r : Run statement.Flow). Does (lowered (out-Stmt s)) r) (sym (run_is s)) (by_layer exits (out-Stmt s) asks all))

  mutual
    pub statement_does : (exits : Exits) (s : Stmt) → AlongLowered (AsksAt m input sections f p around lower means locals) exits s → Does (low s) (run s)
    statement_does _ _ (AlongLowered.whole exits s asks inner) = one_does exits s asks (all_of (lowered_inner exits (out-Stmt s)) inner)

    all_of : (placed : List Placed) → AlongAllLowered (AsksAt m input sections f p around lower means locals) placed → AllDo placed
    all_of _ AlongAllLowered.none = tt
    all_of _ (AlongAllLowered.more one rest first later) = (statement_does one.0 one.1 first, all_of rest later)

  rows_are : (ss : List Stmt) → statement.in_turn (map run ss) ≡ runs_all means locals ss
  rows_are [] = refl
  rows_are (s ∷ ss) = ap (λ r. shader_run.◌>>=◌ (run s) (then_if_normal r)) (rows_are ss)

  pub body_does : (exits : Exits) (ss : List Stmt) → AlongAllLowered (AsksAt m input sections f p around lower means locals) (with_exits exits (up_to_jump ss))
      → DoesStatement m input sections f p around (any_leaves (map (λ (s : LowerStmt). s.leaves) (map low ss))) (in_turn (map low ss)) (runs_all means locals ss)
  body_does exits ss along = subst (DoesStatement m input sections f p around (any_leaves (map (λ (s : LowerStmt). s.leaves) (map low ss))) (in_turn (map low ss))) (rows_are ss) (row_does exits ss (all_of (with_exits exits (up_to_jump ss)) along))
