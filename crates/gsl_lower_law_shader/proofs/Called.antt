-- What is asked of the expressions in a body, where the functions that it may call do what they mean.
use Rattle.std.proofs.Common.{◌≡◌, refl, ℕ, ◌<◌, List, [], ◌∷◌, Option}
use Rattle.std.specs.List.{AllByRecursion}
use Rattle.gsl_base.specs.declared.input.Input.{Input}
use Rattle.gsl_types.specs.declared.ty.Direction.{Direction}
use Rattle.gsl_types.specs.declared.ty.Ty.{Ty}
use Rattle.gsl_words.specs.declared.module.Module.{Module}
use Rattle.gsl_values.specs.declared.value.Value.{Value}
use Rattle.gsl_tree.specs.Around.{Around}
use Rattle.gsl_tree.specs.Expressions.{IsExpr, IsNode}
use Rattle.gsl_tree.specs.Statements.{IsBody, IsStep}
use Rattle.gsl_tree.specs.Trees.{Along, AlongAll, Exits, Placed, exprs_of, form_of, outside, with_exits}
use Rattle.gsl_tree.specs.WellTyped.{around_body, program_lists}
use Rattle.gsl_tree.specs.declared.expr.Expr.{Expr}
use Rattle.gsl_tree.specs.declared.expr.ExprKind.{ExprKind}
use Rattle.gsl_tree.specs.declared.expr.ExprKind.TheOpen.{ExprKind-F}
use Rattle.gsl_tree.specs.declared.program.Program.{Program}
use Rattle.gsl_tree.specs.declared.stmt.Stmt.{Stmt, out-Stmt}
use Rattle.gsl_meaning.specs.Shader.{calls}
use Rattle.gsl_spv.specs.Sections.{Sections}
use Rattle.gsl_lower_holders.specs.declared.place.FlowPlace.{FlowPlace}
use Rattle.gsl_lower_used.specs.Lowered.{AlongAllLowered, AlongLowered, lowered_inner, lowered_parts, up_to_jump}
use Rattle.gsl_lower_used.proofs.Within.{body_along, inner_along}
use Rattle.gsl_lower_follows.specs.Frames.{Frame}
use Rattle.gsl_lower_law_entered.specs.Modules.{IsFrame}
use Rattle.gsl_lower_law_evaluated.specs.Evaluating.{Asks, AsksFor, IsReadWhole, IsTyped}
use Rattle.gsl_lower_law_evaluated.proofs.Unread.{asked_throughout, given_asks}
use Rattle.gsl_lower_law_shader.specs.Typed.{AsksOf, AsksThroughout, KnowsTypes}
use Rattle.gsl_lower_law_shader.specs.Depths.{AreAsked, AreAskedOf, AsksBelow, AsksBelowFor, CallsDo, call_of, globals_of, stage_of}
use Rattle.gsl_lower_law_shader.proofs.Arguments.{call_evaluates}

module _ (m : Module) (input : Input) (whole : Sections) (p : Program) (place : FlowPlace) (stages : List (Option Value)) (rank : ℕ → ℕ) (below depth : ℕ) (lower : (other : ℕ) → rank other < below → CallsDo m input whole p place stages depth other)
    (f : Frame m input whole) (of_module : IsFrame m input whole place stages f) (params : List (Direction × Ty)) (locals : List Ty) (types : IsTyped p params locals) (knows : KnowsTypes m input whole f p) where
  abbrev around : Around
  around = around_body (program_lists p) params locals

  abbrev Wanted : Expr → Type 0
  Wanted = Asks m input whole f p params locals (call_of p) (stage_of p input) (calls p input depth)

  abbrev Given : Expr → Type 0
  Given = AsksBelow m input whole p place stages rank below depth f params locals

  abbrev Read : Expr → Type 0
  Read = IsReadWhole m input whole f p params locals (call_of p) (stage_of p input) (calls p input depth)

  one_asked : (e : Expr) (form : ExprKind-F ExprKind Expr) → form_of e ≡ form → IsNode around e → AsksBelowFor m input whole p place stages rank below depth f params locals e form → AllByRecursion Read (lowered_parts p.prototypes form)
      → AsksFor m input whole f p params locals (call_of p) (stage_of p input) (calls p input depth) e form
  one_asked e (ExprKind-F.Call number args) is node may reads = λ xs.
      call_evaluates m input whole f p params locals (stage_of p input) (calls p input depth) types knows place stages (globals_of p) e number may.0.function args is node of_module (record { globals = refl; interfaces = refl }) may.0.known may.1 reads
      (λ head named. lower number may.0.less head may.0.function named may.0.known) xs
  one_asked e form is node asks reads = given_asks m input whole f p params locals (call_of p) (stage_of p input) (calls p input depth) types knows.vectors (knows.wholes params locals) e form asks reads

  exprs_asked : (es : List Expr) → AllByRecursion (IsExpr around) es → AllByRecursion (AreAsked m input whole p place stages rank below depth f params locals) es
      → AllByRecursion (AsksThroughout m input whole f p params locals (call_of p) (stage_of p input) (calls p input depth)) es
  exprs_asked [] are asks = tt
  exprs_asked (e ∷ es) are asks =
      let all = asked_throughout m input whole f p params locals (call_of p) (stage_of p input) (calls p input depth) types knows.vectors (knows.wholes params locals) Given (λ e node ask reads. one_asked e (form_of e) refl node ask reads) e are.0 asks.0.sound asks.0.asks in
      (record { sound = asks.0.sound; read = all.1; asks = all.0 }, exprs_asked es are.1 asks.1)

  module _ (result : Ty) where
    abbrev Wants : Exits → Stmt → Type 0
    Wants = AsksOf m input whole f p params locals (call_of p) (stage_of p input) (calls p input depth)

    abbrev Gives : Exits → Stmt → Type 0
    Gives = AreAskedOf m input whole p place stages rank below depth f params locals

    mutual
      along : (exits : Exits) (s : Stmt) → AlongLowered Gives exits s → Along (IsStep around result) exits s → AlongLowered Wants exits s
      along _ _ (AlongLowered.whole exits s asks others) (Along.whole _ _ step inner) =
          AlongLowered.whole exits s (exprs_asked (exprs_of (out-Stmt s)) step.typed asks) (all_along (lowered_inner exits (out-Stmt s)) others (inner_along (IsStep around result) exits (out-Stmt s) inner))

      all_along : (placed : List Placed) → AlongAllLowered Gives placed → AlongAll (IsStep around result) placed → AlongAllLowered Wants placed
      all_along _ AlongAllLowered.none steps = AlongAllLowered.none
      all_along _ (AlongAllLowered.more one rest ask asks) (AlongAll.more _ _ first later) = AlongAllLowered.more one rest (along one.0 one.1 ask first) (all_along rest asks later)

    pub body_asked : (ss : List Stmt) → IsBody around result ss → AlongAllLowered Gives (with_exits outside (up_to_jump ss)) → AlongAllLowered Wants (with_exits outside (up_to_jump ss))
    body_asked ss is asks = all_along (with_exits outside (up_to_jump ss)) asks (body_along (IsStep around result) outside ss is)
