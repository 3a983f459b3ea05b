-- Whole expressions where nothing is asked of what they read whole.
use Rattle.std.proofs.Common.{ℕ, List, length}
use Rattle.std.specs.List.{AllByRecursion}
use Rattle.gsl_base.specs.declared.input.Input.{Input}
use Rattle.gsl_types.specs.Known.{IsSound}
use Rattle.gsl_types.specs.declared.ty.Direction.{Direction}
use Rattle.gsl_types.specs.declared.ty.Ty.{Ty}
use Rattle.gsl_words.specs.declared.module.Module.{Module}
use Rattle.gsl_values.specs.declared.value.Value.{Value}
use Rattle.gsl_tree.specs.Around.{Around}
use Rattle.gsl_tree.specs.Expressions.{IsExpr, IsNode}
use Rattle.gsl_tree.specs.Trees.{Throughout, ThroughoutAll, form_of, type_of}
use Rattle.gsl_tree.specs.WellTyped.{around_body, program_lists}
use Rattle.gsl_tree.specs.declared.expr.Expr.{Expr}
use Rattle.gsl_tree.specs.declared.expr.ExprKind.{ExprKind}
use Rattle.gsl_tree.specs.declared.expr.ExprKind.TheOpen.{ExprKind-F}
use Rattle.gsl_tree.specs.declared.expr.StageVar.{StageVar}
use Rattle.gsl_tree.specs.declared.program.Program.{Program}
use Rattle.gsl_meaning.specs.Expressions.{Calls}
use Rattle.gsl_spv.specs.Sections.{Sections}
use Rattle.gsl_typed_places.proofs.Indexed.{blocked_plain}
use Rattle.gsl_lower_holders.specs.Flow.{Emit}
use Rattle.gsl_lower_expr.specs.Parts.{Lower}
use Rattle.gsl_lower_follows.specs.Frames.{Frame}
use Rattle.gsl_lower_used.specs.Lowered.{ThroughoutAllLowered, ThroughoutLowered, lowered_parts}
use Rattle.gsl_lower_used.proofs.Within.{parts_throughout}
use Rattle.gsl_lower_law_evaluated.specs.Beside.{AsksBeside, AsksBesideFor, KnowsWholes}
use Rattle.gsl_lower_law_evaluated.specs.Evaluating.{Asks, AsksFor, IsEvaluated, IsReadWhole, IsTyped, NoVectors}
use Rattle.gsl_lower_law_evaluated.proofs.Gathered.{read_whole}
use Rattle.gsl_lower_law_evaluated.proofs.Whole.{expr_evaluates}

top : {P : Expr → Type 0} {e : Expr} → Throughout P e → P e
top (Throughout.whole e is parts) = is

module _ (m : Module) (input : Input) (whole : Sections) (f : Frame m input whole) (p : Program) (params : List (Direction × Ty)) (locals : List Ty) (call : ℕ → List Lower → Ty → Emit ℕ) (stage : StageVar → Value) (calls : Calls) (types : IsTyped p params locals) (vectors : NoVectors m input whole f) (knows : KnowsWholes m input whole f p params locals) where
  abbrev around : Around
  around = around_body (program_lists p) params locals

  abbrev Sound : Expr → Type 0
  Sound e = IsSound (length p.structs) (type_of e)

  abbrev Asked : Expr → Type 0
  Asked = Asks m input whole f p params locals call stage calls

  abbrev Beside : Expr → Type 0
  Beside = AsksBeside m input whole f p params locals call stage calls

  abbrev Read : Expr → Type 0
  Read = IsReadWhole m input whole f p params locals call stage calls

  pub given_asks : (e : Expr) (form : ExprKind-F ExprKind Expr) → AsksBesideFor m input whole f p params locals call stage calls e form → AllByRecursion Read (lowered_parts p.prototypes form) → AsksFor m input whole f p params locals call stage calls e form
  given_asks e (ExprKind-F.Binary op a b) ask reads = reads
  given_asks e (ExprKind-F.Choose test a b) ask reads = (reads.1, ask)
  given_asks e (ExprKind-F.Assign a b) ask reads = (ask.0, ask.1, reads.1.0)
  given_asks e (ExprKind-F.Build args) ask reads = reads
  given_asks e (ExprKind-F.Comma items) ask reads = reads
  given_asks e _ ask reads = ask

  evaluates : (e : Expr) → IsExpr around e → Throughout Sound e → ThroughoutLowered p.prototypes Asked e → IsEvaluated m input whole f p params locals call stage calls e
  evaluates e is sound asks = expr_evaluates m input whole f p params locals call stage calls e types vectors is sound asks

  reads : (e : Expr) → IsExpr around e → Throughout Sound e → ThroughoutLowered p.prototypes Asked e → Read e
  reads e is sound asks in_one none counted =
      let plain = blocked_plain (program_lists p) params locals types.program types.of_params types.of_locals e is in_one counted in
      read_whole m input whole f p params locals call stage calls types vectors knows.valid knows.written knows.shaped e (top {P = Sound} sound)
      (λ shapeless fixed. record { plain = plain; zeros_are = knows.zeros_are (type_of e) shapeless (top {P = Sound} sound) plain })
      (evaluates e is sound asks) in_one none counted

  -- whatever is known of expressions that gives what is asked of each, where what it reads gives its value
  module _ (Given : Expr → Type 0) (give : (e : Expr) → IsNode around e → Given e → AllByRecursion Read (lowered_parts p.prototypes (form_of e)) → Asked e) where
    mutual
      asked : (e : Expr) → ThroughoutLowered p.prototypes Given e → Throughout (IsNode around) e → Throughout Sound e → ThroughoutLowered p.prototypes Asked e
      asked _ (ThroughoutLowered.whole e ask asks) (Throughout.whole _ node parts) (Throughout.whole _ sound sounds) =
          let later = all_asked (lowered_parts p.prototypes (form_of e)) asks (parts_throughout p.prototypes (IsNode around) (form_of e) parts) (parts_throughout p.prototypes Sound (form_of e) sounds) in
          ThroughoutLowered.whole e (give e node ask later.1) later.0

      all_asked : (es : List Expr) → ThroughoutAllLowered p.prototypes Given es → ThroughoutAll (IsNode around) es → ThroughoutAll Sound es → ThroughoutAllLowered p.prototypes Asked es × AllByRecursion Read es
      all_asked _ ThroughoutAllLowered.none nodes sounds = (ThroughoutAllLowered.none, tt)
      all_asked _ (ThroughoutAllLowered.more e es ask asks) (ThroughoutAll.more _ _ is rest) (ThroughoutAll.more _ _ sound sounds) =
          let one = asked e ask is sound in
          let later = all_asked es asks rest sounds in
          (ThroughoutAllLowered.more e es one later.0, (reads e is sound one, later.1))

    -- then all is asked in it that has to be, and what it reads whole gives its value
    pub asked_throughout : (e : Expr) → IsExpr around e → Throughout Sound e → ThroughoutLowered p.prototypes Given e → ThroughoutLowered p.prototypes Asked e × Read e
    asked_throughout e is sound asks = let all = asked e asks is sound in (all, reads e is sound all)

  pub unread_evaluates : (e : Expr) → IsExpr around e → Throughout Sound e → ThroughoutLowered p.prototypes Beside e → IsEvaluated m input whole f p params locals call stage calls e × Read e
  unread_evaluates e is sound asks =
      let all = asked_throughout Beside (λ e node ask reads. given_asks e (form_of e) ask reads) e is sound asks in
      (evaluates e is sound all.0, all.1)
