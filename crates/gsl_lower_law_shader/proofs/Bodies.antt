-- Well typed statements: what is asked of the expressions in them is so.
use Rattle.std.proofs.Common.{◌≡◌, ◌≢◌, sym, ap, ◌∙◌, subst, ℕ, zero, suc, Bool, true, false, List, [], ◌∷◌, ◌++◌, map, slice_get, Option, Some, None}
use Rattle.std.specs.Prelude.{slice_index_or}
use Rattle.std.specs.List.{AllByRecursion}
use Rattle.gsl_base.specs.declared.input.Input.{Input}
use Rattle.gsl_types.specs.declared.ty.Direction.{Direction}
use Rattle.gsl_types.specs.declared.ty.Scalar.TheVariants.{Bool as Boolean}
use Rattle.gsl_types.specs.declared.ty.Ty.{Ty}
use Rattle.gsl_types.specs.declared.ty.Ty.TheVariants.{Void}
use Rattle.gsl_types.specs.declared.ty.Ty.TheViews.{out-Ty}
use Rattle.gsl_words.specs.declared.module.Module.{Module}
use Rattle.gsl_values.specs.declared.value.Value.{Value}
use Rattle.gsl_tree.specs.Around.{Around}
use Rattle.gsl_tree.specs.Expressions.{IsExpr, IsIndex, MayBeRead, boolean, is_runtime_layer}
use Rattle.gsl_tree.specs.Shapes.{shape_of}
use Rattle.gsl_tree.specs.Statements.{IsBody, IsLoop, IsStep as IsTypedStep, MayStand, Returns as MayReturn}
use Rattle.gsl_tree.specs.Trees.{Along, AlongAll, Exits, Placed, exprs_of, or_nothing, outside, type_of, with_exits}
use Rattle.gsl_tree.specs.Values.{zero_value}
use Rattle.gsl_tree.specs.WellTyped.{IsVariableType, around_body, program_lists}
use Rattle.gsl_tree.specs.declared.expr.Expr.{Expr}
use Rattle.gsl_tree.specs.declared.expr.StageVar.{StageVar}
use Rattle.gsl_tree.specs.declared.program.Program.{Program}
use Rattle.gsl_tree.specs.declared.stmt.Arm.{Arm}
use Rattle.gsl_tree.specs.declared.stmt.Stmt.{Stmt, out-Stmt}
use Rattle.gsl_tree.specs.declared.stmt.Stmt.TheOpen.{Stmt-F}
use Rattle.gsl_typed_law.proofs.Zeros.{declared_plain, zero_typed}
use Rattle.gsl_meaning.specs.Expressions as meaning
use Rattle.gsl_meaning.specs.Expressions.{Calls, evaluating}
use Rattle.gsl_meaning.specs.Running as shader_run
use Rattle.gsl_meaning.specs.Statements.{runs_all}
use Rattle.gsl_spv.specs.Sections.{Sections}
use Rattle.gsl_lower_holders.specs.Flow.{Emit}
use Rattle.gsl_lower_expr.specs.Calls.{zeros}
use Rattle.gsl_lower_expr.specs.Lowering as lowering
use Rattle.gsl_lower_expr.specs.Parts.{Lower}
use Rattle.gsl_lower_needs.specs.Bodies.{any_leaves}
use Rattle.gsl_lower_stmt.specs.Lowering.{initial, lowers_stmt, value_of}
use Rattle.gsl_lower_stmt.specs.Parts.{LowerStmt, in_turn}
use Rattle.gsl_lower_used.specs.Lowered.{AlongAllLowered, AlongLowered, lowered_inner, up_to_jump}
use Rattle.gsl_lower_used.proofs.Within.{body_along, inner_along}
use Rattle.gsl_lower_follows.specs.Frames as name
use Rattle.gsl_lower_follows.specs.Frames.{Frame}
use Rattle.gsl_lower_follows.specs.Giving.{GivesValue}
use Rattle.gsl_lower_law_names.specs.Named.{IsNamed}
use Rattle.gsl_lower_law_stmt.specs.Doing.{DoesStatement}
use Rattle.gsl_lower_law_body.specs.Asking as asking
use Rattle.gsl_lower_law_body.specs.Asking.{AsksAt}
use Rattle.gsl_lower_law_body.proofs.Bodied.{body_does}
use Rattle.gsl_lower_law_zeros.proofs.Given.{zeros_given}
use Rattle.gsl_lower_law_evaluated.specs.Evaluating.{IsTyped, lowered_in, meant_in}
use Rattle.gsl_lower_law_evaluated.proofs.Facts.{at_place, index_shape, is_false, plain_real, scalar_shape, shaped_real}
use Rattle.gsl_lower_law_evaluated.proofs.Whole.{expr_evaluates}
use Rattle.gsl_lower_law_shader.specs.Typed.{AsksOf, AsksThroughout, KnowsTypes}

module _ (m : Module) (input : Input) (whole : Sections) (f : Frame m input whole) (p : Program) (params : List (Direction × Ty)) (locals : List Ty) (call : ℕ → List Lower → Ty → Emit ℕ) (stage : StageVar → Value) (calls : Calls) (types : IsTyped p params locals) (knows : KnowsTypes m input whole f p) where
  abbrev around : Around
  around = around_body (program_lists p) params locals

  abbrev lower : lowering.Setting
  lower = lowered_in p call

  abbrev means : meaning.Setting
  means = meant_in p stage calls

  abbrev Ask : Expr → Type 0
  Ask = AsksThroughout m input whole f p params locals call stage calls

  -- ---- expressions

  -- a well typed expression gives its value
  value_gives : (e : Expr) → IsExpr around e → MayBeRead around e → Ask e → GivesValue m input whole f p around (lowering.lowers lower e).traits.splits (type_of e) (value_of lower e) (evaluating means e)
  value_gives e is read ask =
      let here = is_false (is_runtime_layer (out-Ty (type_of e))) read.1 in
      (expr_evaluates m input whole f p params locals call stage calls e types knows.vectors is ask.sound ask.asks).gives here (λ in_one none. ask.read in_one none here)

  computes : (e : Expr) → IsExpr around e → MayBeRead around e → Ask e → asking.Computes m input whole f p around lower means locals e
  computes e is read ask = record { splits = (lowering.lowers lower e).traits.splits; ty = type_of e; gives = value_gives e is read ask }

  gives : (e : Expr) → type_of e ≢ Void → IsExpr around e → MayBeRead around e → Ask e → asking.Gives m input whole f p around lower means locals e
  gives e real is read ask = record { splits = (lowering.lowers lower e).traits.splits; ty = type_of e; real = real; gives = value_gives e is read ask }

  boolean_real : (e : Expr) → type_of e ≡ boolean → type_of e ≢ Void
  boolean_real e is = shaped_real (type_of e) (Boolean, 1) (ap shape_of is ∙ scalar_shape Boolean)

  -- ---- local variables

  index_is : (items : List Ty) (number : ℕ) (t : Ty) → slice_get items number ≡ Some t → slice_index_or items number Void ≡ t
  index_is [] number t is = absurd cc
  index_is (one ∷ items) zero t is = cc
  index_is (one ∷ items) (suc number) t is = index_is items number t is

  named : (number : ℕ) (t : Ty) → slice_get locals number ≡ Some t → IsNamed p around (name.Local number) t
  named number t is = let v = at_place (IsVariableType p.structs) locals number t types.of_locals is in record { are = types.program.structs; sound = v.known; real = plain_real t v.plain; typed = is }

  begins : (number : ℕ) (init : Option Expr) → MayStand around f.result outside (Stmt-F.Declare number init) → AllByRecursion (IsExpr around) (or_nothing init) → AllByRecursion (MayBeRead around) (or_nothing init) → AllByRecursion Ask (or_nothing init)
      → asking.Begins m input whole f p around lower means locals number init
  begins number None is typed reads asks =
      let t = is.0 in
      let v = at_place (IsVariableType p.structs) locals number t types.of_locals is.1 in
      let zero_is = zero_typed p.structs types.program.structs (declared_plain p.structs types.program.declared) t v.known v.plain in
      record {
        ty = t;
        named = named number t is.1;
        splits = false;
        gives = subst (λ u. GivesValue m input whole f p around false t (initial lower locals number None) (shader_run.given (zero_value p.structs u))) (sym (index_is locals number t is.1))
            (subst (λ u. GivesValue m input whole f p around false t (zeros u) (shader_run.given (zero_value p.structs t))) (sym (index_is locals number t is.1))
            (zeros_given m input whole f p around t knows.nulls (λ composite. knows.zeros t composite v) v.known zero_is));
      }
  begins number (Some e) is typed reads asks = record {
    ty = is.0;
    named = named number is.0 is.1;
    splits = (lowering.lowers lower e).traits.splits;
    gives = subst (λ t. GivesValue m input whole f p around (lowering.lowers lower e).traits.splits t (value_of lower e) (evaluating means e)) is.2 (value_gives e typed.0 reads.0 asks.0);
  }

  -- ---- statements

  loops : (test step : Option Expr) (last : Bool) → IsLoop test step last → AllByRecursion (IsExpr around) (or_nothing test ++ or_nothing step) → AllByRecursion (MayBeRead around) (or_nothing test ++ or_nothing step) → AllByRecursion Ask (or_nothing test ++ or_nothing step)
      → asking.IfAny m input whole f p around lower means locals (asking.Gives m input whole f p around lower means locals) test × asking.IfAny m input whole f p around lower means locals (asking.Computes m input whole f p around lower means locals) step
  loops None None last is typed reads asks = (tt, tt)
  loops None (Some e) last is typed reads asks = (tt, computes e typed.0 reads.0 asks.0)
  loops (Some t) None last is typed reads asks = (gives t (boolean_real t (tested last is)) typed.0 reads.0 asks.0, tt)
    where
      tested : (last : Bool) → IsLoop (Some t) None last → type_of t ≡ boolean
      tested true is = is.2
      tested false is = is
  loops (Some t) (Some e) last is typed reads asks = (gives t (boolean_real t (tested last is)) typed.0 reads.0 asks.0, computes e typed.1.0 reads.1.0 asks.1.0)
    where
      tested : (last : Bool) → IsLoop (Some t) (Some e) last → type_of t ≡ boolean
      tested true is = is.2
      tested false is = is

  returns : (e : Option Expr) → MayReturn f.result e → AllByRecursion (IsExpr around) (or_nothing e) → AllByRecursion (MayBeRead around) (or_nothing e) → AllByRecursion Ask (or_nothing e) → asking.Returns m input whole f p around lower means locals e
  returns None is typed reads asks = is
  returns (Some e) is typed reads asks = record {
    splits = (lowering.lowers lower e).traits.splits;
    real = is.0;
    gives = subst (λ t. GivesValue m input whole f p around (lowering.lowers lower e).traits.splits t (value_of lower e) (evaluating means e)) is.1 (value_gives e typed.0 reads.0 asks.0);
  }

  selects : (e : Expr) → IsIndex (type_of e) → type_of e ≢ Void
  selects e is = let shape = index_shape (type_of e) is in shaped_real (type_of e) shape.0 shape.1

  by_form : (exits : Exits) (form : Stmt-F Stmt Arm) → MayStand around f.result exits form → AllByRecursion (IsExpr around) (exprs_of form) → AllByRecursion (MayBeRead around) (exprs_of form) → AllByRecursion Ask (exprs_of form)
      → asking.Asks m input whole f p around lower means locals form
  by_form exits Stmt-F.Empty is typed reads asks = tt
  by_form exits (Stmt-F.Eval e) is typed reads asks = computes e typed.0 reads.0 asks.0
  by_form exits (Stmt-F.Declare number init) is typed reads asks = begins number init is typed reads asks
  by_form exits (Stmt-F.Group ss) is typed reads asks = tt
  by_form exits (Stmt-F.If test first other) is typed reads asks = gives test (boolean_real test is) typed.0 reads.0 asks.0
  by_form exits (Stmt-F.Loop test step body last) is typed reads asks = loops test step last is typed reads asks
  by_form exits (Stmt-F.Switch e arms) is typed reads asks = gives e (selects e is.0) typed.0 reads.0 asks.0
  by_form exits Stmt-F.Break is typed reads asks = tt
  by_form exits Stmt-F.Continue is typed reads asks = tt
  by_form exits (Stmt-F.Return e) is typed reads asks = returns e is typed reads asks
  by_form exits Stmt-F.Discard is typed reads asks = tt

  mutual
    along : (exits : Exits) (s : Stmt) → AlongLowered (AsksOf m input whole f p params locals call stage calls) exits s → Along (IsTypedStep around f.result) exits s → AlongLowered (AsksAt m input whole f p around lower means locals) exits s
    along _ _ (AlongLowered.whole exits s asks others) (Along.whole _ _ step inner) =
        AlongLowered.whole exits s (by_form exits (out-Stmt s) step.stands step.typed step.reads asks) (all_along (lowered_inner exits (out-Stmt s)) others (inner_along (IsTypedStep around f.result) exits (out-Stmt s) inner))

    all_along : (placed : List Placed) → AlongAllLowered (AsksOf m input whole f p params locals call stage calls) placed → AlongAll (IsTypedStep around f.result) placed → AlongAllLowered (AsksAt m input whole f p around lower means locals) placed
    all_along _ AlongAllLowered.none steps = AlongAllLowered.none
    all_along _ (AlongAllLowered.more one rest ask asks) (AlongAll.more _ _ first later) = AlongAllLowered.more one rest (along one.0 one.1 ask first) (all_along rest asks later)

pub typed_body_does : (m : Module) (input : Input) (whole : Sections) (f : Frame m input whole) (p : Program) (params : List (Direction × Ty)) (locals : List Ty) (call : ℕ → List Lower → Ty → Emit ℕ) (stage : StageVar → Value) (calls : Calls) (ss : List Stmt) → IsTyped p params locals → KnowsTypes m input whole f p
    → IsBody (around_body (program_lists p) params locals) f.result ss → AlongAllLowered (AsksOf m input whole f p params locals call stage calls) (with_exits outside (up_to_jump ss))
    → DoesStatement m input whole f p (around_body (program_lists p) params locals) (any_leaves (map (λ (s : LowerStmt). s.leaves) (map (lowers_stmt (lowered_in p call) locals) ss))) (in_turn (map (lowers_stmt (lowered_in p call) locals) ss)) (runs_all (meant_in p stage calls) locals ss)
typed_body_does m input whole f p params locals call stage calls ss types knows is asks =
    body_does m input whole f p (around_body (program_lists p) params locals) (lowered_in p call) (meant_in p stage calls) locals outside ss (all_along m input whole f p params locals call stage calls types knows (with_exits outside (up_to_jump ss)) asks (body_along (IsTypedStep (around_body (program_lists p) params locals) f.result) outside ss is))
