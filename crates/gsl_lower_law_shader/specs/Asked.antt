-- What is asked of the expressions in the functions of a program that are lowered, but of calls and assignments (GLSL 4.50, chapter 5).
use Rattle.std.specs.Prelude.{◌≡◌, ℕ, Bool, true, List, slice_get, Option, Some}
use Rattle.std.specs.List.{AllByRecursion}
use Rattle.gsl_base.specs.declared.input.Input.{Input}
use Rattle.gsl_types.specs.declared.ty.Direction.{Direction}
use Rattle.gsl_types.specs.declared.ty.Ty.{Ty}
use Rattle.gsl_words.specs.declared.module.Module.{Module}
use Rattle.gsl_values.specs.declared.value.Value.{Value}
use Rattle.gsl_tree.specs.Weights.{params_of}
use Rattle.gsl_tree.specs.Trees.{Exits, exprs_of, form_of, outside, with_exits}
use Rattle.gsl_tree.specs.declared.expr.Expr.{Expr}
use Rattle.gsl_tree.specs.declared.expr.ExprKind.{ExprKind}
use Rattle.gsl_tree.specs.declared.expr.ExprKind.TheOpen.{ExprKind-F}
use Rattle.gsl_tree.specs.declared.program.Program.{Program}
use Rattle.gsl_tree.specs.declared.stmt.Stmt.{Stmt, out-Stmt}
use Rattle.gsl_tree.specs.declared.unit.Function.{Function}
use Rattle.gsl_tree.specs.declared.unit.Prototype.{Prototype}
use Rattle.gsl_meaning.specs.Shader.{calls, function_of}
use Rattle.gsl_spv.specs.Sections.{Sections}
use Rattle.gsl_lower_holders.specs.declared.place.FlowPlace.{FlowPlace}
use Rattle.gsl_lower_used.specs.Lowered.{AlongAllLowered, ThroughoutLowered, up_to_jump}
use Rattle.gsl_lower_follows.specs.Frames.{Frame}
use Rattle.gsl_lower_law_entered.specs.Modules.{IsFrame}
use Rattle.gsl_lower_law_evaluated.specs.Beside.{AsksBesideFor}
use Rattle.gsl_lower_law_evaluated.specs.Evaluating.{KnowsWhereStored}
use Rattle.gsl_lower_law_shader.specs.Depths.{ArePassed, call_of, stage_of}

module _ (m : Module) (input : Input) (whole : Sections) (p : Program) (place : FlowPlace) (stages : List (Option Value)) where
  module _ (depth : ℕ) (f : Frame m input whole) (params : List (Direction × Ty)) (locals : List Ty) where
    -- Of calls it is asked only how their arguments are passed, and of assignments nothing of their types.
    abbrev pub AsksElseFor : Expr → ExprKind-F ExprKind Expr → Type 0
    AsksElseFor e (ExprKind-F.Call number args) = ArePassed m input whole f p params locals (call_of p) (stage_of p input) (calls p input depth) (params_of (slice_get p.prototypes number)) args
    AsksElseFor e (ExprKind-F.Assign a b) = KnowsWhereStored m input whole f p params locals (call_of p) (stage_of p input) (calls p input depth) a
    AsksElseFor e form = AsksBesideFor m input whole f p params locals (call_of p) (stage_of p input) (calls p input depth) e form

    abbrev pub AsksElse : Expr → Type 0
    AsksElse e = AsksElseFor e (form_of e)

    abbrev pub AreAskedElseOf : Exits → Stmt → Type 0
    AreAskedElseOf exits s = AllByRecursion (ThroughoutLowered p.prototypes AsksElse) (exprs_of (out-Stmt s))

  -- What is asked is so of all that is lowered in each of these functions of the program, in each frame of it.
  abbrev pub AllAsked : (Function → Bool) → Type 0
  AllAsked chosen = (number : ℕ) (head : Prototype) (tree : Function) → function_of p.functions number ≡ Some tree → chosen tree ≡ true → slice_get p.prototypes number ≡ Some head → (depth : ℕ) (g : Frame m input whole) → IsFrame m input whole place stages g
      → AlongAllLowered (AreAskedElseOf depth g head.params tree.locals) (with_exits outside (up_to_jump tree.body))
