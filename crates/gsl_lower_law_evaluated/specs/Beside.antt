-- What is asked of expressions beside that what they read whole gives its value, and what is known of a module for that (GLSL 4.50, chapter 5).
use Rattle.std.specs.Prelude.{◌≡◌, ℕ, true, IsTrue, List, length, Some, None}
use Rattle.gsl_base.specs.declared.input.Input.{Input}
use Rattle.gsl_types.specs.Known.{IsSound, is_plain}
use Rattle.gsl_types.specs.declared.ty.Direction.{Direction}
use Rattle.gsl_types.specs.declared.ty.Ty.{Ty}
use Rattle.gsl_words.specs.declared.module.Module.{Module}
use Rattle.gsl_values.specs.declared.value.Value.{Value}
use Rattle.gsl_tree.specs.Shapes.{shape_of}
use Rattle.gsl_tree.specs.Trees.{form_of, type_of}
use Rattle.gsl_tree.specs.Values.{is_value_of, zero_value}
use Rattle.gsl_tree.specs.WellTyped.{around_body, program_lists}
use Rattle.gsl_tree.specs.declared.expr.Expr.{Expr}
use Rattle.gsl_tree.specs.declared.expr.ExprKind.{ExprKind}
use Rattle.gsl_tree.specs.declared.expr.ExprKind.TheOpen.{ExprKind-F}
use Rattle.gsl_tree.specs.declared.expr.StageVar.{StageVar}
use Rattle.gsl_tree.specs.declared.program.Program.{Program}
use Rattle.gsl_meaning.specs.Expressions.{Calls}
use Rattle.gsl_valid.specs.Valid.{Valid}
use Rattle.gsl_machine.specs.Constants.{zeros}
use Rattle.gsl_spv.specs.Sections.{Sections}
use Rattle.gsl_lower_text.specs.Written.{Written}
use Rattle.gsl_lower_holders.specs.Flow.{Emit, find_type}
use Rattle.gsl_lower_traits.specs.Traits.{is_selected}
use Rattle.gsl_lower_expr.specs.Lowering as lowering
use Rattle.gsl_lower_expr.specs.Parts.{Lower}
use Rattle.gsl_lower_follows.specs.Frames.{Frame}
use Rattle.gsl_lower_law_gathered.specs.Gathering.{AreShaped}
use Rattle.gsl_lower_law_evaluated.specs.Evaluating.{AllThere, AsksFor, KnowsWhereStored, lowered_in}

module _ (m : Module) (input : Input) (whole : Sections) (f : Frame m input whole) (p : Program) (params : List (Direction × Ty)) (locals : List Ty) where
  -- The module is valid and has the sections, its states that are those of the shader are typed, and zeros of what stands for a struct or an array that is made of values are those of the program.
  pub record KnowsWholes : Type 0 where
    pub valid : Valid m
    pub written : Written m whole
    pub shaped : AreShaped m input whole f p (around_body (program_lists p) params locals)
    pub zeros_are : (t : Ty) → shape_of t ≡ None → IsSound (length p.structs) t → IsTrue (is_plain t) → (id : ℕ) → find_type t f.place.composites ≡ Some id → zeros m id ≡ zero_value p.structs t

  module _ (call : ℕ → List Lower → Ty → Emit ℕ) (stage : StageVar → Value) (calls : Calls) where
    abbrev low : Expr → Lower
    low = lowering.lowers (lowered_in p call)

    -- What is asked by the form of an expression, but not that structs and arrays in blocks give their values.
    abbrev pub AsksBesideFor : Expr → ExprKind-F ExprKind Expr → Type 0
    AsksBesideFor e (ExprKind-F.Binary op a b) = Unit {0}
    AsksBesideFor e (ExprKind-F.Choose test a b) = is_selected (type_of e) (low a).traits (low b).traits ≡ true → AllThere m input whole f p params locals call stage calls a × AllThere m input whole f p params locals call stage calls b
    AsksBesideFor e (ExprKind-F.Assign a b) = ((v : Value) × (is_value_of p.structs (type_of a) v ≡ true)) × KnowsWhereStored m input whole f p params locals call stage calls a
    AsksBesideFor e (ExprKind-F.Build args) = Unit {0}
    AsksBesideFor e (ExprKind-F.Comma items) = Unit {0}
    AsksBesideFor e form = AsksFor m input whole f p params locals call stage calls e form

    abbrev pub AsksBeside : Expr → Type 0
    AsksBeside e = AsksBesideFor e (form_of e)
