-- What is asked of the expressions in a body, and of what a function knows (GLSL 4.50, chapters 5 and 6).
use Rattle.std.specs.Prelude.{◌≡◌, ℕ, List, length, None}
use Rattle.std.specs.List.{AllByRecursion}
use Rattle.gsl_base.specs.declared.input.Input.{Input}
use Rattle.gsl_types.specs.Known.{IsSound}
use Rattle.gsl_types.specs.declared.ty.Direction.{Direction}
use Rattle.gsl_types.specs.declared.ty.Ty.{Ty}
use Rattle.gsl_words.specs.declared.module.Module.{Module}
use Rattle.gsl_values.specs.declared.value.Value.{Value}
use Rattle.gsl_tree.specs.Shapes.{shape_of}
use Rattle.gsl_tree.specs.Trees.{Exits, Throughout, exprs_of, type_of}
use Rattle.gsl_tree.specs.WellTyped.{IsVariableType}
use Rattle.gsl_tree.specs.declared.expr.Expr.{Expr}
use Rattle.gsl_tree.specs.declared.expr.StageVar.{StageVar}
use Rattle.gsl_tree.specs.declared.program.Program.{Program}
use Rattle.gsl_tree.specs.declared.stmt.Stmt.{Stmt, out-Stmt}
use Rattle.gsl_meaning.specs.Expressions.{Calls}
use Rattle.gsl_spv.specs.Sections.{Sections}
use Rattle.gsl_lower_holders.specs.Flow.{Emit}
use Rattle.gsl_lower_expr.specs.Parts.{Lower}
use Rattle.gsl_lower_used.specs.Lowered.{ThroughoutLowered}
use Rattle.gsl_lower_follows.specs.Frames.{Frame}
use Rattle.gsl_lower_law_evaluated.specs.Beside.{KnowsWholes}
use Rattle.gsl_lower_law_evaluated.specs.Evaluating.{Asks, IsReadWhole, NoVectors}
use Rattle.gsl_lower_law_zeros.specs.Nulls.{KnowsZeros, Nulls}

module _ (m : Module) (input : Input) (whole : Sections) (f : Frame m input whole) (p : Program) (params : List (Direction × Ty)) (locals : List Ty) (call : ℕ → List Lower → Ty → Emit ℕ) (stage : StageVar → Value) (calls : Calls) where
  -- In an expression all types are those of the program, what is asked of its parts that are lowered is so, and where it is a struct or an array in a block it gives its value.
  pub record AsksThroughout (e : Expr) : Type 0 where
    pub read : IsReadWhole m input whole f p params locals call stage calls e
    pub sound : Throughout (λ (part : Expr). IsSound (length p.structs) (type_of part)) e
    pub asks : ThroughoutLowered p.prototypes (Asks m input whole f p params locals call stage calls) e

  -- so in the expressions of a statement
  abbrev pub AsksOf : Exits → Stmt → Type 0
  AsksOf exits s = AllByRecursion AsksThroughout (exprs_of (out-Stmt s))

-- What a function knows of arrays and structs in the module: none is a vector there, the zeros of those that variables may have are those of the program, and those of blocks can be read whole.
pub record KnowsTypes (m : Module) (input : Input) (whole : Sections) (f : Frame m input whole) (p : Program) : Type 0 where
  pub vectors : NoVectors m input whole f
  pub nulls : Nulls m whole f.own
  pub zeros : (t : Ty) → shape_of t ≡ None → IsVariableType p.structs t → KnowsZeros m p.structs t f.place
  pub wholes : (params : List (Direction × Ty)) (locals : List Ty) → KnowsWholes m input whole f p params locals
