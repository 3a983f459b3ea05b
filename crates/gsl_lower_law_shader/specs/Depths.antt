-- The functions of a program where they stand in a module, and what their calls do at a depth (GLSL 4.50, 6.1).
use Rattle.std.specs.Prelude.{◌≡◌, ℕ, ◌<◌, List, [], ◌∷◌, map, length, slice_get, Option, Some}
use Rattle.std.specs.List.{AllByRecursion}
use Rattle.gsl_base.specs.declared.input.Input.{Input}
use Rattle.gsl_types.specs.Known.{IsSound}
use Rattle.gsl_types.specs.declared.ty.Direction.{Direction}
use Rattle.gsl_types.specs.declared.ty.Direction.TheVariants.{In, Out, InOut}
use Rattle.gsl_types.specs.declared.ty.Ty.{Ty}
use Rattle.gsl_words.specs.declared.module.Module.{Module}
use Rattle.gsl_values.specs.declared.value.Value.{Value}
use Rattle.gsl_tree.specs.Around.{Around}
use Rattle.gsl_tree.specs.Statements.{IsBody}
use Rattle.gsl_tree.specs.Trees.{Exits, Throughout, exprs_of, form_of, outside, type_of, with_exits}
use Rattle.gsl_tree.specs.Weights.{params_of}
use Rattle.gsl_tree.specs.WellTyped.{IsResult, around_body, program_lists}
use Rattle.gsl_tree.specs.declared.expr.Expr.{Expr}
use Rattle.gsl_tree.specs.declared.expr.ExprKind.{ExprKind}
use Rattle.gsl_tree.specs.declared.expr.ExprKind.TheOpen.{ExprKind-F}
use Rattle.gsl_tree.specs.declared.expr.StageVar.{StageVar}
use Rattle.gsl_tree.specs.declared.program.Program.{Program}
use Rattle.gsl_tree.specs.declared.stmt.Stmt.{Stmt, out-Stmt}
use Rattle.gsl_tree.specs.declared.unit.Function.{Function}
use Rattle.gsl_tree.specs.declared.unit.Prototype.{Prototype}
use Rattle.gsl_meaning.specs.Expressions.{Calls}
use Rattle.gsl_meaning.specs.Shader.{calls, function_of}
use Rattle.gsl_meaning.specs.Stages.{stage_value}
use Rattle.gsl_spv.specs.Sections.{Sections}
use Rattle.gsl_lower_holders.specs.Flow.{Emit, Flow}
use Rattle.gsl_lower_holders.specs.declared.place.FlowPlace.{FlowPlace}
use Rattle.gsl_lower_expr.specs.Calls.{calling}
use Rattle.gsl_lower_expr.specs.Parts.{Lower}
use Rattle.gsl_lower_needs.specs.Bodies.{any_leaves}
use Rattle.gsl_lower_stmt.specs.Lowering.{lowers_stmt}
use Rattle.gsl_lower_stmt.specs.Parts.{LowerStmt, in_turn}
use Rattle.gsl_lower_used.specs.Lowered.{AlongAllLowered, ThroughoutLowered, up_to_jump}
use Rattle.gsl_lower_follows.specs.Frames.{Frame}
use Rattle.gsl_lower_law_entered.specs.Modules.{IsFrame, IsFunction}
use Rattle.gsl_lower_law_passed.specs.OfLawFunctions.{bodied}
use Rattle.gsl_lower_law_passed.specs.OfLawFunctions.{FunctionDoes, IsLowered}
use Rattle.gsl_lower_law_evaluated.specs.Beside.{AsksBesideFor}
use Rattle.gsl_lower_law_evaluated.specs.Evaluating.{IsTyped, KnowsWhereStored, lowered_in}
use Rattle.gsl_lower_law_shader.specs.Typed.{KnowsTypes}

-- what calls are lowered to in a program
abbrev pub call_of : Program → ℕ → List Lower → Ty → Emit ℕ
call_of p = calling p.structs p.prototypes

-- its built-in variables on an input
abbrev pub stage_of : Program → Input → StageVar → Value
stage_of p input = stage_value p.local_size input

-- the statements of a function as they are lowered
abbrev pub statements_of : Program → Function → List LowerStmt
statements_of p f = map (lowers_stmt (lowered_in p (call_of p)) f.locals) f.body

-- its body as it is lowered, with what is put behind it
abbrev pub body_of : Program → Function → Ty → Emit (Unit {0})
body_of p f result = bodied (in_turn (statements_of p f)) (any_leaves (map (λ (s : LowerStmt). s.leaves) (statements_of p f))) result

-- what stands outside functions
abbrev pub globals_of : Program → Around
globals_of p = around_body (program_lists p) [] []

module _ (m : Module) (input : Input) (whole : Sections) (f : Frame m input whole) (p : Program) (params : List (Direction × Ty)) (locals : List Ty) (call : ℕ → List Lower → Ty → Emit ℕ) (stage : StageVar → Value) (calls : Calls) where
  -- What is asked of an argument by the way in which it is passed: where one comes back into a block the buffers of that are known.
  abbrev pub IsPassedBy : Direction → Expr → Type 0
  IsPassedBy In e = Unit {0}
  IsPassedBy Out e = KnowsWhereStored m input whole f p params locals call stage calls e
  IsPassedBy InOut e = KnowsWhereStored m input whole f p params locals call stage calls e

  -- so of the arguments of a call, in their order
  abbrev pub ArePassed : List (Direction × Ty) → List Expr → Type 0
  ArePassed [] es = Unit {0}
  ArePassed (param ∷ params) [] = Unit {0}
  ArePassed (param ∷ params) (e ∷ es) = IsPassedBy param.0 e × ArePassed params es

module _ (m : Module) (input : Input) (whole : Sections) (p : Program) (place : FlowPlace) (stages : List (Option Value)) where
  -- A function of the module does what that of a head means, where calls nest at most so deep.
  abbrev pub DoesAt : ℕ → ℕ → ℕ → Prototype → Type 0
  DoesAt depth number function head = FunctionDoes m input whole p place stages (globals_of p) function head.params head.result (calls p input depth number)

  -- the same, if the program has the head and the module the function
  abbrev pub CallsDo : ℕ → ℕ → Type 0
  CallsDo depth number = (head : Prototype) (function : ℕ) → slice_get p.prototypes number ≡ Some head → slice_get place.functions number ≡ Some function → DoesAt depth number function head

  -- The module has the function of a head, and it ranks below a number.
  pub record MayCall (rank : ℕ → ℕ) (below number : ℕ) : Type 0 where
    pub less : rank number < below
    pub function : ℕ
    pub known : slice_get place.functions number ≡ Some function

  module _ (rank : ℕ → ℕ) (below depth : ℕ) (f : Frame m input whole) (params : List (Direction × Ty)) (locals : List Ty) where
    -- What is asked of an expression: of a call that the module has its function, which ranks lower, and of its arguments as they are passed; of all others what is asked of them anywhere.
    abbrev pub AsksBelowFor : Expr → ExprKind-F ExprKind Expr → Type 0
    AsksBelowFor e (ExprKind-F.Call number args) = MayCall rank below number × ArePassed m input whole f p params locals (call_of p) (stage_of p input) (calls p input depth) (params_of (slice_get p.prototypes number)) args
    AsksBelowFor e form = AsksBesideFor m input whole f p params locals (call_of p) (stage_of p input) (calls p input depth) e form

    abbrev pub AsksBelow : Expr → Type 0
    AsksBelow e = AsksBelowFor e (form_of e)

    -- In an expression all types are those of the program, and what is asked of its parts that are lowered is so.
    pub record AreAsked (e : Expr) : Type 0 where
      pub sound : Throughout (λ (part : Expr). IsSound (length p.structs) (type_of part)) e
      pub asks : ThroughoutLowered p.prototypes AsksBelow e

    -- so in the expressions of a statement
    abbrev pub AreAskedOf : Exits → Stmt → Type 0
    AreAskedOf exits s = AllByRecursion AreAsked (exprs_of (out-Stmt s))

  -- The function of a head is well typed and stands in the module as it is lowered; in each frame of it the types of the module are known, and what is asked of the expressions in it that are lowered is so.
  pub record Stands (rank : ℕ → ℕ) (number function : ℕ) (head : Prototype) : Type 0 where
    pub tree : Function
    pub found : function_of p.functions number ≡ Some tree
    pub begin : Flow
    pub stands : IsFunction m whole p.structs place tree.locals function begin
    pub lowered : IsLowered whole begin stands.rest (body_of p tree head.result)
    pub many : length head.params ≡ length begin.place.params
    pub result : IsResult p.structs head.result
    pub typed : IsTyped p head.params tree.locals
    pub body : IsBody (around_body (program_lists p) head.params tree.locals) head.result tree.body
    pub knows : (g : Frame m input whole) → IsFrame m input whole place stages g → KnowsTypes m input whole g p
    pub asks : (depth : ℕ) (g : Frame m input whole) → IsFrame m input whole place stages g → AlongAllLowered (AreAskedOf rank (rank number) depth g head.params tree.locals) (with_exits outside (up_to_jump tree.body))

  -- All functions that rank below a number do so. Those that main does not reach have an id as well, but no function stands under it: they rank higher.
  abbrev pub AllStand : (ℕ → ℕ) → ℕ → Type 0
  AllStand rank below = (number function : ℕ) (head : Prototype) → slice_get p.prototypes number ≡ Some head → slice_get place.functions number ≡ Some function → rank number < below → Stands rank number function head
