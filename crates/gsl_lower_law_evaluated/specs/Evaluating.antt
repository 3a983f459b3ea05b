-- What it is for a whole expression, as it is lowered, to do what it does, and what is asked of expressions for it (GLSL 4.50, chapter 5).
use Rattle.std.specs.Prelude.{◌≡◌, ◌≢◌, ℕ, Bool, true, false, List, [], ◌∷◌, length, slice_get, Some, None}
use Rattle.std.specs.List.{AllByRecursion}
use Rattle.gsl_base.specs.declared.input.Input.{Input}
use Rattle.gsl_types.specs.Known.{IsSound}
use Rattle.gsl_types.specs.declared.ty.Direction.{Direction}
use Rattle.gsl_types.specs.declared.ty.Scalar.TheVariants.{Int}
use Rattle.gsl_types.specs.declared.ty.Ty.{Ty}
use Rattle.gsl_types.specs.declared.ty.Ty.TheVariants as ty
use Rattle.gsl_types.specs.declared.ty.Ty.TheViews.{out-Ty}
use Rattle.gsl_words.specs.declared.module.Module.{Module}
use Rattle.gsl_values.specs.declared.value.Value.{Value}
use Rattle.gsl_values.specs.declared.value.Value.TheVariants.{Word}
use Rattle.gsl_tree.specs.Around.{Around}
use Rattle.gsl_tree.specs.Expressions.{is_runtime_layer}
use Rattle.gsl_tree.specs.Paths.{in_block, is_writable}
use Rattle.gsl_tree.specs.Shapes.{shape_of}
use Rattle.gsl_tree.specs.Trees.{Throughout, form_of, type_of}
use Rattle.gsl_tree.specs.Values.{is_value_of}
use Rattle.gsl_tree.specs.WellTyped.{AreWellTyped, IsVariableType, around_body, program_lists}
use Rattle.gsl_tree.specs.declared.expr.Expr.{Expr}
use Rattle.gsl_tree.specs.declared.expr.ExprKind.{ExprKind}
use Rattle.gsl_tree.specs.declared.expr.ExprKind.TheOpen.{ExprKind-F}
use Rattle.gsl_tree.specs.declared.expr.StageVar.{StageVar}
use Rattle.gsl_tree.specs.declared.program.Program.{Program}
use Rattle.gsl_meaning.specs.Expressions as meaning
use Rattle.gsl_meaning.specs.Expressions.{Calls, Meant}
use Rattle.gsl_meaning.specs.Running.{told_by}
use Rattle.gsl_spv.specs.Sections.{Sections}
use Rattle.gsl_lower_holders.specs.Flow.{Emit}
use Rattle.gsl_lower_traits.specs.Traits.{is_selected, is_short}
use Rattle.gsl_lower_traits_law.specs.Quiet.{MayBeThere}
use Rattle.gsl_lower_traits_law.specs.Telling.{Tells}
use Rattle.gsl_lower_expr.specs.Lowering as lowering
use Rattle.gsl_lower_expr.specs.Parts.{Lower, stage_number}
use Rattle.gsl_lower_follows.specs.Frames.{Frame}
use Rattle.gsl_lower_follows.specs.Giving.{GivesValue}
use Rattle.gsl_lower_follows.specs.Sizes.{IsShort as IsShortInput}
use Rattle.gsl_lower_law_built.specs.Places.{NoVector}
use Rattle.gsl_lower_law_expr.specs.Known.{IsShort}
pub use Rattle.gsl_lower_law_stored.specs.Buffers.{KnowsBuffers}
use Rattle.gsl_lower_reaching.specs.Reaching.{GivesPlace, Start, is_of_value}
pub use Rattle.gsl_lower_reaching.specs.Reaching.{KnowsMember}
use Rattle.gsl_lower_reaching.specs.Reaching.Start.{OfBlock}

-- what expressions of a program are lowered in, by what calls are lowered to
abbrev pub lowered_in : Program → (ℕ → List Lower → Ty → Emit ℕ) → lowering.Setting
lowered_in p call = record { structs = p.structs; interfaces = p.interfaces; call = call }

-- what they mean, by the built-in variables and what calls do
abbrev pub meant_in : Program → (StageVar → Value) → Calls → meaning.Setting
meant_in p stage calls = record { structs = p.structs; prototypes = p.prototypes; stage_value = stage; call = calls }

-- A program is well typed, and so are the parameters and local variables of a function of it.
pub record IsTyped (p : Program) (params : List (Direction × Ty)) (locals : List Ty) : Type 0 where
  pub program : AreWellTyped (program_lists p)
  pub of_params : AllByRecursion (λ (param : Direction × Ty). IsVariableType p.structs param.1) params
  pub of_locals : AllByRecursion (IsVariableType p.structs) locals

module _ (m : Module) (input : Input) (whole : Sections) (f : Frame m input whole) (p : Program) (around : Around) where
  -- What an expression of a type is lowered to gives its value, or its length where it is a runtime array, and leads where it does, into a block where it is a part of one. A struct or an array in a block is not said to
  -- give its value: where it is read whole, that is asked. What is known of the expression before is so.
  pub record Evaluates (may_write blocked : Bool) (t : Ty) (l : Lower) (x : Meant) : Type 0 where
    pub typed : l.ty ≡ t
    pub meant : x.ty ≡ t
    pub sound : IsSound (length p.structs) t
    pub gives : is_runtime_layer (out-Ty t) ≡ false → (blocked ≡ true → shape_of t ≡ None → GivesValue m input whole f p around l.traits.splits t l.value x.value) → GivesValue m input whole f p around l.traits.splits t l.value x.value
    pub lengths : is_runtime_layer (out-Ty t) ≡ true → GivesValue m input whole f p around false (ty.One Int) l.length (told_by (λ state. Word (x.parts state)))
    pub start : Start
    pub start_loose : is_of_value start ≡ l.traits.is_loose
    pub start_blocked : start ≡ OfBlock → blocked ≡ true
    pub leads : t ≢ ty.Void → (writes : Bool) → (writes ≡ true → may_write ≡ true) → GivesPlace m input whole f p around l.traits.splits start writes t l.reach x.access
    pub tells : Tells l.traits x

-- A function knows a variable for a built-in variable, which has its value.
pub record KnowsStage (m : Module) (input : Input) (whole : Sections) (f : Frame m input whole) (stage : StageVar → Value) (var : StageVar) : Type 0 where
  pub told : slice_get f.stages (stage_number var) ≡ Some (Some (stage var))
  pub real : (id : ℕ) → slice_get f.place.stage_vars (stage_number var) ≡ Some id → id ≢ 0

module _ (m : Module) (input : Input) (whole : Sections) (f : Frame m input whole) (p : Program) (params : List (Direction × Ty)) (locals : List Ty) (call : ℕ → List Lower → Ty → Emit ℕ) (stage : StageVar → Value) (calls : Calls) where
  abbrev around : Around
  around = around_body (program_lists p) params locals

  abbrev low : Expr → Lower
  low = lowering.lowers (lowered_in p call)

  abbrev means : Expr → Meant
  means = meaning.means (meant_in p stage calls)

  -- Lowered, an expression does what it does.
  abbrev pub IsEvaluated : Expr → Type 0
  IsEvaluated e = Evaluates m input whole f p around (is_writable around e) (in_block e) (type_of e) (low e) (means e)

  abbrev pub AllEvaluated : List Expr → Type 0
  AllEvaluated [] = Unit {0}
  AllEvaluated (e ∷ es) = IsEvaluated e × AllEvaluated es

  -- What is lowered for an expression gives its value.
  abbrev pub HasValue : Expr → Type 0
  HasValue e = GivesValue m input whole f p around (low e).traits.splits (type_of e) (low e).value (means e).value

  -- In an operand that may be evaluated where it does not count, the lengths of runtime arrays are there: where the counts of the bytes that are given are words they are so.
  abbrev pub AllThere : Expr → Type 0
  AllThere e = (few : Bool) × (few ≡ true → IsShortInput input) × Throughout (MayBeThere few around (meant_in p stage calls)) e

  -- A struct or an array in a block gives its value, where it is read whole.
  abbrev pub IsReadWhole : Expr → Type 0
  IsReadWhole e = in_block e ≡ true → shape_of (type_of e) ≡ None → is_runtime_layer (out-Ty (type_of e)) ≡ false → HasValue e

  abbrev pub AreReadWhole : List Expr → Type 0
  AreReadWhole = AllByRecursion IsReadWhole

  -- the buffers of blocks are known where something is stored in one
  abbrev pub KnowsWhereStored : Expr → Type 0
  KnowsWhereStored a = in_block a ≡ true → KnowsBuffers m input whole f p

  -- a runtime array that has its length taken is a member of a block that the module and the function know
  abbrev pub AsksLengthOf : Expr → ExprKind-F ExprKind Expr → Type 0
  AsksLengthOf a (ExprKind-F.BlockMember block number) = is_runtime_layer (out-Ty (type_of a)) ≡ true → KnowsMember m input whole f p around block number (type_of a)
  AsksLengthOf a _ = Unit {0}

  -- What is asked of an expression by its form: of names of members of blocks, that the module and the function know the block, and of their lengths, too; of structs and arrays in blocks whose values it takes, that they
  -- are read whole; of what is stored in blocks, that their buffers are known; of calls, that they do what they do where their parts do; of lengths of runtime arrays in operands that may be evaluated where they do not
  -- count, that they are there; of built-in variables, that the module has them; and of the type of what is assigned to, that it has a value.
  abbrev pub AsksFor : Expr → ExprKind-F ExprKind Expr → Type 0
  AsksFor e (ExprKind-F.BlockMember block number) = KnowsMember m input whole f p around block number (type_of e)
  AsksFor e (ExprKind-F.Stage var) = KnowsStage m input whole f stage var
  AsksFor e (ExprKind-F.Length a) = AsksLengthOf a (form_of a)
  AsksFor e (ExprKind-F.Logic op a b) = IsShort op → is_short op (low b).traits ≡ false → AllThere b
  AsksFor e (ExprKind-F.Binary op a b) = AreReadWhole (a ∷ b ∷ [])
  AsksFor e (ExprKind-F.Choose test a b) = AreReadWhole (a ∷ b ∷ []) × (is_selected (type_of e) (low a).traits (low b).traits ≡ true → AllThere a × AllThere b)
  AsksFor e (ExprKind-F.Assign a b) = ((v : Value) × (is_value_of p.structs (type_of a) v ≡ true)) × KnowsWhereStored a × IsReadWhole b
  AsksFor e (ExprKind-F.Update op a b) = KnowsWhereStored a
  AsksFor e (ExprKind-F.Step op a) = KnowsWhereStored a
  AsksFor e (ExprKind-F.Build args) = AreReadWhole args
  AsksFor e (ExprKind-F.Comma items) = AreReadWhole items
  AsksFor e (ExprKind-F.Call number args) = AllEvaluated args → HasValue e
  AsksFor e _ = Unit {0}

  abbrev pub Asks : Expr → Type 0
  Asks e = AsksFor e (form_of e)

-- What stands for the arrays and structs that a function knows is no vector in the module.
abbrev pub NoVectors : (m : Module) (input : Input) (whole : Sections) → Frame m input whole → Type 0
NoVectors m input whole f = (t : Ty) → shape_of t ≡ None → NoVector m t f.place
