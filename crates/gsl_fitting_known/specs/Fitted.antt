-- What it is for a whole expression to fit, as it is lowered, and what is asked of the module for it.
use Rattle.std.specs.Prelude.{◌≡◌, ◌≢◌, ℕ, ◌≤◌, Bool, true, false, not, List, [], ◌∷◌, map, slice_get, Some, None}
use Rattle.gsl_types.specs.declared.ty.Direction.{Direction}
use Rattle.gsl_types.specs.declared.ty.Ty.{Ty}
use Rattle.gsl_types.specs.declared.ty.Ty.TheVariants as ty
use Rattle.gsl_types.specs.declared.ty.Ty.TheViews.{out-Ty}
use Rattle.gsl_tree.specs.Expressions.{is_runtime_layer}
use Rattle.gsl_tree.specs.Paths.{is_unreadable, is_writable}
use Rattle.gsl_tree.specs.Shapes.{shape_of}
use Rattle.gsl_tree.specs.Statements.{expr_depth}
use Rattle.gsl_tree.specs.Trees.{form_of, type_of}
use Rattle.gsl_tree.specs.Weights.{params_of}
use Rattle.gsl_tree.specs.WellTyped.{around_body, program_lists}
use Rattle.gsl_tree.specs.declared.expr.Expr.{Expr}
use Rattle.gsl_tree.specs.declared.expr.ExprKind.{ExprKind}
use Rattle.gsl_tree.specs.declared.expr.ExprKind.TheOpen.{ExprKind-F}
use Rattle.gsl_tree.specs.declared.program.Program.{Program}
use Rattle.gsl_spv.specs.Sections.{Sections}
use Rattle.gsl_lower_holders.specs.Flow.{Flow}
use Rattle.gsl_lower_traits.specs.Traits.{spills}
use Rattle.gsl_lower_traits.specs.declared.traits.Traits.{Traits}
use Rattle.gsl_lower_expr.specs.Coming.{leads, setting_of}
use Rattle.gsl_lower_expr.specs.Lowering.{Setting, lowers}
use Rattle.gsl_lower_expr.specs.Parts.{Lower, known_of}
use Rattle.gsl_lower_needs.specs.Needs.{Asking, asks}
use Rattle.gsl_lower_needs.specs.declared.lead.Lead.{Lead}
use Rattle.gsl_fitting.specs.Fits.{Frame}
use Rattle.gsl_fitting_expr.specs.Evaluating.{Evaluates}
use Rattle.gsl_fitting_reaching.specs.Reached.{Reaches, Spot}
use Rattle.gsl_fitting_passed.specs.Arguments.{IsCallable}
use Rattle.gsl_fitting_known.specs.Ids.{Agree, Wants, is_nowhere, type_for, types_for}
use Rattle.gsl_fitting_known.specs.Known.{HasId, IsStage}
use Rattle.gsl_fitting_known.specs.Lying.{Lies}

-- what expressions of a program are lowered in
abbrev pub setting_in : Program → Setting
setting_in p = setting_of p.structs p.interfaces p.prototypes

abbrev pub low_in : Program → Expr → Lower
low_in p = lowers (setting_in p)

-- whether what is of a form is a value that is in no variable
abbrev pub is_valued : {K E : Type 0} → ExprKind-F K E → Bool
is_valued form = not (leads form)

-- What may be evaluated where it does not count, and what is a literal, has no labels; a literal has no calls.
pub record IsSilent (known : Traits) : Type 0 where
  pub quiet : known.quiet ≡ true → known.splits ≡ false
  pub still : known.still ≡ true → known.splits ≡ false
  pub literal : (number : ℕ) → known.literal ≡ Some number → known.splits ≡ false
  pub calm : (number : ℕ) → known.literal ≡ Some number → known.calls ≡ false

module _ (whole : Sections) (main : ℕ) (local_size : List ℕ) (rank : ℕ → ℕ) (f : Frame) (s : Flow) (p : Program) where
  abbrev Has : Ty → Type 0
  Has t = HasId whole main local_size rank f s p.structs t

  -- ---- what is so of an expression

  -- It gives a value of its type, and takes the holders that it asks for, wherever as many constructs may nest as arms stand within each
  -- other in it.
  pub record GivesValue (t : Ty) (depth : ℕ) (l : Lower) (n : Asking) : Type 0 where
    pub types : List Ty
    pub asked : Wants n.value tt types
    pub evaluates : (deep : ℕ) → depth ≤ deep → Evaluates whole main local_size rank f s (types_for whole s.place types) deep l.traits.splits (type_for whole s.place t) l.value

  -- It leads to a place of which is known what may be done there, what stands there for its type, and what is asked for where it waits.
  pub record LeadsThere (unreadable writable : Bool) (t : Ty) (depth : ℕ) (l : Lower) (n : Asking) : Type 0 where
    pub types : List Ty
    pub lead : Lead
    pub spot : Spot
    pub asked : Wants n.reach lead types
    pub agree : Agree whole s.place spot lead
    pub loose : is_nowhere spot.home ≡ l.traits.is_loose
    pub shape : spot.shape ≡ shape_of t
    pub reads : unreadable ≡ false → spot.may.reads ≡ true
    pub reads_loose : spot.home ≡ None → spot.may.reads ≡ true
    pub stores : writable ≡ true → spot.may.stores ≡ true
    pub rooted : writable ≡ true → is_nowhere spot.home ≡ false
    pub lies : shape_of t ≡ None → Lies whole main local_size rank f s.place p.structs spot.home spot.may spot.room t spot.type
    pub reaches : (deep : ℕ) → depth ≤ deep → Reaches whole main local_size rank f s (types_for whole s.place types) deep l.traits.splits spot l.reach

  -- An expression gives its value, where that may be read and its type has an id, and leads where it does; a value that is in no variable,
  -- where its type has an id. What is known of it is the same as where holders are asked for.
  pub record Fits (unreadable writable valued : Bool) (t : Ty) (depth : ℕ) (l : Lower) (n : Asking) : Type 0 where
    pub typed : l.ty ≡ t
    pub asks_typed : n.ty ≡ t
    pub same : n.traits ≡ l.traits
    pub silent : IsSilent l.traits
    pub gives : unreadable ≡ false → is_runtime_layer (out-Ty t) ≡ false → Has t → GivesValue t depth l n
    pub leads : (valued ≡ true → Has t × (t ≢ ty.Void)) → LeadsThere unreadable writable t depth l n

  -- ---- what is asked of the module

  abbrev pub HasIdOf : Expr → Type 0
  HasIdOf e = Has (type_of e)

  abbrev pub AllHaveIds : List Expr → Type 0
  AllHaveIds [] = Unit {0}
  AllHaveIds (e ∷ es) = HasIdOf e × AllHaveIds es

  -- what a place is a part of, where that is a value
  abbrev pub HasRoot : Expr → Type 0
  HasRoot e = is_valued (form_of e) ≡ true → HasIdOf e

  abbrev pub AllHave : List (Direction × Ty) → Type 0
  AllHave [] = Unit {0}
  AllHave (param ∷ params) = Has param.1 × AllHave params

  -- The function of a number may be called: it gives a value of this type.
  abbrev pub MayCall : ℕ → Ty → Type 0
  MayCall number t =
      (id : ℕ) → slice_get s.place.functions number ≡ Some id
      → IsCallable whole main local_size rank f (type_for whole s.place t) (types_for whole s.place (map (λ (param : Direction × Ty). param.1) (params_of (slice_get p.prototypes number)))) id

  -- What is asked of an expression by its form: that a built-in variable is there; that the types of the parts that it evaluates, and of
  -- parameters, have ids, where its own type does not tell; and that a function that is called stands deeper.
  abbrev pub AsksFor : Expr → ExprKind-F ExprKind Expr → Type 0
  AsksFor e (ExprKind-F.Stage var) = IsStage whole main local_size rank f s p.structs var (type_of e)
  AsksFor e (ExprKind-F.Member a number) = HasRoot a
  AsksFor e (ExprKind-F.Index a i) = HasRoot a × (spills (known_of (low_in p a)) (low_in p i).traits ≡ true → HasIdOf a) × ((low_in p i).traits.literal ≡ None → HasIdOf i)
  AsksFor e (ExprKind-F.Swizzle a lanes) = HasRoot a
  AsksFor e (ExprKind-F.Unary op a) = HasIdOf a
  AsksFor e (ExprKind-F.Binary op a b) = HasIdOf a × HasIdOf b
  AsksFor e (ExprKind-F.Choose test a b) = HasIdOf test
  AsksFor e (ExprKind-F.Update op a b) = HasIdOf b
  AsksFor e (ExprKind-F.Call number args) = AllHaveIds args × AllHave (params_of (slice_get p.prototypes number)) × MayCall number (type_of e)
  AsksFor e (ExprKind-F.Built which args) = AllHaveIds args
  AsksFor e (ExprKind-F.Build args) = AllHaveIds args
  AsksFor e (ExprKind-F.Convert a) = HasIdOf a
  AsksFor e (ExprKind-F.Comma items) = AllHaveIds items
  AsksFor e _ = Unit {0}

  abbrev pub Asks : Expr → Type 0
  Asks e = AsksFor e (form_of e)

  -- A whole expression fits, in the body of a function with these parameters and local variables.
  abbrev pub IsFitted : List (Direction × Ty) → List Ty → Expr → Type 0
  IsFitted params locals e =
      Fits (is_unreadable (around_body (program_lists p) params locals) e) (is_writable (around_body (program_lists p) params locals) e) (is_valued (form_of e)) (type_of e) (expr_depth e) (low_in p e) (asks p.prototypes e)
