-- Functions that are called, and their arguments, by the way in which these are passed (GLSL 4.50, 6.1.1; SPIR-V 1.0, 3.32.9).
use Rattle.std.specs.Prelude.{◌≡◌, ℕ, ◌<◌, Bool, true, List, [], ◌∷◌, ◌++◌, Option, Some, None, map, slice_get}
use Rattle.gsl_types.specs.declared.ty.Direction.{Direction}
use Rattle.gsl_types.specs.declared.ty.Direction.TheVariants.{In, InOut, Out}
use Rattle.gsl_types.specs.declared.ty.StructType.{StructType}
use Rattle.gsl_types.specs.declared.ty.Ty.{Ty}
use Rattle.gsl_types.specs.declared.ty.Ty.TheOpen.{Ty-F}
use Rattle.gsl_types.specs.declared.ty.Ty.TheViews.{out-Ty}
use Rattle.gsl_tree.specs.Shapes.{Shape, shape_of}
use Rattle.gsl_words.specs.declared.module.Module.{Module}
use Rattle.gsl_valid.specs.ConstantRules.{is_whole}
use Rattle.gsl_valid.specs.Ids.{defined}
use Rattle.gsl_valid.specs.Kinds as kinds
use Rattle.gsl_valid.specs.Kinds.{kind}
use Rattle.gsl_valid.specs.Types.{defined_as, outside_of, parameters_of}
use Rattle.gsl_spv.specs.Declarations as d
use Rattle.gsl_spv.specs.Once.{id_of}
use Rattle.gsl_spv.specs.Sections.{Sections}
use Rattle.gsl_spv.specs.declared.plain.PlainType.TheVariants as plain
use Rattle.gsl_lower_holders.specs.Flow.{Flow}
use Rattle.gsl_lower_expr.specs.Parts.{Lower, any_splits, scalar_of}
use Rattle.gsl_fitting.specs.Fits.{Frame}
use Rattle.gsl_fitting_types.specs.Making.{made}
use Rattle.gsl_fitting_places.specs.Leading.{IsValueType}
use Rattle.gsl_fitting_flow.specs.Flowing.{IsTypeFor, pointer_id}
use Rattle.gsl_fitting_expr.specs.Evaluating.{Evaluates, IsPlain}
use Rattle.gsl_fitting_reaching.specs.Reached.{Reaches, Spot, asked_of}
use Rattle.gsl_fitting_reads.specs.Moving.{IsGot, IsPut}
use Rattle.gsl_fitting_reads.specs.Waiting.{held_if}
use Rattle.gsl_fitting_indexes.specs.Indexes.{IsTested}

-- How an argument goes: the type of its parameter's value, the types of the holders that it takes, and where the value goes back to, if it does,
-- with the type that it has there.
pub record Way : Type 0 where
  pub type : ℕ
  pub asks : List ℕ
  pub back : Option (Spot × ℕ)

abbrev pub types_of : List Way → List ℕ
types_of ways = map (λ (way : Way). way.type) ways

abbrev pub asked_by_all : List Way → List ℕ
asked_by_all [] = []
asked_by_all (way ∷ ways) = way.asks ++ asked_by_all ways

-- No two holders are the same.
abbrev pub AreDifferent : List ℕ → Type 0
AreDifferent holders = (i j id : ℕ) → slice_get holders i ≡ Some id → slice_get holders j ≡ Some id → i ≡ j

module _ (whole : Sections) (main : ℕ) (local_size : List ℕ) (rank : ℕ → ℕ) (f : Frame) where
  abbrev m : Module
  m = made whole main local_size rank f

  -- A function gives a value of a type and takes a pointer to a value of each of these types. It stands deeper than the caller.
  pub record IsCallable (type : ℕ) (types : List ℕ) (id : ℕ) : Type 0 where
    pub head : ℕ
    pub function_type : ℕ
    pub begins : kind (defined_as m id) ≡ kinds.Begins type head function_type
    pub takes : parameters_of (defined_as m function_type) ≡ map (pointer_id whole main local_size rank f) types
    pub deeper : rank id < rank f.id

  -- The type of what a function gives has this id.
  abbrev pub IsResultBy : Flow → Ty → ℕ → Ty-F Ty → Type 0
  IsResultBy s t type Ty-F.Void = id_of (d.plain_type plain.Void) whole.globals ≡ Some type
  IsResultBy s t type layer = IsTypeFor whole main local_size rank f s.place t type

  pub record IsResult (s : Flow) (t : Ty) (type : ℕ) : Type 0 where
    pub is : IsResultBy s t type (out-Ty t)
    pub declared : defined (outside_of m) type ≡ true

  -- A type is declared, where it stands for an array or a struct.
  abbrev pub IsDeclared : Flow → ℕ → Option Shape → Type 0
  IsDeclared s type None = IsValueType s.sections type
  IsDeclared s type (Some shape) = Unit {0}

  -- Zeros of a type are a value.
  pub record HasZeros (s : Flow) (t : Ty) (type : ℕ) : Type 0 where
    pub same : IsTypeFor whole main local_size rank f s.place t type
    pub declared : IsDeclared s type (shape_of t)
    pub has_value : is_whole m type ≡ true

  -- The value of a parameter goes back as one of the argument's type: components are converted.
  abbrev pub GoesBackBy : Ty → ℕ → ℕ → Option Shape → Type 0
  GoesBackBy arg type other None = other ≡ type
  GoesBackBy arg type other (Some shape) = IsPlain whole main local_size rank f shape type × IsPlain whole main local_size rank f (scalar_of arg, shape.1) other

  -- It may be stored where the argument leads.
  pub record GoesBack (s : Flow) (structs : List StructType) (t arg : Ty) (spot : Spot) (type other : ℕ) : Type 0 where
    pub same : IsTypeFor whole main local_size rank f s.place t type
    pub as_argument : GoesBackBy arg type other (shape_of t)
    pub stores : spot.may.stores ≡ true
    pub put : IsPut whole main local_size rank f s structs arg spot other

  -- An argument is passed so to a parameter of a type. Where later arguments have labels, what it leads to waits.
  pub data IsPassed (s : Flow) (deep : ℕ) (structs : List StructType) (waits : Bool) (t : Ty) (arg : Lower) : Direction → Way → Type 0 where
    goes_in : {type : ℕ} {asks : List ℕ} → Evaluates whole main local_size rank f s asks deep arg.traits.splits type arg.value → IsPassed s deep structs waits t arg In (record { type = type; asks = asks ++ type ∷ []; back = None })
    comes_out : {type other : ℕ} {asks : List ℕ} {spot : Spot} → Reaches whole main local_size rank f s asks deep arg.traits.splits spot arg.reach → IsTested whole main local_size rank f structs arg.ty spot true → HasZeros s t type → GoesBack s structs t arg.ty spot type other
        → IsPassed s deep structs waits t arg Out (record { type = type; asks = asks ++ (held_if waits (asked_of whole spot) ++ type ∷ []); back = Some (spot, other) })
    goes_both : {type other : ℕ} {asks more : List ℕ} {spot : Spot} → Reaches whole main local_size rank f s asks deep arg.traits.splits spot arg.reach → IsGot whole main local_size rank f s structs arg.ty spot type more → spot.may.reads ≡ true → GoesBack s structs t arg.ty spot type other
        → IsPassed s deep structs waits t arg InOut (record { type = type; asks = asks ++ (more ++ (held_if waits (asked_of whole spot) ++ type ∷ [])); back = Some (spot, other) })

  -- Arguments are passed to the parameters of a function, in their order.
  pub data ArePassed (s : Flow) (deep : ℕ) (structs : List StructType) : List Lower → List (Direction × Ty) → List Way → Type 0 where
    no_more : ArePassed s deep structs [] [] []
    one_more : {arg : Lower} {args : List Lower} {direction : Direction} {t : Ty} {params : List (Direction × Ty)} {way : Way} {ways : List Way} → IsPassed s deep structs (any_splits args) t arg direction way → ArePassed s deep structs args params ways
        → ArePassed s deep structs (arg ∷ args) ((direction, t) ∷ params) (way ∷ ways)
