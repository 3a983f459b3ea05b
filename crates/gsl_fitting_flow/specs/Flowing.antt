-- What a part of lowering does to the code of the function that is open, whose blocks may end and begin on the way (SPIR-V 1.0, 2.11).
use Rattle.std.specs.Prelude.{◌≡◌, ℕ, ◌+◌, ◌≤◌, Bool, true, false, List, [], ◌∷◌, ◌++◌, length, slice_get, Option, Some, None, unwrap_or}
use Rattle.gsl_instr.specs.declared.enumerant.storage_class.TheConstants as storage_class
use Rattle.gsl_types.specs.declared.ty.Ty.{Ty}
use Rattle.gsl_tree.specs.Shapes.{Shape, shape_of}
use Rattle.gsl_words.specs.declared.module.Module.{Module}
use Rattle.gsl_blocks.specs.declared.around.Around.{Around}
use Rattle.gsl_blocks.specs.declared.around.Due.{Due}
use Rattle.gsl_valid.specs.CallRules.{target}
use Rattle.gsl_valid.specs.EntryRules.{is_among}
use Rattle.gsl_valid.specs.Ids.{defined}
use Rattle.gsl_valid.specs.Kinds.{kind, type_of}
use Rattle.gsl_valid.specs.LimitRules.{most_constructs}
use Rattle.gsl_valid.specs.MemoryRules.{is_base, is_moved}
use Rattle.gsl_valid.specs.Placed.{Code}
use Rattle.gsl_valid.specs.Types.{defined_as, outside_of}
use Rattle.gsl_spv.specs.Declarations as d
use Rattle.gsl_spv.specs.Growing.{Extends}
use Rattle.gsl_spv.specs.Once.{id_of}
use Rattle.gsl_spv.specs.Sections.{Sections}
use Rattle.gsl_spv.specs.declared.plain.PlainType.TheVariants as plain
use Rattle.gsl_lower_holders.specs.Flow.{Flow, Lowered, Gives, Lacks, find_type}
use Rattle.gsl_lower_holders.specs.declared.place.FlowPlace.{FlowPlace}
use Rattle.gsl_fitting.specs.Fits.{Fits, Frame, In, is_known}
use Rattle.gsl_fitting_shapes.specs.Fresh.{Fresh}
use Rattle.gsl_fitting_steps.specs.Keeping.{Fine}
use Rattle.gsl_fitting_types.specs.Making.{IsSized, IsTypeOf, Stays, made}

-- ---- what stays

-- What a builder held stays in its sections, and what the place tells, but for the block that is open and that more holders were used.
pub record FlowStays (before after : Flow) : Type 0 where
  pub sections : Stays before.sections after.sections
  pub place : after.place ≡ record before.place { label = after.place.label; used = after.place.used }
  pub used : before.place.used ≤ after.place.used

-- A part of lowering leaves a flow so, where it comes to something.
abbrev pub EmitStays : {A : Type 0} → Flow → Lowered A → Type 0
EmitStays before (Gives a after) = FlowStays before after
EmitStays before Lacks = Unit {0}

-- So many holders more were used, where a part of lowering comes to something.
abbrev pub EmitTakes : {A : Type 0} → ℕ → Flow → Lowered A → Type 0
EmitTakes n before (Gives a after) = after.place.used ≡ before.place.used + n
EmitTakes n before Lacks = Unit {0}

-- how many holders something takes that waits, or does not
abbrev pub taken_if : Bool → ℕ
taken_if true = 1
taken_if false = 0

-- A flow comes behind another: what that builder held stays in its sections, and the place tells the same, but for the block that is open and
-- the holders that were used.
pub record IsLater (before after : Flow) : Type 0 where
  pub sections : Extends before.sections after.sections
  pub place : after.place ≡ record before.place { label = after.place.label; used = after.place.used }

-- the types of the holders that something takes which waits, or does not
abbrev pub asked_if : Bool → ℕ → List ℕ
asked_if true type = type ∷ []
asked_if false type = []

-- ---- code with blocks

-- What is known stays known.
abbrev pub Widens : List ℕ → List ℕ → Type 0
Widens given now = (id : ℕ) → is_among given id ≡ true → is_among now id ≡ true

-- What was put from one flow to the next fits, from the block that was open there and had given some ids, to the one that is open here
-- and has given these, in the same run: wherever no label that is still to be taken ends that run, and so many constructs more may
-- nest there. Where no block ends on the way, it is the same block, which has given more.
pub record Crosses (m : Module) (rank : ℕ → ℕ) (f : Frame) (deep : ℕ) (splits : Bool) (given now : List ℕ) (before after : Flow) : Type 0 where
  pub fine : Fine m before.sections → Fine m after.sections
  pub code : Code
  pub puts : after.sections.functions ≡ before.sections.functions ++ code
  pub fits : (follows : Code) (c : Around) (due : List Due) → Fresh c (before.sections.last + 1) → c.depth + deep ≤ most_constructs → Fits m rank f follows (In after.place.label c now due)
      → Fits m rank f (code ++ follows) (In before.place.label c given due)
  pub same : splits ≡ false → (after.place.label ≡ before.place.label) × Widens given now

module _ (whole : Sections) (main : ℕ) (local_size : List ℕ) (rank : ℕ → ℕ) (f : Frame) where
  abbrev m : Module
  m = made whole main local_size rank f

  -- ---- values

  -- An id stands for a value of a type, and may be used in a block that has given these ids.
  pub record IsOf (given : List ℕ) (type id : ℕ) : Type 0 where
    pub typed : type_of (defined_as m id) ≡ Some type
    pub known : is_known m f given id ≡ true

  abbrev pub IsTypeIn : FlowPlace → Ty → ℕ → Option Shape → Type 0
  IsTypeIn place t type None = find_type t place.composites ≡ Some type
  IsTypeIn place t type (Some shape) = IsSized shape × IsTypeOf whole shape type

  -- The type that stands for one of the program has this id.
  abbrev pub IsTypeFor : FlowPlace → Ty → ℕ → Type 0
  IsTypeFor place t type = IsTypeIn place t type (shape_of t)

  -- ---- holders

  -- the type of pointers to variables of functions that hold values of a type
  abbrev pub pointer_id : ℕ → ℕ
  pointer_id type = unwrap_or (id_of (d.plain_type (plain.Pointer storage_class.FUNCTION type)) whole.globals) 0

  -- A variable of the function holds a value of a type, without an array of unknown length.
  pub record IsHolder (type id : ℕ) : Type 0 where
    pub typed : type_of (defined_as m id) ≡ Some (pointer_id type)
    pub base : is_base (kind (defined_as m id)) ≡ true
    pub leads : target m id ≡ Some (record { class = storage_class.FUNCTION; pointee = type })
    pub own : is_among f.own id ≡ true
    pub declared : defined (outside_of m) type ≡ true
    pub moved : is_moved m (record { class = storage_class.FUNCTION; pointee = type }) ≡ true

  -- The next holders hold values of these types, in their order.
  abbrev pub Hold : List ℕ → ℕ → List ℕ → Type 0
  Hold holders used [] = Unit {0}
  Hold holders used (type ∷ types) = ((id : ℕ) × (slice_get holders used ≡ Some id) × IsHolder type id) × Hold holders (used + 1) types

  -- What stands for a value while it waits: the value, or the holder that it is in.
  abbrev pub Waits : Bool → List ℕ → ℕ → ℕ → Type 0
  Waits false given type id = IsOf given type id
  Waits true given type id = IsHolder type id

  -- ---- parts of lowering

  -- From one flow to the next what was put fits, as many holders were used as were asked for, and what was given is so behind it.
  pub record Carries {A : Type 0} (asks : List ℕ) (deep : ℕ) (splits : Bool) (given : List ℕ) (Is : A → List ℕ → Flow → Type 0) (before : Flow) (a : A) (after : Flow) : Type 0 where
    pub now : List ℕ
    pub crosses : Crosses m rank f deep splits given now before after
    pub taken : after.place.used ≡ before.place.used + length asks
    pub is : Is a now after

  -- Where what the builder holds then is part of what the module is made of, and the next holders are of the types that are asked for, a
  -- part of lowering that comes to something carries this on.
  abbrev pub Flows : {A : Type 0} → List ℕ → ℕ → Bool → List ℕ → (A → List ℕ → Flow → Type 0) → Flow → Lowered A → Type 0
  Flows asks deep splits given Is before (Gives a after) = Extends after.sections whole → Hold before.place.holders before.place.used asks → Carries asks deep splits given Is before a after
  Flows asks deep splits given Is before Lacks = Unit {0}

  -- a part gives a value of a type
  abbrev pub GivesOf : ℕ → ℕ → List ℕ → Flow → Type 0
  GivesOf type id now after = IsOf now type id

  -- a part gives nothing
  abbrev pub GivesNone : Unit {0} → List ℕ → Flow → Type 0
  GivesNone done now after = Unit {0}
