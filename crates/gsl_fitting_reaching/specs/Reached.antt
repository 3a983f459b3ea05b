-- What an expression leads to, of whatever type, in a block that has given some ids (GLSL 4.50, 5.5 and 5.7).
use Rattle.std.specs.Prelude.{◌≡◌, ℕ, ◌+◌, ◌<◌, Bool, true, false, List, [], ◌∷◌, ◌++◌, Option, Some, None, length, map}
use Rattle.std.specs.List.{AllByRecursion}
use Rattle.std.specs.Option.{unwrap_or}
use Rattle.gsl_instr.specs.declared.enumerant.decoration.TheConstants as decoration
use Rattle.gsl_types.specs.declared.ty.Scalar.{Scalar}
use Rattle.gsl_tree.specs.Shapes.{Shape}
use Rattle.gsl_words.specs.declared.module.Module.{Module}
use Rattle.gsl_valid.specs.CallRules.{target}
use Rattle.gsl_valid.specs.Kinds.{kind, shape_of, type_of}
use Rattle.gsl_valid.specs.LimitRules.{most_indexes}
use Rattle.gsl_valid.specs.MemoryRules.{is_base, marks}
use Rattle.gsl_valid.specs.OperandRules.{part_of_at, part_within}
use Rattle.gsl_valid.specs.Sections.{is_class}
use Rattle.gsl_valid.specs.Types.{defined_as}
use Rattle.gsl_spv.specs.Declarations as d
use Rattle.gsl_spv.specs.Once.{id_of}
use Rattle.gsl_spv.specs.Sections.{Sections}
use Rattle.gsl_lower_values.specs.Types.{plain_scalar}
use Rattle.gsl_lower_places.specs.Reached.{stored_shape}
use Rattle.gsl_lower_places.specs.Reading.{number_in}
use Rattle.gsl_lower_places.specs.declared.reached.Base.{Base}
use Rattle.gsl_lower_places.specs.declared.reached.Base.TheVariants.{Value, Variable}
use Rattle.gsl_lower_places.specs.declared.reached.Part.{Part}
use Rattle.gsl_lower_places.specs.declared.reached.Part.TheVariants.{By, Fixed}
use Rattle.gsl_lower_places.specs.declared.reached.Picked.{Picked}
use Rattle.gsl_lower_places.specs.declared.reached.Reached.{Reached}
use Rattle.gsl_lower_holders.specs.Flow.{Emit, Flow}
use Rattle.gsl_lower_holders.specs.declared.place.FlowPlace.{FlowPlace}
use Rattle.gsl_fitting.specs.Fits.{Frame, is_known}
use Rattle.gsl_fitting_types.specs.Making.{IsSized, IsTypeOf, made}
use Rattle.gsl_fitting_places.specs.Leading.{IsIndex, Leads, is_marked, led_by, may_change, told_number}
use Rattle.gsl_fitting_places.specs.Places.{IsOfShape, MayTake, shape_before}
use Rattle.gsl_fitting_expr.specs.Evaluating.{Yields}

-- What may be done there.
pub record May : Type 0 where
  pub reads : Bool
  pub stores : Bool

-- What is known of a place before it is lowered.
pub record Spot : Type 0 where
  -- it is in a variable of a storage class, or in a value
  pub home : Option ℕ
  pub may : May
  -- the shape of a scalar or vector, and the type in the module of what is there, before components are picked
  pub shape : Option Shape
  pub type : ℕ
  -- so many indexes may follow, and one of a vector
  pub room : ℕ
  -- the types of the ids in it, before components are picked
  pub held : List ℕ
  -- by what those are picked: not at all, by their positions, or by a word of a scalar type
  pub picked : Option (Option Scalar)

-- ---- variables and values

abbrev pub IsIn : Option ℕ → Base → Type 0
IsIn (Some class) (Variable id other) = other ≡ class
IsIn (Some class) (Value id type) = ⊥
IsIn None (Variable id class) = ⊥
IsIn None (Value id type) = Unit {0}

-- the shape in which a scalar or vector lies there
abbrev pub shape_there : Option ℕ → Shape → Shape
shape_there (Some class) shape = stored_shape class shape
shape_there None shape = shape

-- ---- what is known of names, values and parts

-- a variable, or a member of a block
abbrev pub named_spot : ℕ → May → Option Shape → ℕ → ℕ → Spot
named_spot class may shape type room = record { home = Some class; may = may; shape = shape; type = type; room = room; held = []; picked = None }

-- a value in no variable
abbrev pub value_spot : May → Option Shape → ℕ → ℕ → Spot
value_spot may shape type room = record { home = None; may = may; shape = shape; type = type; room = room; held = type ∷ []; picked = None }

abbrev pub by_positions : Option (Option Scalar) → Option (Option Scalar)
by_positions None = Some None
by_positions (Some by) = Some by

-- components of a vector
abbrev pub swizzle_spot : Spot → Shape → Spot
swizzle_spot spot shape = record spot { shape = Some shape; picked = by_positions spot.picked }

-- Components are picked by that.
abbrev pub IsChosen : Option Scalar → Option Part → Type 0
IsChosen None None = Unit {0}
IsChosen None (Some part) = ⊥
IsChosen (Some s) None = ⊥
IsChosen (Some s) (Some (Fixed number)) = ⊥
IsChosen (Some s) (Some (By other id)) = other ≡ s

abbrev pub IsPickedBy : Option (Option Scalar) → Option Picked → Type 0
IsPickedBy None None = Unit {0}
IsPickedBy None (Some p) = ⊥
IsPickedBy (Some by) None = ⊥
IsPickedBy (Some by) (Some p) = IsChosen by p.by

-- What a place tells is the same in each block, and however many holders were used.
abbrev pub Lasts : (FlowPlace → List ℕ) → Type 0
Lasts list = (p : FlowPlace) (label used : ℕ) → list (record p { label = label; used = used }) ≡ list p

-- ---- the types of the ids in it, which wait together

module _ (whole : Sections) where
  -- the type of a scalar
  abbrev pub scalar_id : Scalar → ℕ
  scalar_id s = unwrap_or (id_of (d.plain_type (plain_scalar s)) whole.globals) 0

  abbrev pub asked_part : Part → List ℕ
  asked_part (Fixed number) = []
  asked_part (By s id) = scalar_id s ∷ []

  abbrev pub asked_parts : List Part → List ℕ
  asked_parts [] = []
  asked_parts (part ∷ parts) = asked_part part ++ asked_parts parts

  abbrev pub asked_base : Base → List ℕ
  asked_base (Variable id class) = []
  asked_base (Value id type) = type ∷ []

  abbrev pub asked_by : Option (Option Scalar) → List ℕ
  asked_by None = []
  asked_by (Some None) = []
  asked_by (Some (Some s)) = scalar_id s ∷ []

  -- the types of the holders that all its ids take
  abbrev pub asked_of : Spot → List ℕ
  asked_of spot = spot.held ++ asked_by spot.picked

  -- a part of an array or a struct
  abbrev pub part_spot : Spot → Part → Option Shape → ℕ → ℕ → Spot
  part_spot spot part shape type room = record spot {
    shape = shape;
    type = type;
    room = room;
    held = spot.held ++ asked_part part;
  }

-- ---- what it leads to

module _ (whole : Sections) (main : ℕ) (local_size : List ℕ) (rank : ℕ → ℕ) (f : Frame) where
  abbrev m : Module
  m = made whole main local_size rank f

  -- Parts of a variable lead to a type. So many more may follow, and one of a vector.
  pub record IsWithin (given : List ℕ) (may : May) (class id : ℕ) (parts : List Part) (type room : ℕ) : Type 0 where
    pub pointee : ℕ
    pub leads : Leads whole main local_size rank f given class id pointee parts type
    -- the variable may be used in any block
    pub known : is_known m f [] id ≡ true
    pub base : is_base (kind (defined_as m id)) ≡ true
    pub classed : is_class m.version class ≡ true
    pub few : length parts + room < most_indexes
    pub readable : may.reads ≡ true → is_marked m decoration.NON_READABLE id pointee parts ≡ false
    pub changes : may.stores ≡ true → may_change m class id pointee parts ≡ true

  -- Parts of a value lead to a type.
  pub record IsInside (given : List ℕ) (id of_whole : ℕ) (parts : List Part) (type room : ℕ) : Type 0 where
    pub typed : type_of (defined_as m id) ≡ Some of_whole
    pub known : is_known m f given id ≡ true
    pub indexes : AllByRecursion (IsIndex whole main local_size rank f given) parts
    pub within : part_within m (Some of_whole) (map number_in parts) ≡ Some type
    pub few : length parts + room < most_indexes

  abbrev pub LeadsTo : List ℕ → May → Base → List Part → ℕ → ℕ → Type 0
  LeadsTo given may (Variable id class) parts type room = IsWithin given may class id parts type room
  LeadsTo given may (Value id of_whole) parts type room = IsInside given id of_whole parts type room

  -- A scalar or vector of a shape is there, or is picked of one that is.
  pub record IsPicked (given : List ℕ) (home : Option ℕ) (may : May) (shape : Shape) (type : ℕ) (picked : Option Picked) : Type 0 where
    pub of : IsTypeOf whole (shape_there home (shape_before shape picked)) type
    pub is : IsOfShape whole main local_size rank f given shape picked
    pub takes : may.stores ≡ true → MayTake picked

  -- What is there is an array or a struct, or of this shape.
  abbrev pub IsThere : List ℕ → Option ℕ → May → Option Shape → ℕ → Option Picked → Type 0
  IsThere given home may None type picked = picked ≡ None
  IsThere given home may (Some shape) type picked = IsPicked given home may shape type picked

  -- What an expression leads to is as is known of it.
  pub record IsReached (given : List ℕ) (spot : Spot) (r : Reached) : Type 0 where
    pub at_home : IsIn spot.home r.base
    pub leads : LeadsTo given spot.may r.base r.path spot.type spot.room
    pub is : IsThere given spot.home spot.may spot.shape spot.type r.picked
    pub asked : asked_base whole r.base ++ asked_parts whole r.path ≡ spot.held
    pub chosen : IsPickedBy spot.picked r.picked

  -- An expression leads to that, wherever it stands.
  abbrev pub Reaches : Flow → List ℕ → ℕ → Bool → Spot → Emit Reached → Type 0
  Reaches s asks deep splits spot reach = Yields whole main local_size rank f s asks deep splits (λ r now after. IsReached now spot r) reach

  -- ---- names and parts

  -- A type stands for an array or a struct, or for a scalar or vector of this shape.
  abbrev pub Stands : Option ℕ → Option Shape → ℕ → Type 0
  Stands home None type = Unit {0}
  Stands home (Some shape) type = IsSized shape × IsTypeOf whole (shape_there home shape) type

  -- An id is a variable, or a parameter, of a type, which any block may use.
  pub record IsVariable (may : May) (class pointee room id : ℕ) : Type 0 where
    pub leads : target m id ≡ Some (record { class = class; pointee = pointee })
    pub known : is_known m f [] id ≡ true
    pub base : is_base (kind (defined_as m id)) ≡ true
    pub classed : is_class m.version class ≡ true
    pub few : room < most_indexes
    pub changes : may.stores ≡ true → may_change m class id pointee [] ≡ true

  -- A part of a type leads to another, in a variable through no member that may not be read or stored.
  abbrev pub Parts : Option ℕ → May → ℕ → Part → ℕ → Type 0
  Parts (Some class) may type part other =
      (led_by m type part ≡ Some other) × (may.reads ≡ true → marks m decoration.NON_READABLE (told_number part) (shape_of (defined_as m type)) ≡ false)
      × (may.stores ≡ true → marks m decoration.NON_WRITABLE (told_number part) (shape_of (defined_as m type)) ≡ false)
  Parts None may type part other = part_of_at m (number_in part) (shape_of (defined_as m type)) ≡ Some other

  -- A member of a block's variable, which any block may use, is of a type.
  pub record IsMember (may : May) (class number type room id : ℕ) : Type 0 where
    pub pointee : ℕ
    pub leads : target m id ≡ Some (record { class = class; pointee = pointee })
    pub known : is_known m f [] id ≡ true
    pub base : is_base (kind (defined_as m id)) ≡ true
    pub classed : is_class m.version class ≡ true
    pub few : 1 + room < most_indexes
    pub part : led_by m pointee (Fixed number) ≡ Some type
    pub readable : may.reads ≡ true → is_marked m decoration.NON_READABLE id pointee (Fixed number ∷ []) ≡ false
    pub changes : may.stores ≡ true → may_change m class id pointee (Fixed number ∷ []) ≡ true
