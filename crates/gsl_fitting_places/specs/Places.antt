-- What an expression leads to may be read and stored, in a block that has given some ids.
use Rattle.std.specs.Prelude.{◌≡◌, ℕ, ◌+◌, ◌<◌, ◌≤◌, true, false, ◌==◌, if◌then◌else◌, List, [], ◌∷◌, ◌++◌, length, map, Option, Some, None}
use Rattle.gsl_instr.specs.declared.enumerant.decoration.TheConstants as decoration
use Rattle.gsl_tree.specs.Shapes.{Shape}
use Rattle.gsl_words.specs.declared.module.Module.{Module}
use Rattle.gsl_valid.specs.Kinds.{kind, type_of}
use Rattle.gsl_valid.specs.LimitRules.{most_indexes}
use Rattle.gsl_valid.specs.MemoryRules.{is_base}
use Rattle.gsl_valid.specs.OperandRules.{part_within}
use Rattle.gsl_valid.specs.Sections.{is_class}
use Rattle.gsl_valid.specs.Types.{defined_as}
use Rattle.gsl_spv.specs.Sections.{Sections}
use Rattle.gsl_lower_places.specs.Pointed.{picks_several}
use Rattle.gsl_lower_places.specs.Reached.{stored_shape}
use Rattle.gsl_lower_places.specs.Reading.{number_in}
use Rattle.gsl_lower_places.specs.declared.reached.Base.{Base}
use Rattle.gsl_lower_places.specs.declared.reached.Base.TheVariants.{Variable, Value}
use Rattle.gsl_lower_places.specs.declared.reached.Part.{Part}
use Rattle.gsl_lower_places.specs.declared.reached.Part.TheVariants.{Fixed, By}
use Rattle.gsl_lower_places.specs.declared.reached.Picked.{Picked}
use Rattle.gsl_lower_places.specs.declared.reached.Reached.{Reached}
use Rattle.gsl_fitting.specs.Fits.{Frame, is_known}
use Rattle.gsl_fitting_builtins.specs.Arguments.{AreBelow}
use Rattle.gsl_fitting_types.specs.Making.{IsSized, IsTypeOf, made}
use Rattle.gsl_fitting_places.specs.Leading.{IsIndex, IsWay, Leads, is_marked, may_change}

-- ---- components that are picked

-- the shape of what components are picked of, where they are, and else of the whole
abbrev pub shape_before : Shape → Option Picked → Shape
shape_before shape None = shape
shape_before shape (Some p) = p.shape

-- the parts of the pointer that serves: it leads to one component where one alone is picked, and else to the vector
abbrev pub way_by : List Part → Option Part → List ℕ → List Part
way_by parts None (position ∷ []) = parts ++ Fixed position ∷ []
way_by parts None positions = parts
way_by parts (Some by) positions = parts ++ by ∷ []

abbrev pub way : List Part → Option Picked → List Part
way parts None = parts
way parts (Some p) = if p.shape.1 == 1 then parts else way_by parts p.by p.positions

-- Positions are those of components; where a component is picked by a word, each is the first of that one.
abbrev pub AreWithin : ℕ → Option Part → List ℕ → Type 0
AreWithin count None positions = AreBelow count positions
AreWithin count (Some by) positions = AreBelow 1 positions

-- A part is one of so many components, if it is known.
abbrev pub IsAmong : ℕ → Part → Type 0
IsAmong count (Fixed number) = number < count
IsAmong count (By s id) = Unit {0}

-- No more components are stored than there are; by a word it is one.
abbrev pub AreStored : ℕ → Option Part → List ℕ → Type 0
AreStored count None positions = length positions ≤ count
AreStored count (Some by) positions = length positions ≡ 1

-- What is stored is the whole or such components of it.
abbrev pub MayTake : Option Picked → Type 0
MayTake None = Unit {0}
MayTake (Some p) = AreStored p.shape.1 p.by p.positions

module _ (whole : Sections) (main : ℕ) (local_size : List ℕ) (rank : ℕ → ℕ) (f : Frame) where
  abbrev m : Module
  m = made whole main local_size rank f

  -- A component is picked by a word that a block may use, or by none.
  abbrev pub IsChoice : List ℕ → Option Part → Type 0
  IsChoice given None = Unit {0}
  IsChoice given (Some part) = IsIndex whole main local_size rank f given part

  -- One to four components of a scalar or vector are picked, and make up this shape.
  pub record Picks (given : List ℕ) (shape : Shape) (p : Picked) : Type 0 where
    pub shaped : shape ≡ (p.shape.0, length p.positions)
    pub some : 1 ≤ length p.positions
    pub few : length p.positions ≤ 4
    pub sized : IsSized p.shape
    pub by : IsChoice given p.by
    pub within : AreWithin p.shape.1 p.by p.positions

  -- The whole, or what is picked of it, is a scalar or vector of this shape.
  abbrev pub IsOfShape : List ℕ → Shape → Option Picked → Type 0
  IsOfShape given shape None = IsSized shape
  IsOfShape given shape (Some p) = Picks given shape p

  -- ---- variables and values

  -- Parts of what a pointer leads to lead to a scalar or vector, of which the whole or some components make up this shape.
  pub record IsPlace (given : List ℕ) (class id : ℕ) (parts : List Part) (shape : Shape) (picked : Option Picked) : Type 0 where
    pub pointee : ℕ
    pub type : ℕ
    pub leads : Leads whole main local_size rank f given class id pointee parts type
    pub of : IsTypeOf whole (stored_shape class (shape_before shape picked)) type
    pub along : IsWay m class id (way parts picked)
    pub is : IsOfShape given shape picked

  -- No member on the way is one that may not be read.
  abbrev pub IsReadable : ℕ → ℕ → List Part → Type 0
  IsReadable id pointee parts = is_marked m decoration.NON_READABLE id pointee parts ≡ false

  -- It may be read.
  pub record ReadsPlace (given : List ℕ) (class id : ℕ) (parts : List Part) (shape : Shape) (picked : Option Picked) : Type 0 where
    pub place : IsPlace given class id parts shape picked
    pub readable : IsReadable id place.pointee parts

  -- A place may have one more index: a chain may begin at its variable, and has room for it. A value always may.
  abbrev pub TakesMore : Base → List Part → Type 0
  TakesMore (Variable id class) parts = (1 + length parts ≤ most_indexes) × (is_base (kind (defined_as m id)) ≡ true) × (is_class m.version class ≡ true)
  TakesMore (Value id type) parts = Unit {0}

  -- It may be stored to, and where several components are, each by a pointer of its own.
  pub record StoresPlace (given : List ℕ) (class id : ℕ) (parts : List Part) (shape : Shape) (picked : Option Picked) : Type 0 where
    pub place : IsPlace given class id parts shape picked
    pub changes : may_change m class id place.pointee parts ≡ true
    pub takes : MayTake picked
    pub more : picks_several picked ≡ true → TakesMore (Variable id class) parts

  -- Numbers lead from a value, which such a block may use, to a scalar or vector, of which the whole or some components make up this shape.
  pub record IsPartOf (given : List ℕ) (id : ℕ) (parts : List Part) (shape : Shape) (picked : Option Picked) : Type 0 where
    pub type : ℕ
    pub part : ℕ
    pub typed : type_of (defined_as m id) ≡ Some type
    pub known : is_known m f given id ≡ true
    pub within : part_within m (Some type) (map number_in parts) ≡ Some part
    pub few : length parts ≤ most_indexes
    pub of : IsTypeOf whole (shape_before shape picked) part
    pub is : IsOfShape given shape picked

  abbrev pub Reads : List ℕ → Shape → Base → List Part → Option Picked → Type 0
  Reads given shape (Variable id class) parts picked = ReadsPlace given class id parts shape picked
  Reads given shape (Value id type) parts picked = IsPartOf given id parts shape picked

  -- What an expression leads to may be read as a scalar or vector of a shape.
  abbrev pub MayRead : List ℕ → Shape → Reached → Type 0
  MayRead given shape r = Reads given shape r.base r.path r.picked

  abbrev pub Stores : List ℕ → Shape → Base → List Part → Option Picked → Type 0
  Stores given shape (Variable id class) parts picked = StoresPlace given class id parts shape picked
  Stores given shape (Value id type) parts picked = Unit {0}

  -- A scalar or vector of a shape may be stored there, which in a value does nothing.
  abbrev pub MayStore : List ℕ → Shape → Reached → Type 0
  MayStore given shape r = Stores given shape r.base r.path r.picked

  -- It may be read, and then stored to.
  pub record UpdatesPlace (given : List ℕ) (class id : ℕ) (parts : List Part) (shape : Shape) (picked : Option Picked) : Type 0 where
    pub place : IsPlace given class id parts shape picked
    pub readable : IsReadable id place.pointee parts
    pub changes : may_change m class id place.pointee parts ≡ true
    pub takes : MayTake picked
    pub more : picks_several picked ≡ true → TakesMore (Variable id class) parts

  abbrev pub Updates : List ℕ → Shape → Base → List Part → Option Picked → Type 0
  Updates given shape (Variable id class) parts picked = UpdatesPlace given class id parts shape picked
  Updates given shape (Value id type) parts picked = IsPartOf given id parts shape picked

  -- What an expression leads to may be read as a scalar or vector of a shape and then stored to.
  abbrev pub MayUpdate : List ℕ → Shape → Reached → Type 0
  MayUpdate given shape r = Updates given shape r.base r.path r.picked

  abbrev pub IsThere : List ℕ → Shape → Base → List Part → Option Picked → Type 0
  IsThere given shape (Variable id class) parts picked = IsPlace given class id parts shape picked
  IsThere given shape (Value id type) parts picked = Unit {0}

  -- It may be pointed to.
  abbrev pub MayPoint : List ℕ → Shape → Reached → Type 0
  MayPoint given shape r = IsThere given shape r.base r.path r.picked

  -- ---- parts and components

  -- From a scalar or vector that an expression leads to, to a part of it, which may be read and stored where that might.
  pub record IsRefined (given now : List ℕ) (shape to_shape : Shape) (r to : Reached) : Type 0 where
    pub of : IsOfShape now to_shape to.picked
    pub more : TakesMore to.base to.path
    pub reads : MayRead given shape r → MayRead now to_shape to
    pub updates : MayUpdate given shape r → MayUpdate now to_shape to
