-- Values that are read and stored where an expression leads, of any type.
use Rattle.std.specs.Prelude.{◌≡◌, ℕ, ◌≤◌, true, false, List, [], ◌∷◌, Option, Some, None, length, map}
use Rattle.std.specs.List.{AllByRecursion}
use Rattle.gsl_instr.specs.declared.enumerant.decoration.TheConstants as decoration
use Rattle.gsl_instr.specs.declared.enumerant.storage_class.TheConstants as storage_class
use Rattle.gsl_types.specs.declared.ty.StructType.{StructType}
use Rattle.gsl_types.specs.declared.ty.Ty.{Ty}
use Rattle.gsl_tree.specs.Shapes.{Shape, shape_of}
use Rattle.gsl_words.specs.declared.module.Module.{Module}
use Rattle.gsl_valid.specs.MemoryRules.{is_moved}
use Rattle.gsl_valid.specs.OperandRules.{part_within}
use Rattle.gsl_spv.specs.Sections.{Sections}
use Rattle.gsl_lower_leaves.specs.Leaves.{leaves_of}
use Rattle.gsl_lower_leaves.specs.declared.leaf.Leaf.{Leaf}
use Rattle.gsl_lower_places.specs.Reached.{is_block_class, stored_shape}
use Rattle.gsl_lower_places.specs.Reading.{number_in}
use Rattle.gsl_lower_places.specs.declared.reached.Part.{Part}
use Rattle.gsl_lower_places.specs.declared.reached.Part.TheVariants.{By, Fixed}
use Rattle.gsl_lower_holders.specs.Flow.{Flow}
use Rattle.gsl_fitting.specs.Fits.{Frame}
use Rattle.gsl_fitting_types.specs.Making.{IsSized, IsTypeOf, made}
use Rattle.gsl_fitting_places.specs.Leading.{IsValueType, led, marked_by}
use Rattle.gsl_fitting_flow.specs.Flowing.{IsTypeFor}
use Rattle.gsl_fitting_expr.specs.Evaluating.{IsPlain}
use Rattle.gsl_fitting_reaching.specs.Reached.{May, Spot}

-- A part is known by its number.
abbrev pub IsKnown : Part → Type 0
IsKnown (Fixed number) = Unit {0}
IsKnown (By s id) = ⊥

-- reading and storing
abbrev pub both : May
both = record { reads = true; stores = true }

module _ (whole : Sections) (main : ℕ) (local_size : List ℕ) (rank : ℕ → ℕ) (f : Frame) where
  abbrev m : Module
  m = made whole main local_size rank f

  -- ---- leaves

  -- A leaf stands where its numbers lead from a type, in a variable of a class, and may be read or stored there.
  pub record HasLeaf (class : ℕ) (may : May) (type room : ℕ) (one : Leaf) : Type 0 where
    pub part : ℕ
    pub leads : led m (Some type) one.path ≡ Some part
    pub of : IsTypeOf whole (stored_shape class one.shape) part
    pub sized : IsSized one.shape
    pub fixed : AllByRecursion IsKnown one.path
    pub few : length one.path ≤ room
    pub readable : may.reads ≡ true → marked_by m decoration.NON_READABLE (Some type) one.path ≡ false
    pub writable : may.stores ≡ true → marked_by m decoration.NON_WRITABLE (Some type) one.path ≡ false

  -- A value of a type has a leaf.
  pub record GivesLeaf (type room : ℕ) (one : Leaf) : Type 0 where
    pub part : ℕ
    pub within : part_within m (Some type) (map number_in one.path) ≡ Some part
    pub of : IsTypeOf whole one.shape part
    pub sized : IsSized one.shape
    pub few : length one.path ≤ room

  -- ---- whole values

  -- A value of this type may be loaded and stored as it is: it is in no block.
  abbrev pub Moves : Option ℕ → ℕ → Type 0
  Moves None type = Unit {0}
  Moves (Some class) type = (is_block_class class ≡ false) × (is_moved m (record { class = class; pointee = type }) ≡ true)

  -- An id is the type of an array or struct of the program, which is declared.
  pub record IsComposite (s : Flow) (t : Ty) (type : ℕ) : Type 0 where
    pub composite : shape_of t ≡ None
    pub same : IsTypeFor whole main local_size rank f s.place t type
    pub declared : IsValueType s.sections type

  -- A value of a program's type, whose type in the module is this one, may be read there. It takes holders of these types: what is in a block
  -- and is no scalar and no vector is read leaf by leaf, by way of a holder.
  pub data IsGot (s : Flow) (structs : List StructType) (t : Ty) (spot : Spot) (type : ℕ) : List ℕ → Type 0 where
    in_shape : {shape : Shape} → shape_of t ≡ Some shape → spot.shape ≡ Some shape → IsPlain whole main local_size rank f shape type → IsGot s structs t spot type []
    as_it_is : IsComposite s t type → spot.shape ≡ None → spot.type ≡ type → Moves spot.home type → IsGot s structs t spot type []
    by_leaves : {class : ℕ} → IsComposite s t type → spot.shape ≡ None → spot.home ≡ Some class → is_block_class class ≡ true → AllByRecursion (HasLeaf class spot.may spot.type spot.room) (leaves_of structs t)
        → AllByRecursion (HasLeaf storage_class.FUNCTION both type spot.room) (leaves_of structs t) → IsGot s structs t spot type (type ∷ [])

  -- It may be stored there. In a value that is in no variable nothing is stored.
  pub data IsPut (s : Flow) (structs : List StructType) (t : Ty) (spot : Spot) (type : ℕ) : Type 0 where
    in_shape : {shape : Shape} → shape_of t ≡ Some shape → spot.shape ≡ Some shape → IsPlain whole main local_size rank f shape type → IsPut s structs t spot type
    as_it_is : IsComposite s t type → spot.shape ≡ None → spot.type ≡ type → Moves spot.home type → IsPut s structs t spot type
    by_leaves : {class : ℕ} → IsComposite s t type → spot.shape ≡ None → spot.home ≡ Some class → is_block_class class ≡ true → AllByRecursion (HasLeaf class spot.may spot.type spot.room) (leaves_of structs t)
        → AllByRecursion (GivesLeaf type spot.room) (leaves_of structs t) → IsPut s structs t spot type
