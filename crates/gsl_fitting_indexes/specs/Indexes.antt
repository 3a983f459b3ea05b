-- Indexes into what an expression leads to, and what is tested before calls.
use Rattle.std.specs.Prelude.{◌≡◌, ℕ, ◌==◌, Bool, true, false, List, [], ◌∷◌, ◌++◌, Option, Some, None, suc}
use Rattle.gsl_instr.specs.declared.enumerant.storage_class.TheConstants as storage_class
use Rattle.gsl_types.specs.declared.ty.Scalar.{Scalar}
use Rattle.gsl_types.specs.declared.ty.Scalar.TheVariants.{Uint}
use Rattle.gsl_types.specs.declared.ty.StructType.{StructType}
use Rattle.gsl_types.specs.declared.ty.Ty.{Ty}
use Rattle.gsl_tree.specs.Shapes.{Shape, is_integer, shape_of}
use Rattle.gsl_spv.specs.Sections.{Sections}
use Rattle.gsl_lower_leaves.specs.Leaves.{leaves_of}
use Rattle.gsl_lower_leaves.specs.declared.leaf.Leaf.{Leaf}
use Rattle.gsl_lower_places.specs.declared.reached.Part.{Part}
use Rattle.gsl_lower_places.specs.declared.reached.Part.TheVariants.{By, Fixed}
use Rattle.gsl_lower_holders.specs.Flow.{Flow}
use Rattle.gsl_lower_expr.specs.Parts.{Lower, scalar_of}
use Rattle.gsl_fitting.specs.Fits.{Frame}
use Rattle.gsl_fitting_types.specs.Making.{IsTypeOf}
use Rattle.gsl_fitting_places.specs.Places.{IsAmong}
use Rattle.gsl_fitting_expr.specs.Evaluating.{Evaluates}
use Rattle.gsl_fitting_reaching.specs.Reached.{Parts, Spot, Stands, part_spot}
use Rattle.gsl_fitting_reads.specs.Moving.{HasLeaf, IsGot, both}

-- An index is that of a number, or an integer of a scalar type under whatever id.
abbrev pub IsSuch : Part → Part → Type 0
IsSuch (Fixed number) (Fixed other) = other ≡ number
IsSuch (Fixed number) (By s id) = ⊥
IsSuch (By s some_id) (Fixed other) = ⊥
IsSuch (By s some_id) (By other id) = other ≡ s

-- by what the component at an index is picked
abbrev pub component_by : Part → Option (Option Scalar) → Option (Option Scalar)
component_by (Fixed number) None = Some None
component_by (Fixed number) (Some by) = Some by
component_by (By s id) None = Some (Some s)
component_by (By s id) (Some None) = Some (Some Uint)
component_by (By s id) (Some (Some other)) = Some (Some other)

-- the component of a vector
abbrev pub component_spot : Spot → Shape → Part → Spot
component_spot spot shape part = record spot { shape = Some (shape.0, 1); picked = component_by part spot.picked }

-- a holder of a value
abbrev pub holder_spot : ℕ → ℕ → Spot
holder_spot type room = record { home = Some storage_class.FUNCTION; may = both; shape = None; type = type; room = room; held = []; picked = None }

module _ (whole : Sections) (main : ℕ) (local_size : List ℕ) (rank : ℕ → ℕ) (f : Frame) where
  -- ---- what is tested

  abbrev pub HasFirst : ℕ → Spot → List Leaf → Type 0
  HasFirst class spot [] = Unit {0}
  HasFirst class spot (one ∷ more) = HasLeaf whole main local_size rank f class spot.may spot.type spot.room one

  -- What is reached is not tested, since no call follows; or it is a scalar or vector, or has a first leaf in a variable.
  pub data IsTested (structs : List StructType) (t : Ty) (spot : Spot) : Bool → Type 0 where
    no_call : IsTested structs t spot false
    in_shape : {calls : Bool} {shape : Shape} → shape_of t ≡ Some shape → spot.shape ≡ Some shape → (spot.home ≡ None → spot.may.reads ≡ true) → IsTested structs t spot calls
    by_leaf : {calls : Bool} {class : ℕ} → shape_of t ≡ None → spot.shape ≡ None → spot.home ≡ Some class → HasFirst class spot (leaves_of structs t) → IsTested structs t spot calls

  -- ---- what is put into a holder first

  -- What is indexed stays where it is, or it is an array in no variable, which is put into a holder, with holders of these types.
  pub data IsSpilled (s : Flow) (structs : List StructType) (t : Ty) (spot : Spot) : Bool → List ℕ → Spot → Type 0 where
    stays : IsSpilled s structs t spot false [] spot
    spilled : {type : ℕ} {asks : List ℕ} → shape_of t ≡ None → IsGot whole main local_size rank f s structs t spot type asks → spot.may.reads ≡ true → IsSpilled s structs t spot true (asks ++ type ∷ []) (holder_spot type spot.room)

  -- ---- indexes

  -- An index is known; or it is an integer that is computed.
  pub data IsIndexed (s : Flow) (deep : ℕ) (i : Lower) : Option ℕ → List ℕ → Part → Type 0 where
    known : {number : ℕ} → i.traits.splits ≡ false → IsIndexed s deep i (Some number) [] (Fixed number)
    computed : {type : ℕ} {asks : List ℕ} → is_integer (scalar_of i.ty) ≡ true → IsTypeOf whole (scalar_of i.ty, 1) type → Evaluates whole main local_size rank f s asks deep i.traits.splits type i.value → IsIndexed s deep i None asks (By (scalar_of i.ty) 0)

  -- It leads from an array to an element, or from a vector to a component.
  pub data LeadsBy (t : Ty) (spot : Spot) (part : Part) : Spot → Type 0 where
    element : {shape : Option Shape} {other room : ℕ} → shape_of t ≡ None → spot.shape ≡ None → spot.room ≡ suc room → Parts whole main local_size rank f spot.home spot.may spot.type part other → Stands whole main local_size rank f spot.home shape other
        → LeadsBy t spot part (part_spot whole spot part shape other room)
    component : {shape : Shape} → shape_of t ≡ Some shape → spot.shape ≡ Some shape → (shape.1 == 1) ≡ false → IsAmong shape.1 part → LeadsBy t spot part (component_spot spot shape part)
