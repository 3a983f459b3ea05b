-- What an expression leads to, in ids, and the parts of it (GLSL 4.50, 5.5 and 5.7).
use Rattle.std.specs.Prelude.{ℕ, Bool, ◌==◌, ◌||◌, if◌then◌else◌, List, [], ◌∷◌, ◌++◌, map, length, slice_index, Option, Some, None}
use Rattle.gsl_instr.specs.declared.op.TheConstants as op
use Rattle.gsl_instr.specs.declared.enumerant.storage_class.TheConstants as storage_class
use Rattle.gsl_types.specs.declared.ty.Scalar.{Scalar}
use Rattle.gsl_types.specs.declared.ty.Scalar.TheVariants.{Bool as Boolean, Int, Uint}
use Rattle.gsl_tree.specs.Shapes.{Shape}
use Rattle.gsl_lower_values.specs.Building.{Step, ◌>>=◌, given, giving}
use Rattle.gsl_lower_values.specs.Types.{type_of, vector_constant}
use Rattle.gsl_lower_places.specs.declared.reached.Base.{Base}
use Rattle.gsl_lower_places.specs.declared.reached.Base.TheVariants.{Value}
use Rattle.gsl_lower_places.specs.declared.reached.Part.{Part}
use Rattle.gsl_lower_places.specs.declared.reached.Part.TheVariants.{Fixed, By}
use Rattle.gsl_lower_places.specs.declared.reached.Picked.{Picked}
use Rattle.gsl_lower_places.specs.declared.reached.Reached.{Reached}

abbrev pub whole : Base → Reached
whole base = record { base = base; path = []; picked = None }

-- a value in no variable, whose type has this id
abbrev pub loose : ℕ → ℕ → Reached
loose id type = whole (Value id type)

-- the member or element of a number
abbrev pub part_of : Reached → Part → Reached
part_of reached part = record reached { path = reached.path ++ part ∷ [] }

-- ---- components

abbrev pub with_picked : Reached → Picked → Reached
with_picked reached picked = record reached { picked = Some picked }

abbrev pub picking : Shape → Option Part → List ℕ → Picked
picking shape by positions = record { shape = shape; by = by; positions = positions }

-- a swizzle of a swizzle picks of the positions that are picked
abbrev pub swizzled_of : Shape → List ℕ → Option Picked → Picked
swizzled_of shape positions None = picking shape None positions
swizzled_of shape positions (Some before) = record before { positions = map (slice_index before.positions) positions }

-- a swizzle of what is of a shape
unfoldable pub swizzled : Shape → List ℕ → Reached → Reached
swizzled shape positions reached = with_picked reached (swizzled_of shape positions reached.picked)

-- The component of a vector at an index.
abbrev pub component_of : Shape → Part → Picked
component_of shape (Fixed position) = picking shape None (position ∷ [])
component_of shape (By s id) = picking shape (Some (By s id)) (0 ∷ [])

-- The component of a swizzle at an index that is computed: the position is taken from those that are picked, which strays where the index is
-- out of bounds. Where one component is picked several times, it is that component.
abbrev pub repicked : Option Part → ℕ → Option Part
repicked None id = Some (By Uint id)
repicked (Some by) id = Some by

abbrev pub position_by : List ℕ → ℕ → Step ℕ
position_by positions id =
    vector_constant (Uint, length positions) positions >>= (λ table. type_of (Uint, 1) >>= giving op.VECTOR_EXTRACT_DYNAMIC (table ∷ id ∷ []))

abbrev pub component_in : Picked → Part → Step Picked
component_in before (Fixed index) = given (record before { positions = slice_index before.positions index ∷ [] })
component_in before (By s id) = position_by before.positions id >>= (λ position. given (picking before.shape (repicked before.by position) (0 ∷ [])))

abbrev pub component_if : Shape → Part → Option Picked → Step Picked
component_if shape part None = given (component_of shape part)
component_if shape part (Some before) = component_in before part

-- the component at an index, of a vector or of a swizzle, of this shape
unfoldable pub component_at : Shape → Part → Reached → Step Reached
component_at shape part reached = component_if shape part reached.picked >>= (λ picked. given (with_picked reached picked))

-- ---- storage classes

-- whether a class is one of blocks, whose leaves are bytes
abbrev pub is_block_class : ℕ → Bool
is_block_class class = class == storage_class.UNIFORM || class == storage_class.STORAGE_BUFFER || class == storage_class.PUSH_CONSTANT

abbrev pub stored_scalar : Scalar → Scalar
stored_scalar Boolean = Uint
stored_scalar Int = Int
stored_scalar Uint = Uint

-- the shape in which a scalar or vector lies in a class: truth values of a block are numbers
abbrev pub stored_shape : ℕ → Shape → Shape
stored_shape class shape = if is_block_class class then (stored_scalar shape.0, shape.1) else shape
