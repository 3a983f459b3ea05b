-- What is read where an expression leads to a scalar or vector: the instructions that are put for it, and the id of its value (SPIR-V 1.0, 3.32.8).
use Rattle.std.specs.Prelude.{ℕ, ◌==◌, if◌then◌else◌, List, [], ◌∷◌, ◌++◌, map, Option, Some, None}
use Rattle.gsl_instr.specs.declared.op.TheConstants as op
use Rattle.gsl_types.specs.declared.ty.Scalar.{Scalar}
use Rattle.gsl_types.specs.declared.ty.Scalar.TheVariants.{Int}
use Rattle.gsl_tree.specs.Shapes.{Shape}
use Rattle.gsl_spv.specs.Calls as call
use Rattle.gsl_spv.specs.declared.plain.PlainType.TheVariants as plain
use Rattle.gsl_lower_values.specs.Building.{Step, ◌>>=◌, given, giving, id_by, in_order}
use Rattle.gsl_lower_values.specs.Constructors.{operand, picked}
use Rattle.gsl_lower_values.specs.Operators.{converted}
use Rattle.gsl_lower_values.specs.Types.{scalar_constant, type_of}
use Rattle.gsl_lower_places.specs.declared.reached.Base.{Base}
use Rattle.gsl_lower_places.specs.declared.reached.Base.TheVariants.{Variable, Value}
use Rattle.gsl_lower_places.specs.declared.reached.Part.{Part}
use Rattle.gsl_lower_places.specs.declared.reached.Part.TheVariants.{Fixed, By}
use Rattle.gsl_lower_places.specs.declared.reached.Picked.{Picked}
use Rattle.gsl_lower_places.specs.declared.reached.Reached.{Reached}
use Rattle.gsl_lower_places.specs.Reached.{stored_shape}

-- ---- pointers

-- the id of an index: a constant, or the id that is there
unfoldable pub index : Part → Step ℕ
index (Fixed number) = scalar_constant Int number
index (By s id) = given id

abbrev pub indexes : List Part → Step (List ℕ)
indexes parts = in_order index parts

abbrev pub pointer_type : ℕ → ℕ → Step ℕ
pointer_type class pointee = id_by (call.plain_type (plain.Pointer class pointee))

-- a pointer to what parts lead to in a variable, by the type of what is there; where there are no parts, the variable's own
abbrev pub chained : ℕ → ℕ → ℕ → List Part → Step ℕ
chained id class pointee [] = given id
chained id class pointee (part ∷ parts) = indexes (part ∷ parts) >>= (λ ids. pointer_type class pointee >>= giving op.ACCESS_CHAIN (id ∷ ids))

unfoldable pub pointer : ℕ → ℕ → ℕ → List Part → Step ℕ
pointer id class pointee parts = chained id class pointee parts

-- ---- loads

-- the scalar or vector to which parts of a variable lead
unfoldable pub loaded : ℕ → ℕ → Shape → List Part → Step ℕ
loaded id class shape parts =
    type_of (stored_shape class shape) >>= (λ type. pointer id class type parts >>= (λ from. giving op.LOAD (from ∷ []) type >>= (λ v.
    converted shape.0 (operand (stored_shape class shape) v))))

-- what is picked of what is in a variable: one component alone is loaded alone
abbrev pub loaded_vector : ℕ → ℕ → Shape → List ℕ → List Part → Step ℕ
loaded_vector id class shape (position ∷ []) parts = loaded id class (shape.0, 1) (parts ++ Fixed position ∷ [])
loaded_vector id class shape positions parts = loaded id class shape parts >>= (λ v. picked (operand shape v) positions)

abbrev pub loaded_scalar : ℕ → ℕ → Scalar → List ℕ → List Part → Step ℕ
loaded_scalar id class s positions parts = loaded id class (s, 1) parts >>= (λ v. picked (operand (s, 1) v) positions)

abbrev pub loaded_by : ℕ → ℕ → Shape → Option Part → List ℕ → List Part → Step ℕ
loaded_by id class shape None positions parts = loaded_vector id class shape positions parts
loaded_by id class shape (Some by) positions parts = loaded_scalar id class shape.0 positions (parts ++ by ∷ [])

unfoldable pub loaded_picked : ℕ → ℕ → List Part → Picked → Step ℕ
loaded_picked id class parts p =
    if p.shape.1 == 1 then loaded_scalar id class p.shape.0 p.positions parts else loaded_by id class p.shape p.by p.positions parts

abbrev pub read_variable : ℕ → ℕ → List Part → Shape → Option Picked → Step ℕ
read_variable id class parts shape None = loaded id class shape parts
read_variable id class parts shape (Some p) = loaded_picked id class parts p

-- ---- parts of values

abbrev pub number_in : Part → ℕ
number_in (Fixed number) = number
number_in (By s id) = 0

-- the part of a value that known numbers lead to
unfoldable pub extracted : ℕ → ℕ → List Part → Step ℕ
extracted id type [] = given id
extracted id type (part ∷ parts) = giving op.COMPOSITE_EXTRACT (id ∷ map number_in (part ∷ parts)) type

abbrev pub extracted_shape : ℕ → Shape → List Part → Step ℕ
extracted_shape id shape parts = type_of shape >>= (λ type. extracted id type parts)

-- the component of a vector by the word of an id, as often as there are positions
abbrev pub component_by : Shape → ℕ → Part → List ℕ → Step ℕ
component_by shape id by positions =
    index by >>= (λ at_id. type_of (shape.0, 1) >>= (λ type. giving op.VECTOR_EXTRACT_DYNAMIC (id ∷ at_id ∷ []) type >>= (λ v. picked (operand (shape.0, 1) v) positions)))

abbrev pub picked_by : Shape → ℕ → Option Part → List ℕ → Step ℕ
picked_by shape id None positions = picked (operand shape id) positions
picked_by shape id (Some by) positions = component_by shape id by positions

abbrev pub extracted_picked : ℕ → List Part → Picked → Step ℕ
extracted_picked id parts p =
    extracted_shape id p.shape parts >>= (λ v. if p.shape.1 == 1 then picked (operand p.shape v) p.positions else picked_by p.shape v p.by p.positions)

abbrev pub read_value : ℕ → List Part → Shape → Option Picked → Step ℕ
read_value id parts shape None = extracted_shape id shape parts
read_value id parts shape (Some p) = extracted_picked id parts p

-- ---- what is read

abbrev pub read_from : Base → List Part → Shape → Option Picked → Step ℕ
read_from (Variable id class) parts shape p = read_variable id class parts shape p
read_from (Value id type) parts shape p = read_value id parts shape p

-- the value of a shape that is read
unfoldable pub read : Shape → Reached → Step ℕ
read shape reached = read_from reached.base reached.path shape reached.picked
