-- The types of a program as they lie in blocks: an Offset for each member of a struct and an ArrayStride for each array, where a layout has them
-- (SPIR-V 1.0, 2.16.2 and 3.20).
use Rattle.std.specs.Prelude.{ℕ, ◌+◌, List, [], ◌∷◌, map, slice_get, Option, Some, None}
use Rattle.gsl_instr.specs.declared.enumerant.decoration.TheConstants as decoration
use Rattle.gsl_layout.specs.Layout.{Layout, Leaf, Array, Runtime, Group, Parts, End, Part}
use Rattle.gsl_types.specs.declared.ty.Member.{Member}
use Rattle.gsl_types.specs.declared.ty.Scalar.TheVariants.{Uint}
use Rattle.gsl_types.specs.declared.ty.StructType.{StructType}
use Rattle.gsl_types.specs.declared.ty.Ty.{Ty}
use Rattle.gsl_types.specs.declared.ty.Ty.TheOpen.{Ty-F}
use Rattle.gsl_types.specs.declared.ty.Ty.TheViews.{out-Ty}
use Rattle.gsl_tree.specs.Shapes.{Shape, shape_of}
use Rattle.gsl_spv.specs.Calls as call
use Rattle.gsl_lower_values.specs.Building.{Step, ◌>>=◌, given, id_by}
use Rattle.gsl_lower_values.specs.Types.{scalar_constant, type_of}
use Rattle.gsl_lower_places.specs.Reached.{stored_scalar}
use Rattle.gsl_lower_types.specs.Declaring.{decorated}
use Rattle.gsl_lower_types.specs.Known.{Put, aside, lacking, once}

-- ---- decorations

-- each member of a struct, numbered from one on, with the offset at which it stands
unfoldable pub offsets : ℕ → ℕ → Parts → Step (Unit {0})
offsets id number End = given tt
offsets id number (Part offset layout rest) = decorated id (Some number) decoration.OFFSET (Some offset) >>= (λ done. offsets id (number + 1) rest)

-- ---- one type over its parts

-- a scalar or vector: a truth value is a number
abbrev pub stored_as : Option Shape → Put ℕ
stored_as None known = lacking
stored_as (Some shape) known = aside (type_of (stored_scalar shape.0, shape.1)) known

-- so many elements, one stride behind the other
abbrev pub array_by : ℕ → ℕ → ℕ → Step ℕ
array_by stride element count = scalar_constant Uint count >>= (λ length. id_by (call.array_type element length (Some stride)))

-- an array, or a runtime array
abbrev pub strided : ℕ → (Ty → Put ℕ) → Ty-F Ty → Put ℕ
strided stride element (Ty-F.Array t count) known = element t known >>= (λ e. aside (array_by stride e.0 count) e.1)
strided stride element (Ty-F.Runtime t) known = element t known >>= (λ e. aside (id_by (call.runtime_type e.0 stride)) e.1)
strided stride element _ known = lacking

-- a struct of members at their offsets
abbrev pub struct_by : Parts → List ℕ → Step ℕ
struct_by parts members = id_by (call.struct_type members) >>= (λ id. offsets id 0 parts >>= (λ done. given id))

abbrev pub grouped : Parts → Put (List ℕ) → Put ℕ
grouped parts members known = members known >>= (λ r. aside (struct_by parts r.0) r.1)

abbrev pub types_of : List Member → List Ty
types_of members = map (λ (member : Member). member.ty) members

abbrev pub types_in : Option StructType → List Ty
types_in None = []
types_in (Some struct) = types_of struct.members

abbrev pub parts_layer : List StructType → Ty-F Ty → List Ty
parts_layer structs (Ty-F.Struct number) = types_in (slice_get structs number)
parts_layer structs _ = []

-- the types of the members of a struct
abbrev pub member_types : List StructType → Ty → List Ty
member_types structs t = parts_layer structs (out-Ty t)

-- ---- every type

abbrev mutual
  -- The type that lies as a layout says. By one rule a type has one layout, and is put once.
  pub type_laid : List StructType → Layout → Ty → Put ℕ
  type_laid structs (Leaf components) t = stored_as (shape_of t)
  type_laid structs (Array stride count element) t = once t (strided stride (type_laid structs element) (out-Ty t))
  type_laid structs (Runtime stride element) t = once t (strided stride (type_laid structs element) (out-Ty t))
  type_laid structs (Group members all) t = once t (grouped members (types_laid structs members (member_types structs t)))

  -- those of members, in their order
  pub types_laid : List StructType → Parts → List Ty → Put (List ℕ)
  types_laid structs End types known = given ([], known)
  types_laid structs (Part offset layout rest) [] known = lacking
  types_laid structs (Part offset layout rest) (t ∷ types) known = type_laid structs layout t known >>= (λ r. types_laid structs rest types r.1 >>= (λ rs. given (r.0 ∷ rs.0, rs.1)))

-- a type that is not there yet, and is no scalar and no vector
unfoldable pub anew : List StructType → Layout → Ty → Put ℕ
anew structs (Leaf components) t = λ known. lacking
anew structs (Array stride count element) t = strided stride (type_laid structs element) (out-Ty t)
anew structs (Runtime stride element) t = strided stride (type_laid structs element) (out-Ty t)
anew structs (Group members all) t = grouped members (types_laid structs members (member_types structs t))
