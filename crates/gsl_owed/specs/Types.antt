-- Types of a module that stand for types of a program in a block, and where their parts lie.
use Rattle.std.specs.Prelude.{ℕ, ◌+◌, Bool, true, false, ◌==◌, ◌&&◌, List, [], ◌∷◌, Option, Some, None}
use Rattle.gsl_instr.specs.declared.enumerant.decoration.TheConstants as decoration
use Rattle.gsl_layout.specs.Layout.{Layout, Leaf, Array, Runtime, Group, Parts, End, Part}
use Rattle.gsl_types.specs.Structs.{Meaning, meaning}
use Rattle.gsl_types.specs.declared.ty.Scalar.{Scalar}
use Rattle.gsl_types.specs.declared.ty.Scalar.TheVariants.{Bool as Boolean, Int, Uint}
use Rattle.gsl_types.specs.declared.ty.StructType.{StructType}
use Rattle.gsl_types.specs.declared.ty.Ty.{Ty}
use Rattle.gsl_types.specs.declared.ty.Ty.TheOpen.{Ty-F}
use Rattle.gsl_words.specs.declared.module.Module.{Module}
use Rattle.gsl_valid.specs.Decorations.{number_on, number_on_member}
use Rattle.gsl_valid.specs.Kinds.{Shape, OfInt, OfVector, OfArray, OfRuntimeArray, OfStruct, shape_of, value_of}
use Rattle.gsl_valid.specs.Types.{Lanes, defined_as, lanes_of}

abbrev pub is_number : ℕ → Option ℕ → Bool
is_number n None = false
is_number n (Some number) = number == n

module _ (m : Module) where
  abbrev pub shape_at : ℕ → Shape
  shape_at id = shape_of (defined_as m id)

  -- ---- types

  -- a `bool` of a block is a `uint`
  abbrev pub sign_of : Scalar → ℕ
  sign_of Boolean = 0
  sign_of Int = 1
  sign_of Uint = 0

  abbrev pub is_scalar : Scalar → Shape → Bool
  is_scalar s (OfInt signedness) = signedness == sign_of s
  is_scalar s _ = false

  abbrev pub is_vector : Scalar → ℕ → Shape → Bool
  is_vector s n (OfVector component count) = is_scalar s (shape_at component) && count == n
  is_vector s n _ = false

  abbrev pub is_array : (ℕ → Bool) → ℕ → Shape → Bool
  is_array element n (OfArray type length) = element type && is_number n (value_of (defined_as m length))
  is_array element n _ = false

  abbrev pub is_runtime : (ℕ → Bool) → Shape → Bool
  is_runtime element (OfRuntimeArray type) = element type
  is_runtime element _ = false

  abbrev pub are_members : List (List ℕ × (ℕ → Bool)) → List ℕ → Bool
  are_members [] [] = true
  are_members [] (type ∷ types) = false
  are_members (member ∷ members) [] = false
  are_members (member ∷ members) (type ∷ types) = member.1 type && are_members members types

  abbrev pub is_struct : List (List ℕ × (ℕ → Bool)) → Shape → Bool
  is_struct members (OfStruct id types) = are_members members types
  is_struct members _ = false

  abbrev pub is_kind : Ty-F (ℕ → Bool) → ℕ → Bool
  is_kind Ty-F.Void id = false
  is_kind (Ty-F.One s) id = is_scalar s (shape_at id)
  is_kind (Ty-F.Vector s n) id = is_vector s n (shape_at id)
  is_kind (Ty-F.Array element n) id = is_array element n (shape_at id)
  is_kind (Ty-F.Runtime element) id = is_runtime element (shape_at id)
  is_kind (Ty-F.Struct number) id = false

  abbrev pub standing : Meaning (ℕ → Bool)
  standing = record { kind = is_kind; struct = λ name members id. is_struct members (shape_at id); none = λ id. false }

  -- whether a type of the module stands for one of a program in a block
  abbrev pub stands_for : List StructType → Ty → ℕ → Bool
  stands_for structs ty = meaning standing structs ty

  -- ---- offsets and strides

  abbrev pub has_size : ℕ → Option Lanes → Bool
  has_size n None = false
  has_size n (Some lanes) = lanes.size == n

  abbrev pub strides_by : ℕ → ℕ → Bool
  strides_by id stride = is_number stride (number_on m decoration.ARRAY_STRIDE id)

  abbrev pub array_lies : (ℕ → Bool) → ℕ → ℕ → ℕ → Shape → Bool
  array_lies element id stride count (OfArray type length) = strides_by id stride && is_number count (value_of (defined_as m length)) && element type
  array_lies element id stride count _ = false

  abbrev pub runtime_lies : (ℕ → Bool) → ℕ → ℕ → Shape → Bool
  runtime_lies element id stride (OfRuntimeArray type) = strides_by id stride && element type
  runtime_lies element id stride _ = false

  abbrev pub struct_lies : (List ℕ → Bool) → Shape → Bool
  struct_lies members (OfStruct id types) = members types
  struct_lies members _ = false

  -- whether each part of a type lies where a layout has it, by its decorations
  abbrev mutual
    pub lies : Layout → ℕ → Bool
    lies (Leaf components) id = has_size components (lanes_of m id)
    lies (Array stride count element) id = array_lies (λ type. lies element type) id stride count (shape_at id)
    lies (Runtime stride element) id = runtime_lies (λ type. lies element type) id stride (shape_at id)
    lies (Group members all) id = struct_lies (λ types. members_lie members id 0 types) (shape_at id)

    -- members of a struct, numbered from one on
    pub members_lie : Parts → ℕ → ℕ → List ℕ → Bool
    members_lie End id number [] = true
    members_lie End id number (type ∷ types) = false
    members_lie (Part offset layout rest) id number [] = false
    members_lie (Part offset layout rest) id number (type ∷ types) =
        is_number offset (number_on_member m decoration.OFFSET id number) && lies layout type && members_lie rest id (number + 1) types
