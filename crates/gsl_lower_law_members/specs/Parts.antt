-- The parts of what is of a type, where it lies in a block.
use Rattle.std.specs.Prelude.{ℕ, ◌≡◌, Bool, List}
use Rattle.gsl_types.specs.declared.ty.StructType.{StructType}
use Rattle.gsl_types.specs.declared.ty.Ty.{Ty}
use Rattle.gsl_layout.specs.Layout.{Layout, Array, Runtime}
use Rattle.gsl_layout.specs.Measures.{measure}
use Rattle.gsl_tree.specs.Laying.{rule_of}
use Rattle.gsl_tree.specs.Operations.{length_of}

-- the layout of what is of a type in a block, by whether that is std140
abbrev pub laid_as : Bool → List StructType → Ty → Layout
laid_as std140 structs ty = (measure (rule_of std140) structs ty).laid

-- An array lies as one of as many elements as its type tells, or as a runtime array.
pub data IsRow (std140 : Bool) (structs : List StructType) (ty element : Ty) (l : Layout) : Type 0 where
  counted : (stride : ℕ) → l ≡ Array stride (length_of ty) (laid_as std140 structs element) → IsRow std140 structs ty element l
  endless : (stride : ℕ) → length_of ty ≡ 0 → l ≡ Runtime stride (laid_as std140 structs element) → IsRow std140 structs ty element l
