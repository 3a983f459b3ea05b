-- The heights of structs as they are kept beside them.
use Rattle.std.specs.Prelude.{◌≡◌, ℕ, List, slice_index_or}
use Rattle.gsl_types.specs.declared.ty.StructType.{StructType}
use Rattle.gsl_types.specs.declared.ty.Ty.TheVariants as ty
use Rattle.gsl_tree.specs.Weights.{height_of}

-- The height of each struct stands at its number; of one that is not there it is 0.
abbrev pub AreHeights : List StructType → List ℕ → Type 0
AreHeights structs heights = (number : ℕ) → slice_index_or heights number 0 ≡ height_of structs (ty.Struct number)
