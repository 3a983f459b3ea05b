-- Heights of types, layer by layer.
use Rattle.std.proofs.Common.{◌≡◌, ◌+◌, ℕ, List}
use Rattle.gsl_types.specs.declared.ty.Scalar.{Scalar}
use Rattle.gsl_types.specs.declared.ty.StructType.{StructType}
use Rattle.gsl_types.specs.declared.ty.Ty.{Ty}
use Rattle.gsl_types.specs.declared.ty.Ty.TheVariants as ty
use Rattle.gsl_types.specs.Structs.{numbered}
use Rattle.gsl_types.proofs.Layers.{over_void, over_one, over_vector, over_array, over_runtime}
use Rattle.gsl_tree.specs.Weights.{height_meaning, height_of}

module _ (structs : List StructType) where
  pub of_void : height_of structs ty.Void ≡ 1
  of_void = over_void height_meaning (numbered height_meaning structs)

  pub of_one : (s : Scalar) → height_of structs (ty.One s) ≡ 1
  of_one s = over_one height_meaning (numbered height_meaning structs) s

  pub of_vector : (s : Scalar) (n : ℕ) → height_of structs (ty.Vector s n) ≡ 1
  of_vector s n = over_vector height_meaning (numbered height_meaning structs) s n

  pub of_array : (e : Ty) (n : ℕ) → height_of structs (ty.Array e n) ≡ 1 + height_of structs e
  of_array e n = over_array height_meaning (numbered height_meaning structs) e n

  pub of_runtime : (e : Ty) → height_of structs (ty.Runtime e) ≡ 1 + height_of structs e
  of_runtime e = over_runtime height_meaning (numbered height_meaning structs) e

pub ruleset layers = (of_void, of_one, of_vector, of_array, of_runtime)
