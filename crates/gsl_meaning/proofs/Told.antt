-- What the words of a block's leaves tell, by the type.
use Rattle.std.proofs.Common.{◌≡◌, ap, ℕ, List, map}
use Rattle.gsl_types.specs.Structs.{numbered}
use Rattle.gsl_types.specs.declared.ty.Scalar.{Scalar}
use Rattle.gsl_types.specs.declared.ty.StructType.{StructType}
use Rattle.gsl_types.specs.declared.ty.Ty.{Ty}
use Rattle.gsl_types.specs.declared.ty.Ty.TheVariants as ty
use Rattle.gsl_types.proofs.Layers.{over_one, over_vector, over_array, over_runtime, over_struct}
use Rattle.gsl_values.specs.declared.value.Value.{Value}
use Rattle.gsl_values.specs.declared.value.Value.TheVariants.{Many}
use Rattle.gsl_tree.specs.Values.{parts_in}
use Rattle.gsl_meaning.specs.Accesses.{told, told_meaning, told_scalar}

module _ (structs : List StructType) where
  abbrev known : ℕ → Value → Value
  known = numbered told_meaning structs

  pub told_one : (s : Scalar) (v : Value) → told structs (ty.One s) v ≡ told_scalar s v
  told_one s v = ap (λ f. f v) (over_one told_meaning known s)

  pub told_vector : (s : Scalar) (n : ℕ) (v : Value) → told structs (ty.Vector s n) v ≡ Many (map (told_scalar s) (parts_in v))
  told_vector s n v = ap (λ f. f v) (over_vector told_meaning known s n)

  pub told_array : (e : Ty) (n : ℕ) (v : Value) → told structs (ty.Array e n) v ≡ Many (map (told structs e) (parts_in v))
  told_array e n v = ap (λ f. f v) (over_array told_meaning known e n)

  pub told_runtime : (e : Ty) (v : Value) → told structs (ty.Runtime e) v ≡ Many (map (told structs e) (parts_in v))
  told_runtime e v = ap (λ f. f v) (over_runtime told_meaning known e)

  pub told_struct : (k : ℕ) (v : Value) → told structs (ty.Struct k) v ≡ numbered told_meaning structs k v
  told_struct k v = ap (λ f. f v) (over_struct told_meaning known k)

pub ruleset told_step = (told_one, told_vector, told_array, told_runtime, told_struct)
