-- Which types of a module stand for a type of a program, by its kind.
use Rattle.std.proofs.Common.{◌≡◌, ap, ℕ, Bool, List}
use Rattle.gsl_types.specs.Structs.{numbered}
use Rattle.gsl_types.specs.declared.ty.Scalar.{Scalar}
use Rattle.gsl_types.specs.declared.ty.StructType.{StructType}
use Rattle.gsl_types.specs.declared.ty.Ty.{Ty}
use Rattle.gsl_types.specs.declared.ty.Ty.TheVariants as ty
use Rattle.gsl_types.proofs.Layers.{over_one, over_vector, over_array, over_runtime, over_struct}
use Rattle.gsl_words.specs.declared.module.Module.{Module}
use Rattle.gsl_owed.specs.Types.{is_array, is_runtime, is_scalar, is_vector, shape_at, standing, stands_for}

module _ (m : Module) (structs : List StructType) where
  abbrev known : ℕ → ℕ → Bool
  known = numbered (standing m) structs

  pub stands_one : (s : Scalar) (id : ℕ) → stands_for m structs (ty.One s) id ≡ is_scalar m s (shape_at m id)
  stands_one s id = ap (λ f. f id) (over_one (standing m) known s)

  pub stands_vector : (s : Scalar) (n id : ℕ) → stands_for m structs (ty.Vector s n) id ≡ is_vector m s n (shape_at m id)
  stands_vector s n id = ap (λ f. f id) (over_vector (standing m) known s n)

  pub stands_array : (e : Ty) (n id : ℕ) → stands_for m structs (ty.Array e n) id ≡ is_array m (stands_for m structs e) n (shape_at m id)
  stands_array e n id = ap (λ f. f id) (over_array (standing m) known e n)

  pub stands_runtime : (e : Ty) (id : ℕ) → stands_for m structs (ty.Runtime e) id ≡ is_runtime m (stands_for m structs e) (shape_at m id)
  stands_runtime e id = ap (λ f. f id) (over_runtime (standing m) known e)

  pub stands_struct : (k id : ℕ) → stands_for m structs (ty.Struct k) id ≡ known k id
  stands_struct k id = ap (λ f. f id) (over_struct (standing m) known k)

pub ruleset stands_step = (stands_one, stands_vector, stands_array, stands_runtime, stands_struct)
