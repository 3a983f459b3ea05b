-- What stands at the top of a type: the types of its parts, and what puts an array or a word of it.
use Rattle.std.proofs.Common.{◌≡◌, ap, ℕ, List, []}
use Rattle.std.specs.Prelude.{slice_get, Some, None}
use Rattle.gsl_types.specs.declared.ty.Scalar.{Scalar}
use Rattle.gsl_types.specs.declared.ty.StructType.{StructType}
use Rattle.gsl_types.specs.declared.ty.Ty.{Ty}
use Rattle.gsl_types.specs.declared.ty.Ty.TheViews.{out-Ty}
use Rattle.gsl_types.specs.declared.ty.Ty.TheVariants as ty
use Rattle.gsl_types.specs.declared.ty.Ty.TheVariants.{outs-Array, outs-Runtime, outs-Struct, outs-Vector, outs-One, outs-Void}
use Rattle.gsl_spv.specs.Calls as call
use Rattle.gsl_spv.specs.Sections.{Sections}
use Rattle.gsl_lower_values.specs.Building.{Full, ◌>>=◌, id_by}
use Rattle.gsl_lower_values.specs.Types.{scalar_constant}
use Rattle.gsl_lower_types.specs.Known.{Known, Put, aside}
use Rattle.gsl_lower_types.specs.Laid.{array_by, member_types, parts_layer, strided, types_in}
use Rattle.gsl_lower_types.specs.Globals.{part_layer, part_type, word_of}

-- ---- members

module _ (structs : List StructType) where
  pub parts-Void : member_types structs ty.Void ≡ []
  parts-Void = ap (parts_layer structs) outs-Void

  pub parts-One : (x : Scalar) → member_types structs (ty.One x) ≡ []
  parts-One x = ap (parts_layer structs) (outs-One x)

  pub parts-Vector : (x : Scalar) (n : ℕ) → member_types structs (ty.Vector x n) ≡ []
  parts-Vector x n = ap (parts_layer structs) (outs-Vector x n)

  pub parts-Array : (e : Ty) (n : ℕ) → member_types structs (ty.Array e n) ≡ []
  parts-Array e n = ap (parts_layer structs) (outs-Array e n)

  pub parts-Runtime : (e : Ty) → member_types structs (ty.Runtime e) ≡ []
  parts-Runtime e = ap (parts_layer structs) (outs-Runtime e)

  pub parts-Struct : (k : ℕ) → member_types structs (ty.Struct k) ≡ types_in (slice_get structs k)
  parts-Struct k = ap (parts_layer structs) (outs-Struct k)

pub ruleset parts_step = (parts-Void, parts-One, parts-Vector, parts-Array, parts-Runtime, parts-Struct)

-- ---- elements

module _ (stride : ℕ) (put : Ty → Put ℕ) (known : Known) (s : Sections) where
  pub strided-Void : strided stride put (out-Ty ty.Void) known s ≡ Full
  strided-Void = ap (λ y. strided stride put y known s) outs-Void

  pub strided-One : (x : Scalar) → strided stride put (out-Ty (ty.One x)) known s ≡ Full
  strided-One x = ap (λ y. strided stride put y known s) (outs-One x)

  pub strided-Vector : (x : Scalar) (n : ℕ) → strided stride put (out-Ty (ty.Vector x n)) known s ≡ Full
  strided-Vector x n = ap (λ y. strided stride put y known s) (outs-Vector x n)

  pub strided-Array : (e : Ty) (n : ℕ) → strided stride put (out-Ty (ty.Array e n)) known s ≡ (put e known >>= (λ r. aside (array_by stride r.0 n) r.1)) s
  strided-Array e n = ap (λ y. strided stride put y known s) (outs-Array e n)

  pub strided-Runtime : (e : Ty) → strided stride put (out-Ty (ty.Runtime e)) known s ≡ (put e known >>= (λ r. aside (id_by (call.runtime_type r.0 stride)) r.1)) s
  strided-Runtime e = ap (λ y. strided stride put y known s) (outs-Runtime e)

  pub strided-Struct : (k : ℕ) → strided stride put (out-Ty (ty.Struct k)) known s ≡ Full
  strided-Struct k = ap (λ y. strided stride put y known s) (outs-Struct k)

pub ruleset strided_step = (strided-Void, strided-One, strided-Vector, strided-Array, strided-Runtime, strided-Struct)

-- ---- constants

module _ (word : ℕ) (known : Known) (s : Sections) where
  pub word-One : (x : Scalar) → word_of (out-Ty (ty.One x)) word known s ≡ aside (scalar_constant x word) known s
  word-One x = ap (λ y. word_of y word known s) (outs-One x)

pub ruleset word_step = (word-One)

module _ (structs : List StructType) (number : ℕ) where
  pub part-Void : part_type structs ty.Void number ≡ None
  unfolding part_type
  part-Void = ap (λ y. part_layer structs y number) outs-Void

  pub part-One : (x : Scalar) → part_type structs (ty.One x) number ≡ None
  unfolding part_type
  part-One x = ap (λ y. part_layer structs y number) (outs-One x)

  pub part-Vector : (x : Scalar) (n : ℕ) → part_type structs (ty.Vector x n) number ≡ Some (ty.One x)
  unfolding part_type
  part-Vector x n = ap (λ y. part_layer structs y number) (outs-Vector x n)

  pub part-Array : (e : Ty) (n : ℕ) → part_type structs (ty.Array e n) number ≡ Some e
  unfolding part_type
  part-Array e n = ap (λ y. part_layer structs y number) (outs-Array e n)

  pub part-Runtime : (e : Ty) → part_type structs (ty.Runtime e) number ≡ None
  unfolding part_type
  part-Runtime e = ap (λ y. part_layer structs y number) (outs-Runtime e)

  pub part-Struct : (k : ℕ) → part_type structs (ty.Struct k) number ≡ slice_get (types_in (slice_get structs k)) number
  unfolding part_type
  part-Struct k = ap (λ y. part_layer structs y number) (outs-Struct k)

pub ruleset part_step = (part-Void, part-One, part-Vector, part-Array, part-Runtime, part-Struct)
