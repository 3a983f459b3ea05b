-- Whether two types are one.
use Rattle.std.specs.Prelude.{Bool, true, false, ◌&&◌, nat_eq}
use Rattle.gsl_types.specs.declared.ty.Scalar.{Scalar}
use Rattle.gsl_types.specs.declared.ty.Scalar.TheVariants.{Bool as Boolean, Int, Uint}
use Rattle.gsl_types.specs.declared.ty.Ty.{Ty}
use Rattle.gsl_types.specs.declared.ty.Ty.TheOpen.{Ty-F}
use Rattle.gsl_types.specs.declared.ty.Ty.TheViews.{out-Ty}
use Rattle.gsl_types.specs.declared.ty.Ty.TheFolds.{fold-Ty}

abbrev pub identical_scalar : Scalar → Scalar → Bool
identical_scalar Boolean Boolean = true
identical_scalar Int Int = true
identical_scalar Uint Uint = true
identical_scalar _ _ = false

-- one layer of each; of the first, what is identical with its element
abbrev pub identical_layer : Ty-F (Ty → Bool) → Ty-F Ty → Bool
identical_layer Ty-F.Void Ty-F.Void = true
identical_layer (Ty-F.One s) (Ty-F.One t) = identical_scalar s t
identical_layer (Ty-F.Vector s n) (Ty-F.Vector t m) = nat_eq n m && identical_scalar s t
identical_layer (Ty-F.Array is_element n) (Ty-F.Array element m) = nat_eq n m && is_element element
identical_layer (Ty-F.Runtime is_element) (Ty-F.Runtime element) = is_element element
identical_layer (Ty-F.Struct i) (Ty-F.Struct j) = nat_eq i j
identical_layer _ _ = false

-- whether two types are one
abbrev pub identical : Ty → Ty → Bool
identical = fold-Ty (Ty → Bool) (λ layer other. identical_layer layer (out-Ty other))
