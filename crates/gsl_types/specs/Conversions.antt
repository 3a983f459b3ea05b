-- Implicit conversions, and components (GLSL 4.50, 4.1.10).
use Rattle.std.specs.Prelude.{ℕ, Bool, true, false, ◌&&◌, nat_eq}
use Rattle.gsl_types.specs.declared.ty.Scalar.{Scalar}
use Rattle.gsl_types.specs.declared.ty.Scalar.TheVariants.{Bool as Boolean, Int, Uint}
use Rattle.gsl_types.specs.declared.ty.Ty.{Ty}
use Rattle.gsl_types.specs.declared.ty.Ty.TheOpen.{Ty-F}
use Rattle.gsl_types.specs.declared.ty.Ty.TheViews.{out-Ty}

-- a scalar serves where its own type is needed, and an int where a uint is
abbrev pub serves : Scalar → Scalar → Bool
serves Boolean Boolean = true
serves Int Int = true
serves Int Uint = true
serves Uint Uint = true
serves _ _ = false

-- one layer of each of the two types
abbrev pub converts_open : Ty-F Ty → Ty-F Ty → Bool
converts_open (Ty-F.One s) (Ty-F.One t) = serves s t
converts_open (Ty-F.Vector s n) (Ty-F.Vector t m) = nat_eq n m && serves s t
converts_open _ _ = false

-- whether a value of the first type serves where the second is needed
abbrev pub converts : Ty → Ty → Bool
converts from to = converts_open (out-Ty from) (out-Ty to)

abbrev pub components_open : Ty-F Ty → ℕ
components_open (Ty-F.One s) = 1
components_open (Ty-F.Vector s n) = n
components_open _ = 0

-- the count of components, 0 for what is neither a scalar nor a vector
abbrev pub components : Ty → ℕ
components ty = components_open (out-Ty ty)
