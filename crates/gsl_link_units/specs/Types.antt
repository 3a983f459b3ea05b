-- Types of many units: whether two types are one, and the numbers of their structs.
use Rattle.std.specs.Prelude.{ℕ, Bool, true, false, ◌&&◌, nat_eq, List, slice_index}
use Rattle.gsl_types.specs.declared.ty.Ty.{Ty}
use Rattle.gsl_types.specs.declared.ty.Ty.TheOpen.{Ty-F}
use Rattle.gsl_types.specs.declared.ty.Ty.TheFolds.{fold-Ty}
use Rattle.gsl_types.specs.declared.ty.Ty.TheViews.{out-Ty}
use Rattle.gsl_types.specs.declared.ty.Ty.TheVariants as ty
use Rattle.gsl_tree.specs.Shapes.{same_scalar}

-- one layer of each of two types; of the first, what is one with its element
abbrev pub same_layer : Ty-F (Ty → Bool) → Ty-F Ty → Bool
same_layer Ty-F.Void Ty-F.Void = true
same_layer (Ty-F.One s) (Ty-F.One t) = same_scalar s t
same_layer (Ty-F.Vector s n) (Ty-F.Vector t m) = nat_eq n m && same_scalar s t
same_layer (Ty-F.Array is_element n) (Ty-F.Array element m) = nat_eq n m && is_element element
same_layer (Ty-F.Runtime is_element) (Ty-F.Runtime element) = is_element element
same_layer (Ty-F.Struct i) (Ty-F.Struct j) = nat_eq i j
same_layer _ _ = false

-- whether two types are one, where their structs are those of one list
abbrev pub same_type : Ty → Ty → Bool
same_type = fold-Ty (Ty → Bool) (λ layer other. same_layer layer (out-Ty other))

-- The new number of what a unit has under a number.
abbrev pub new_number : List ℕ → ℕ → ℕ
new_number numbers number = slice_index numbers number

abbrev pub retyped_layer : List ℕ → Ty-F Ty → Ty
retyped_layer numbers Ty-F.Void = ty.Void
retyped_layer numbers (Ty-F.One s) = ty.One s
retyped_layer numbers (Ty-F.Vector s n) = ty.Vector s n
retyped_layer numbers (Ty-F.Array element n) = ty.Array element n
retyped_layer numbers (Ty-F.Runtime element) = ty.Runtime element
retyped_layer numbers (Ty-F.Struct number) = ty.Struct (new_number numbers number)

-- a type with the new numbers of its structs
abbrev pub retyped : List ℕ → Ty → Ty
retyped numbers = fold-Ty Ty (retyped_layer numbers)
