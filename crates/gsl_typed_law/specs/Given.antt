-- What operations give, where they may draw choices.
use Rattle.std.specs.Prelude.{◌≡◌, ℕ, ◌^◌, ◌<◌, true, List}
use Rattle.std.specs.List.{AllByRecursion}
use Rattle.gsl_types.specs.declared.ty.StructType.{StructType}
use Rattle.gsl_types.specs.declared.ty.Ty.{Ty}
use Rattle.gsl_tree.specs.Operations.{Given}
use Rattle.gsl_tree.specs.Values.{is_value_of}

-- Choices are words of 32 bits: each may stand for an integer.
abbrev pub AreChoices : List ℕ → Type 0
AreChoices = AllByRecursion (λ choice. choice < 2 ^ 32)

-- A value of a type is given, and the choices that are left are words as well.
pub record Gives (structs : List StructType) (ty : Ty) (given : Given) : Type 0 where
  pub typed : is_value_of structs ty given.0 ≡ true
  pub left : AreChoices given.1
