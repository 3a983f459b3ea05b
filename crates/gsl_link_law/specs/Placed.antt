-- Where the structs of a unit stand in the list of joined structs.
use Rattle.std.specs.Prelude.{◌≡◌, ℕ, ◌<◌, List, [], ◌∷◌, length, slice_get, Some}
use Rattle.gsl_types.specs.declared.ty.StructType.{StructType}
use Rattle.gsl_tree.specs.declared.unit.TypedUnit.{TypedUnit}
use Rattle.gsl_link_units.specs.Types.{new_number}
use Rattle.gsl_link_units.specs.Structs.{retyped_struct}

-- A struct of the name and the members of another stands in a list under a number.
pub record IsAt (joined : List StructType) (number : ℕ) (s : StructType) : Type 0 where
  pub struct : StructType
  pub there : slice_get joined number ≡ Some struct
  pub name : struct.name ≡ s.name
  pub members : struct.members ≡ s.members

-- Each of the first structs of a unit stands under its new number, with the types of its members by the new numbers.
abbrev pub ArePlaced : List StructType → List StructType → List ℕ → Type 0
ArePlaced structs joined numbers = (k : ℕ) (s : StructType) → k < length numbers → slice_get structs k ≡ Some s → IsAt joined (new_number numbers k) (retyped_struct numbers s)

-- All structs of a unit have new numbers, and stand there.
pub record IsPlaced (joined : List StructType) (numbers : List ℕ) (unit : TypedUnit) : Type 0 where
  pub count : length numbers ≡ length unit.structs
  pub placed : ArePlaced unit.structs joined numbers

-- each unit has its new numbers
abbrev pub AllPlaced : List StructType → List (List ℕ) → List TypedUnit → Type 0
AllPlaced joined [] [] = Unit {0}
AllPlaced joined (numbers ∷ rest) (unit ∷ units) = IsPlaced joined numbers unit × AllPlaced joined rest units
AllPlaced joined _ _ = ⊥
