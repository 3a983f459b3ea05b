-- Where a part of a variable stands among the words of all variables.
use Rattle.std.specs.Prelude.{ℕ, ◌+◌, ◌<◌, List, [], ◌∷◌, length, take, slice_index_or}
use Rattle.gsl_values.specs.declared.value.Value.{Value}
use Rattle.gsl_values.specs.declared.value.Value.TheVariants.{Word}
use Rattle.gsl_tree.specs.Operations.{member_value}
use Rattle.gsl_tree.specs.Values.{parts_in}
use Rattle.gsl_region.specs.Flat.{flat_all}

-- Each number of a path is one of a part.
abbrev pub LeadsIn : Value → List ℕ → Type 0
LeadsIn v [] = Unit {0}
LeadsIn v (number ∷ path) = (number < length (parts_in v)) × LeadsIn (member_value v number) path

-- how many words of a value stand in front of the part to which a path leads
unfoldable pub in_front : Value → List ℕ → ℕ
in_front v [] = 0
in_front v (number ∷ path) = length (flat_all (take number (parts_in v))) + in_front (member_value v number) path

-- how many words of all variables stand in front of the part of one of them
abbrev pub place : List Value → ℕ → List ℕ → ℕ
place variables number path = length (flat_all (take number variables)) + in_front (slice_index_or variables number (Word 0)) path
