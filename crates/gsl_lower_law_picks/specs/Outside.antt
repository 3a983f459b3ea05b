-- Parts of values in variables that are there or not, and components that are picked by a word that is out of bounds (GLSL 4.50, 5.5 and 5.7).
use Rattle.std.specs.Prelude.{ℕ, ◌<◌, ◌≤◌, ◌⊎◌, List, [], ◌∷◌, length, Option, Some, None}
use Rattle.std.specs.List.{AllByRecursion}
use Rattle.gsl_values.specs.declared.value.Value.{Value}
use Rattle.gsl_tree.specs.Operations.{member_value}
use Rattle.gsl_tree.specs.Values.{parts_in}
use Rattle.gsl_machine.specs.State.{Ids}
use Rattle.gsl_lower_places.specs.declared.reached.Part.{Part}
use Rattle.gsl_lower_places.specs.declared.reached.Picked.{Picked}
use Rattle.gsl_lower_law_places.specs.Components.{Chooses}

-- ---- paths in values

-- A value has the part to which words lead.
abbrev pub HasPart : Value → List ℕ → Type 0
HasPart v [] = Unit {0}
HasPart v (word ∷ words) = (word < length (parts_in v)) × HasPart (member_value v word) words

-- One of the words is not below the count of parts where it leads on.
abbrev pub LacksPart : Value → List ℕ → Type 0
LacksPart v [] = ⊥
LacksPart v (word ∷ words) = (length (parts_in v) ≤ word) ⊎ ((word < length (parts_in v)) × LacksPart (member_value v word) words)

-- ---- components

-- Positions are those of components of a shape; where a component is picked by a word, each is the first of that component.
abbrev pub ArePositions : ℕ → Option Part → List ℕ → Type 0
ArePositions count None positions = AllByRecursion (λ position. position < count) positions
ArePositions count (Some part) positions = AllByRecursion (λ position. position < 1) positions

-- One component at least is picked of a scalar or vector of the shape, by whatever word.
pub record CanPick (p : Picked) : Type 0 where
  pub some : 1 ≤ length p.positions
  pub within : ArePositions p.shape.1 p.by p.positions

-- A component of a vector is picked by a word that is not below the count of components.
pub record PicksOutside (ids : Ids) (p : Picked) (word : ℕ) : Type 0 where
  pub by_word : Chooses ids p.by (Some word)
  pub several : 2 ≤ p.shape.1
  pub outside : p.shape.1 ≤ word
  pub can : CanPick p
