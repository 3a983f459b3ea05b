-- The components of vectors that are picked by their positions or by a word (GLSL 4.50, 5.5).
use Rattle.std.specs.Prelude.{ℕ, ◌<◌, ◌≤◌, List, [], ◌∷◌, map, length, slice_index, Option, Some, None}
use Rattle.std.specs.List.{AllByRecursion}
use Rattle.gsl_base.specs.declared.input.Input.{Input}
use Rattle.gsl_words.specs.declared.module.Module.{Module}
use Rattle.gsl_values.specs.declared.value.Value.{Value}
use Rattle.gsl_values.specs.declared.value.Value.TheVariants.{Word}
use Rattle.gsl_tree.specs.Values.{components_in, of_components}
use Rattle.gsl_lower_law_constructors.specs.OfMachine.{Ids, Pointer, State}
use Rattle.gsl_lower_places.specs.declared.reached.Part.{Part}
use Rattle.gsl_lower_places.specs.declared.reached.Picked.{Picked}
use Rattle.gsl_lower_law_places.specs.Leading.{HoldsValue, LeadsTo, Numbers}

-- the component that a position picks: the one of a word, where there is one
abbrev pub chosen : Option ℕ → ℕ → ℕ
chosen None position = position
chosen (Some number) position = number

-- what is picked of a scalar or vector
abbrev pub picks_of : Value → Option ℕ → List ℕ → Value
picks_of v by positions = of_components (map (λ position. slice_index (components_in v) (chosen by position)) positions)

-- What a component is picked by is this word, where it is picked by one.
abbrev pub Chooses : Ids → Option Part → Option ℕ → Type 0
Chooses ids None None = Unit {0}
Chooses ids None (Some word) = ⊥
Chooses ids (Some part) None = ⊥
Chooses ids (Some part) (Some word) = Numbers ids part word

-- Positions and a word are those of components of a shape; where there is a word, each position is the first of that component.
abbrev pub AreWithin : ℕ → Option ℕ → List ℕ → Type 0
AreWithin count None positions = AllByRecursion (λ position. position < count) positions
AreWithin count (Some word) positions = (word < count) × AllByRecursion (λ position. position < 1) positions

-- One component at least is picked of a scalar or vector of the shape, by this word or none.
pub record Picks (ids : Ids) (p : Picked) (by : Option ℕ) : Type 0 where
  pub by_word : Chooses ids p.by by
  pub some : 1 ≤ length p.positions
  pub within : AreWithin p.shape.1 by p.positions

-- A pointer leads to a scalar or vector, and to each of its components where it has several.
pub record HoldsComponents (m : Module) (input : Input) (state : State) (to : Pointer) (v : Value) : Type 0 where
  pub all : HoldsValue m input state to v
  pub each : (number : ℕ) → 2 ≤ length (components_in v) → number < length (components_in v) → (one : Pointer) × LeadsTo m input state to (number ∷ []) one × HoldsValue m input state one (Word (slice_index (components_in v) number))
