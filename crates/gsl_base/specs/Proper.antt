-- Which inputs are proper.
use Rattle.std.specs.Prelude.{◌≡◌, ◌<◌, ◌≤◌, ◌⊎◌, List, [], ◌∷◌, length, ⊤}
use Rattle.std.specs.List.{AllByRecursion}
use Rattle.gsl_base.specs.declared.input.Buffer.{Buffer}
use Rattle.gsl_base.specs.declared.input.Located.{Located}
use Rattle.gsl_base.specs.declared.input.Input.{Input}

-- Each item stands before all that follow it.
abbrev pub Ascends : {X : Type 0} → (X → X → Type 0) → List X → Type 0
Ascends Before [] = ⊤
Ascends Before (x ∷ xs) = AllByRecursion (Before x) xs × Ascends Before xs

-- by set, and at one set by binding
abbrev pub StandsBefore : Buffer → Buffer → Type 0
StandsBefore a b = (a.set < b.set) ⊎ ((a.set ≡ b.set) × (a.binding < b.binding))

-- by location
abbrev pub IsLower : Located → Located → Type 0
IsLower a b = a.location < b.location

-- A value at a location has one to four words.
pub record IsComps (value : Located) : Type 0 where
  pub some : 1 ≤ length value.words
  pub most : length value.words ≤ 4

-- Buffers stand in ascending order of set and binding, and values in ascending order of location.
pub record IsProper (input : Input) : Type 0 where
  pub buffers : Ascends StandsBefore input.buffers
  pub ins : Ascends IsLower input.ins
  pub comps : AllByRecursion IsComps input.ins
