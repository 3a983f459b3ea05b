-- What a machine puts where it loads from variables, and where it stores in them.
use Rattle.std.specs.Prelude.{◌≡◌, ℕ, ◌+◌, ◌<◌, ◌≤◌, ◌^◌, List, [], ◌∷◌, length, take, drop, Some}
use Rattle.gsl_words.specs.declared.module.Module.{Module}
use Rattle.gsl_valid.specs.Kinds.{type_of}
use Rattle.gsl_valid.specs.Types.{defined_as}
use Rattle.gsl_region.specs.Showing.{with_words}
use Rattle.gsl_leaves.specs.Leaves.{leaves}
use Rattle.gsl_leaves.specs.Table.{most}
use Rattle.gsl_frames.specs.Frames.{place}
use Rattle.gsl_operands.specs.Operands.{stands}
use Rattle.gsl_step.specs.Machine.{Puts}
use Rattle.gsl_step.specs.declared.machine.Machine.{Machine}

-- ---- loads

-- There are so many words of variables from a place on, there is room for them where an id is given them, and places and numbers are told.
pub record HasRoomToLoad (m : Module) (now : Machine) (id from count : ℕ) : Type 0 where
  pub within : from + count ≤ length now.words
  pub room : now.standing.slots + place m id + count ≤ length now.slots
  pub places : length now.slots ≤ most
  pub number : now.standing.at + 1 < 2 ^ 32

abbrev pub PutsLoaded : Module → (type id from : ℕ) → Machine → Machine → Type 0
PutsLoaded m type id from now next =
    HasRoomToLoad m now id from (leaves m type) → Puts now (now.standing.slots + place m id) (take (leaves m type) (drop from now.words)) now.choices next

-- ---- stores

-- A machine goes on behind an instruction with words put at a place among those of variables.
pub record Stores (now : Machine) (at : ℕ) (words : List ℕ) (next : Machine) : Type 0 where
  pub standing : next.standing ≡ record now.standing { at = now.standing.at + 1 }
  pub callers : next.callers ≡ now.callers
  pub slots : next.slots ≡ now.slots
  pub variables : next.words ≡ with_words now.words at words
  pub buffers : next.buffers ≡ now.buffers
  pub left : next.choices ≡ now.choices

-- There are so many words of an operand, there is room for them from a place on among those of variables, and places and numbers are told.
pub record HasRoomToStore (m : Module) (now : Machine) (value at count : ℕ) : Type 0 where
  pub low : value < m.bound
  pub within : stands m now.standing.slots value + count ≤ length now.slots
  pub room : at + count ≤ length now.words
  pub places : length now.slots ≤ most
  pub number : now.standing.at + 1 < 2 ^ 32

abbrev pub PutsStored : Module → (value at : ℕ) → Machine → Machine → Type 0
PutsStored m value at now next =
    (type : ℕ) → type_of (defined_as m value) ≡ Some type → HasRoomToStore m now value at (leaves m type) → Stores now at (take (leaves m type) (drop (stands m now.standing.slots value) now.slots)) next

-- the first of some ids, or 0
abbrev pub first_of : List ℕ → ℕ
first_of [] = 0
first_of (id ∷ ids) = id
