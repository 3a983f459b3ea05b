-- What ids stand for, as words in slots.
use Rattle.std.specs.Prelude.{◌≡◌, ℕ, ◌+◌, ◌≤◌, List, length, take, drop, Some}
use Rattle.gsl_machine.specs.State.{Held, Ids}

-- Some words stand at a place among the slots, all of them below the top.
pub record IsHeld (slots : List ℕ) (top place : ℕ) (words : List ℕ) : Type 0 where
  pub below : place + length words ≤ top
  pub is : take (length words) (drop place slots) ≡ words

-- Each id that stands for something has the words of that at its place.
pub record Holds (words : Held → List ℕ) (place : ℕ → ℕ) (slots : List ℕ) (top : ℕ) (ids : Ids) : Type 0 where
  pub each : (id : ℕ) (held : Held) → ids id ≡ Some held → IsHeld slots top (place id) (words held)
