-- Counts that are told up to a ceiling.
use Rattle.std.specs.Prelude.{ℕ, min, List, [], ◌∷◌}

-- a count as it is told: no count is told beyond 2^20
abbrev pub up_to : ℕ → ℕ
up_to n = min n 1048576

-- items counted one after the other, behind a count
abbrev pub in_turn : {A : Type 0} → (ℕ → A → ℕ) → ℕ → List A → ℕ
in_turn add n [] = n
in_turn add n (item ∷ items) = in_turn add (add n item) items
