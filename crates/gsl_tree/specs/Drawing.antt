-- What may draw choices and may stray.
use Rattle.std.specs.Prelude.{ℕ, List, Option, Some, None}

-- What is given, or nothing where it strays, and the choices that are left: by the choices that are there.
abbrev pub Drawing : Type 0 → Type 0
Drawing A = List ℕ → Option A × List ℕ

-- a value that draws nothing
abbrev pub given : {A : Type 0} → A → Drawing A
given a choices = (Some a, choices)

abbrev pub strays : {A : Type 0} → Drawing A
strays choices = (None, choices)

abbrev pub behind : {A B : Type 0} → Option A × List ℕ → (A → Drawing B) → Option B × List ℕ
behind (Some a, choices) next = next a choices
behind (None, choices) next = (None, choices)

-- goes on with the value, if there is one
infixl 10 ◌>>=◌
abbrev pub ◌>>=◌ : {A B : Type 0} → Drawing A → (A → Drawing B) → Drawing B
(first >>= next) choices = behind (first choices) next

-- what never strays
abbrev pub drawn : {A : Type 0} → (List ℕ → A × List ℕ) → Drawing A
drawn draw choices = (Some (draw choices).0, (draw choices).1)

-- what draws nothing and may stray
abbrev pub checked : {A : Type 0} → Option A → Drawing A
checked found choices = (found, choices)
