-- What bytes end as that are lent in two parts.
use Rattle.std.specs.Prelude.{◌≡◌, ℕ, List, ◌++◌, ⊤}
use mathlib.Core.Option.{none}
use Rattle.std.specs.Borrow.{LendsBoth, MutBor, Fml, Array, u8, follows_so}

-- The bytes end as those of the first part, and behind them those of the second.
abbrev pub LendsParts : MutBor (List ℕ) → MutBor (List ℕ) → MutBor (List ℕ) → Fml
LendsParts bytes first second = LendsBoth (Array u8 0) (Array u8 0) (Array u8 0) bytes (first, second) ◌++◌

-- The bytes end as these.
abbrev pub EndsAt : MutBor (List ℕ) → List ℕ → Fml
EndsAt bytes last = follows_so (Array u8 0) (Array u8 0) bytes.ghost_name none (λ _ _. ⊤) (λ n. n ≡ last)
