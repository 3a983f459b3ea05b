-- What is drawn where the language leaves a result open.
use Rattle.std.specs.Prelude.{ℕ, Bool, List, [], ◌∷◌, if◌then◌else◌}

-- the first choice that is left, or 0 where none is
abbrev pub drawn : List ℕ → ℕ
drawn [] = 0
drawn (word ∷ rest) = word

-- the choices that are left behind it
abbrev pub undrawn : List ℕ → List ℕ
undrawn [] = []
undrawn (word ∷ rest) = rest

-- What an operation gives, and the choices that are left: where it is free, one is drawn, and otherwise it gives its word.
abbrev pub answer : Bool → ℕ → List ℕ → ℕ × List ℕ
answer free word choices = if free then (drawn choices, undrawn choices) else (word, choices)
