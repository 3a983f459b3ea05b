-- What is left of a list of bytes behind a word that it begins with.
use Rattle.std.specs.Prelude.{ℕ, ◌==◌, List, [], ◌∷◌, Option, Some, None, if◌then◌else◌}

-- the bytes behind the word, if they begin with it
abbrev pub after : List ℕ → List ℕ → Option (List ℕ)
after [] bytes = Some bytes
after (w ∷ word) [] = None
after (w ∷ word) (b ∷ bytes) = if b == w then after word bytes else None
