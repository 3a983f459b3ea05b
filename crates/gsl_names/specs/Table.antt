-- The table of names: one stack of declarations, the last on top, of which each knows the one that it hides.
use Rattle.std.specs.Prelude.{ℕ, ◌+◌, List, [], ◌∷◌, length, take, drop, Option, Some, None, if◌then◌else◌}
use Rattle.std.specs.Str.{bytes_eq}
use Rattle.gsl_names.specs.Scopes.{Declared, Scopes}

-- the place of the last declaration of a name: how many declarations stand below it
abbrev pub latest : List Declared → List ℕ → Option ℕ
latest [] name = None
latest (declared ∷ below) name = if bytes_eq declared.0 name then Some (length below) else latest below name

-- for each declaration the place of the one that it hides, if there is one
abbrev pub hides : List Declared → List (Option ℕ)
hides [] = []
hides (declared ∷ below) = latest below declared.0 ∷ hides below

-- the scopes of so many declarations each, the innermost first
abbrev pub cut : List ℕ → List Declared → Scopes
cut [] all = []
cut (count ∷ counts) all = take count all ∷ cut counts (drop count all)

-- the sum of the counts of scopes
abbrev pub together : List ℕ → ℕ
together [] = 0
together (count ∷ counts) = count + together counts
