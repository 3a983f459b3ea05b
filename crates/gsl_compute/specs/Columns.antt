-- The arguments of a built-in function, component by component.
use Rattle.std.specs.Prelude.{ℕ, List, [], ◌∷◌, slice_index_or}
use Rattle.gsl_tree.specs.Operations.{component_at}

-- a component of one argument, 0 where there is no such argument
abbrev pub entry : List (List ℕ) → ℕ → ℕ → ℕ
entry rows row k = component_at k (slice_index_or rows row [])

-- a component of each of four arguments
abbrev pub column : List (List ℕ) → ℕ → List ℕ
column rows k = entry rows 0 k ∷ entry rows 1 k ∷ entry rows 2 k ∷ entry rows 3 k ∷ []
