-- What bytes hold, seen through a layout.
use Rattle.std.specs.Prelude.{ℕ, zero, suc, ◌+◌, ◌-◌, ◌*◌, ◌/◌, ◌==◌, nat_lt, if◌then◌else◌, List, [], ◌∷◌, length, map, set}
use Rattle.std.specs.List.{range_with_len}
use Rattle.gsl_layout.specs.Layout.{Layout, Leaf, Array, Runtime, Group, Parts, End, Part}
use Rattle.gsl_layout.specs.Kinds.{part_count}
use Rattle.gsl_words.specs.Words.{word_at}

-- The words of a run of components, or so many parts by their numbers, with nothing at the numbers behind them.
pub data Tree : Type 0 where
  Words : List ℕ → Tree
  Many : ℕ → (ℕ → Tree) → Tree

abbrev pub nothing : Tree
nothing = Words []

-- so many parts
abbrev pub row : ℕ → (ℕ → Tree) → Tree
row count part = Many count (λ i. if nat_lt i count then part i else nothing)

-- what stands at a place; a runtime array has as many elements as whole strides fit behind its offset
abbrev mutual
  pub seen : Layout → ℕ → List ℕ → Tree
  seen (Leaf components) at bytes = Words (map (λ c. word_at bytes (at + 4 * c)) (range_with_len 0 components))
  seen (Array stride count element) at bytes = row count (λ i. seen element (at + stride * i) bytes)
  seen (Runtime stride element) at bytes = row ((length bytes - at) / stride) (λ i. seen element (at + stride * i) bytes)
  seen (Group members all) at bytes = Many (part_count members) (seen_part members at bytes)

  -- a member of a group that stands at a place
  pub seen_part : Parts → ℕ → List ℕ → ℕ → Tree
  seen_part End at bytes i = nothing
  seen_part (Part offset layout rest) at bytes zero = seen layout (at + offset) bytes
  seen_part (Part offset layout rest) at bytes (suc i) = seen_part rest at bytes i

-- a part of a tree
abbrev pub child : Tree → ℕ → Tree
child (Words words) i = nothing
child (Many count parts) i = parts i

-- how many parts a tree has
abbrev pub count_of : Tree → ℕ
count_of (Words words) = 0
count_of (Many count parts) = count

-- the words of a run
abbrev pub words_of : Tree → List ℕ
words_of (Words words) = words
words_of (Many count parts) = []

-- a tree with one word of one leaf changed; the path leads to the leaf part by part
abbrev pub changed : Tree → List ℕ → ℕ → ℕ → Tree
changed (Words words) path c word = Words (set words c word)
changed (Many count parts) [] c word = Many count parts
changed (Many count parts) (i ∷ path) c word = Many count (λ j. if j == i then changed (parts j) path c word else parts j)
