-- How deep calls nest from each function on, told no further than 65: a table by heads, made again from itself.
use Rattle.std.specs.Prelude.{◌≡◌, ℕ, ◌+◌, nat_le, List, [], ◌∷◌, length, map, max, min, slice_index}
use Rattle.std.specs.List.{range_with_len}
use Rattle.gsl_tree.specs.declared.unit.Function.{Function}
use Rattle.gsl_link_calls.specs.Calls.{called_by, nest}

-- how deep calls of these heads nest, their own call among them, where a table tells it of each
abbrev pub deepest : List ℕ → List ℕ → ℕ
deepest old [] = 0
deepest old (head ∷ heads) = max (min 65 (1 + slice_index old head)) (deepest old heads)

-- the table made again
abbrev pub made_again : List Function → List ℕ → List ℕ
made_again functions old = map (λ head. deepest old (called_by functions head)) (range_with_len 0 (length old))

-- The rows tell of each function whether calls nest deeper than they may.
abbrev pub TellDepths : List ℕ → List Function → Type 0
TellDepths rows functions = (head : ℕ) → nat_le 65 (slice_index rows head) ≡ nest functions 65 head
