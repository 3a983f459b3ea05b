-- Values as their words stand in bytes, in words of which each is one call of the code.
use Rattle.std.specs.Prelude.{ℕ, ◌+◌, ◌*◌, List, map}
use Rattle.std.specs.List.{range_with_len}
use Rattle.gsl_layout.specs.Layout.{Layout, members_of}
use Rattle.gsl_views.specs.Seen.{seen, seen_part}
use Rattle.gsl_values.specs.declared.value.Value.{Value}
use Rattle.gsl_values.specs.declared.value.Value.TheVariants.{Word}
use Rattle.gsl_tree.specs.Values.{of_components}
use Rattle.gsl_words.specs.Words.{word_at}
use Rattle.gsl_meaning.specs.Blocks.{value_of}

-- words one behind the other
unfoldable pub words_from : ℕ → ℕ → List ℕ → List Value
words_from count at bytes = map (λ i. Word (word_at bytes (at + 4 * i))) (range_with_len 0 count)

-- the scalar of one word, or the vector of several
unfoldable pub run_at : ℕ → ℕ → List ℕ → Value
run_at count at bytes = of_components (map (λ i. word_at bytes (at + 4 * i)) (range_with_len 0 count))

-- what a layout shows at a place
unfoldable pub read_at : Layout → ℕ → List ℕ → Value
read_at layout at bytes = value_of (seen layout at bytes)

-- so many elements, one stride behind the other
unfoldable pub elements_at : Layout → ℕ → ℕ → ℕ → List ℕ → List Value
elements_at element stride count at bytes = map (λ i. read_at element (at + stride * i) bytes) (range_with_len 0 count)

-- so many members of a group
unfoldable pub members_at : Layout → ℕ → ℕ → List ℕ → List Value
members_at layout count at bytes = map (λ i. value_of (seen_part (members_of layout) at bytes i)) (range_with_len 0 count)
