-- The words of values put into bytes, in words of which each is one call of the code.
use Rattle.std.specs.Prelude.{ℕ, zero, suc, List, map}
use Rattle.gsl_layout.specs.Layout.{Layout, Parts, End, Part}
use Rattle.gsl_values.specs.declared.value.Value.{Value}
use Rattle.gsl_tree.specs.Values.{components_in, word_in}
use Rattle.gsl_views.specs.Buffers.{put_words}
use Rattle.gsl_meaning.specs.Blocks.{put_members, put_row, put_value}

-- the words of scalars
unfoldable pub put_scalars : ℕ → List Value → List ℕ → List ℕ
put_scalars at vs bytes = put_words at (map word_in vs) bytes

-- the words of a scalar or vector
unfoldable pub put_run : ℕ → Value → List ℕ → List ℕ
put_run at v bytes = put_words at (components_in v) bytes

-- the words of a value, where a layout at a place has them
unfoldable pub put_at : Layout → ℕ → Value → List ℕ → List ℕ
put_at layout at v bytes = put_value layout at v bytes

-- the words of elements
unfoldable pub put_elements : Layout → ℕ → ℕ → List Value → List ℕ → List ℕ
put_elements element stride at vs bytes = put_row (λ place v rest. put_value element place v rest) stride at vs bytes

-- the words of members
unfoldable pub put_parts : Parts → ℕ → List Value → List ℕ → List ℕ
put_parts members at vs bytes = put_members members at vs bytes

-- the members from a number on
abbrev pub parts_from : ℕ → Parts → Parts
parts_from zero members = members
parts_from (suc n) End = End
parts_from (suc n) (Part offset layout rest) = parts_from n rest
