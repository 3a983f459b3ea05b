-- Components that are put into bytes.
use Rattle.std.specs.Prelude.{ℕ, ◌+◌, ◌*◌, List, ◌∷◌}
use Rattle.gsl_words.specs.Words.{put_word}

-- the bytes with words put at some positions of the vector at an offset, one after the other, where each component has four bytes; where a
-- position stands several times, the last word stays
abbrev pub put_components : ℕ → List ℕ → List ℕ → List ℕ → List ℕ
put_components offset (position ∷ positions) (word ∷ words) bytes = put_components offset positions words (put_word bytes (offset + 4 * position) word)
put_components offset _ _ bytes = bytes
