-- Buffers by set and binding, words that are put one behind the other, and values by location.
use Rattle.std.specs.Prelude.{ℕ, ◌+◌, Bool, nat_lt, ◌==◌, ◌&&◌, if◌then◌else◌, List, [], ◌∷◌, Option, Some, None}
use Rattle.gsl_base.specs.declared.input.Buffer.{Buffer}
use Rattle.gsl_base.specs.declared.input.Located.{Located}
use Rattle.gsl_words.specs.Words.{put_word}

-- whether a buffer is the one at this set and binding
abbrev pub is_at : ℕ → ℕ → Buffer → Bool
is_at set binding buffer = buffer.set == set && buffer.binding == binding

-- the bytes of the buffer at a set and binding, if one is given
abbrev pub bytes_at : List Buffer → ℕ → ℕ → Option (List ℕ)
bytes_at [] set binding = None
bytes_at (buffer ∷ buffers) set binding = if is_at set binding buffer then Some buffer.bytes else bytes_at buffers set binding

-- the buffers with other bytes in the one at a set and binding
abbrev pub with_bytes : List Buffer → ℕ → ℕ → List ℕ → List Buffer
with_bytes [] set binding bytes = []
with_bytes (buffer ∷ buffers) set binding bytes =
    if is_at set binding buffer then record buffer { bytes = bytes } ∷ buffers else buffer ∷ with_bytes buffers set binding bytes

-- the bytes with words put one behind the other from a place on
abbrev pub put_words : ℕ → List ℕ → List ℕ → List ℕ
put_words at [] bytes = bytes
put_words at (word ∷ words) bytes = put_words (at + 4) words (put_word bytes at word)

-- a value put among values in ascending order of location
abbrev pub put_located : Located → List Located → List Located
put_located value [] = value ∷ []
put_located value (next ∷ values) = if nat_lt value.location next.location then value ∷ next ∷ values else next ∷ put_located value values

-- values in ascending order of location
abbrev pub ascending : List Located → List Located
ascending [] = []
ascending (value ∷ values) = put_located value (ascending values)
