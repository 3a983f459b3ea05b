-- The buffers of a run, and the words of a block in the bytes of its buffer.
use Rattle.std.specs.Prelude.{ℕ, ◌+◌, ◌*◌, Bool, ◌==◌, ◌&&◌, if◌then◌else◌, List, [], ◌∷◌, map, Option, Some, None}
use Rattle.std.specs.List.{range_with_len}
use Rattle.gsl_base.specs.declared.input.Buffer.{Buffer}
use Rattle.gsl_words.specs.Words.{word_at, put_word}

-- whether a buffer is the one at this set and binding
abbrev pub is_at : ℕ → ℕ → Buffer → Bool
is_at set binding buffer = buffer.set == set && buffer.binding == binding

-- the bytes of the buffer at a set and binding, if one is given
abbrev pub bytes_at : List Buffer → ℕ → ℕ → Option (List ℕ)
bytes_at [] set binding = None
bytes_at (buffer ∷ buffers) set binding = if is_at set binding buffer then Some buffer.bytes else bytes_at buffers set binding

-- the buffers with other bytes in the one at a set and binding
abbrev pub with_bytes : List Buffer → ℕ → ℕ → List ℕ → List Buffer
with_bytes [] set binding bytes = []
with_bytes (buffer ∷ buffers) set binding bytes =
    if is_at set binding buffer then record buffer { bytes = bytes } ∷ buffers else buffer ∷ with_bytes buffers set binding bytes

-- where the word of a member of the block begins: the members are `int`s, one after the other (GLSL 4.50, 4.4.5)
abbrev pub word_offset : ℕ → ℕ
word_offset i = 4 * i

-- the words of a block of so many members in the bytes of its buffer
abbrev pub seen : ℕ → List ℕ → List ℕ
seen members bytes = map (λ i. word_at bytes (word_offset i)) (range_with_len 0 members)

-- the bytes with each of these words put, the first of them that of member `i`
abbrev pub put_words : ℕ → List ℕ → List ℕ → List ℕ
put_words i [] bytes = bytes
put_words i (word ∷ words) bytes = put_words (i + 1) words (put_word bytes (word_offset i) word)
