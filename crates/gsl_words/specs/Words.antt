-- Words of 32 bits in bytes, the least byte first.
use Rattle.std.specs.Prelude.{ℕ, ◌+◌, ◌/◌, ◌%◌, List, set, slice_index}
use Rattle.gsl_instr.specs.Strings.{word_of}

-- the word of the four bytes from an offset on
unfoldable pub word_at : List ℕ → ℕ → ℕ
word_at bytes at = word_of (slice_index bytes at) (slice_index bytes (at + 1)) (slice_index bytes (at + 2)) (slice_index bytes (at + 3))

-- the bytes with these four changed to those of a word
unfoldable pub put_word : List ℕ → ℕ → ℕ → List ℕ
put_word bytes at word =
    set (set (set (set bytes at (word % 256)) (at + 1) (word / 256 % 256)) (at + 2) (word / 65536 % 256)) (at + 3) (word / 16777216 % 256)
