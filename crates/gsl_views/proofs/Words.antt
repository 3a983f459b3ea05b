-- Words in bytes.
use Rattle.std.proofs.Common.{◌≡◌, ℕ, ◌+◌, ◌*◌, List, get_or, arith}
use Rattle.gsl_words.specs.Words.{word_at}

pub word_is : (bytes : List ℕ) (at : ℕ) → word_at bytes at ≡ get_or bytes at 0 + get_or bytes (at + 1) 0 * 256 + get_or bytes (at + 2) 0 * 65536 + get_or bytes (at + 3) 0 * 16777216
unfolding word_at
word_is bytes at = omega arith
