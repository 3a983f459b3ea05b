-- Words of 32 bits, the whole numbers that they stand for, and their bits.
use Rattle.std.specs.Prelude.{ℕ, zero, suc, ◌+◌, ◌*◌, ◌^◌, ℤ, pos, Bool, true, false, unsigned_abs}
use Rattle.std.specs.Int.{w32, cast_signed, int_rem_euclid}

-- the whole number that a word stands for: an int in two's complement where the flag is true, else a uint
abbrev pub value : Bool → ℕ → ℤ
value true a = cast_signed w32 a
value false a = pos a

-- the word that is left of a whole number: its rest modulo 2^32
abbrev pub word_of : ℤ → ℕ
word_of z = unsigned_abs (int_rem_euclid z (pos (2 ^ 32)))

-- the number that has bit i of `bit` for each i below a count, and no other bits
unfoldable pub of_bits : (ℕ → ℕ) → ℕ → ℕ
of_bits bit zero = 0
of_bits bit (suc k) = bit k * 2 ^ k + of_bits bit k

-- the word of those bits
abbrev pub word_of_bits : (ℕ → ℕ) → ℕ
word_of_bits bit = of_bits bit 32

-- the word of a bool
abbrev pub word_of_bool : Bool → ℕ
word_of_bool true = 1
word_of_bool false = 0
