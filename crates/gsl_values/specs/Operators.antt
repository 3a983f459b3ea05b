-- What the operators give (GLSL 4.50, 5.9), and where the language leaves it open.
use Rattle.std.specs.Prelude.{ℕ, ◌+◌, ◌-◌, ◌^◌, min, max, ◌%◌, ℤ, pos, negsuc, neg_ℤ, ◌+ℤ◌, ◌-ℤ◌, ◌*ℤ◌, Bool, false, not, ◌&&◌, ◌||◌, ◌==◌, nat_le, int_lt, int_le, List}
use Rattle.std.specs.Int.{bit_at, int_rem_euclid, int_div_euclid}
use Rattle.std.specs.Int.RustNames.{int_div}
use Rattle.gsl_values.specs.declared.op.UnaryOp.{UnaryOp}
use Rattle.gsl_values.specs.declared.op.UnaryOp.TheVariants.{Negate, Flip, Not}
use Rattle.gsl_values.specs.declared.op.BinaryOp.{BinaryOp}
use Rattle.gsl_values.specs.declared.op.BinaryOp.TheVariants.{Add, Sub, Mul, Div, Mod, Shl, Shr, And, Or, Xor, Less, LessEq, Greater, GreaterEq, Equal, Unequal}
use Rattle.gsl_values.specs.Word.{value, word_of, word_of_bits, word_of_bool}
use Rattle.gsl_values.specs.Choices.{answer}

-- the word that an operator gives on one word
unfoldable pub unary_word : UnaryOp → ℕ → ℕ
unary_word Negate a = word_of (neg_ℤ (pos a))
unary_word Flip a = word_of_bits (λ i. 1 - bit_at a i)
unary_word Not a = word_of_bool (a == 0)

-- A quotient and its rest are left open where the divisor is 0, and where both are ints and the least int is divided by -1.
abbrev pub is_free_quotient : Bool → ℕ → ℕ → Bool
is_free_quotient signed a b = (b == 0) || (signed && (a == 0x8000_0000) && (b == 0xffff_ffff))

-- where the language leaves the result open; a shift amount is taken as a uint
abbrev pub is_free : BinaryOp → Bool → ℕ → ℕ → Bool
is_free Div signed a b = is_free_quotient signed a b
is_free Mod signed a b = is_free_quotient signed a b
is_free Shl signed a b = nat_le 32 b
is_free Shr signed a b = nat_le 32 b
is_free _ signed a b = false

-- The rest of a division by a divisor that is not 0: what differs from x by a multiple of the divisor, has its sign and is smaller.
abbrev pub modulus : ℤ → ℤ → ℤ
modulus x (pos b) = int_rem_euclid x (pos b)
modulus x (negsuc b) = neg_ℤ (int_rem_euclid (neg_ℤ x) (neg_ℤ (negsuc b)))

-- The word that an operator gives on two words where the result is not left open. Sums, differences and products keep the low 32
-- bits. A quotient is rounded toward 0; a shift to the right is a quotient by a power of 2 that is rounded down. Of two bits, `&`
-- has the lesser, `|` the greater, and `^` whether they differ.
abbrev pub binary_word : BinaryOp → Bool → ℕ → ℕ → ℕ
binary_word Add signed a b = word_of (value signed a +ℤ value signed b)
binary_word Sub signed a b = word_of (value signed a -ℤ value signed b)
binary_word Mul signed a b = word_of (value signed a *ℤ value signed b)
binary_word Div signed a b = word_of (int_div (value signed a) (value signed b))
binary_word Mod signed a b = word_of (modulus (value signed a) (value signed b))
binary_word Shl signed a b = word_of (value signed a *ℤ pos (2 ^ b))
binary_word Shr signed a b = word_of (int_div_euclid (value signed a) (pos (2 ^ b)))
binary_word And signed a b = word_of_bits (λ i. min (bit_at a i) (bit_at b i))
binary_word Or signed a b = word_of_bits (λ i. max (bit_at a i) (bit_at b i))
binary_word Xor signed a b = word_of_bits (λ i. (bit_at a i + bit_at b i) % 2)
binary_word Less signed a b = word_of_bool (int_lt (value signed a) (value signed b))
binary_word LessEq signed a b = word_of_bool (int_le (value signed a) (value signed b))
binary_word Greater signed a b = word_of_bool (int_lt (value signed b) (value signed a))
binary_word GreaterEq signed a b = word_of_bool (int_le (value signed b) (value signed a))
binary_word Equal signed a b = word_of_bool (a == b)
binary_word Unequal signed a b = word_of_bool (not (a == b))

-- What an operator gives on two words, and the choices that are left.
unfoldable pub binary_answer : BinaryOp → Bool → ℕ → ℕ → List ℕ → ℕ × List ℕ
binary_answer op signed a b choices = answer (is_free op signed a b) (binary_word op signed a b) choices
