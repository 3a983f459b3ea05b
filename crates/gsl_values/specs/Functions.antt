-- What one component of a built-in function gives (GLSL 4.50, 8.3, 8.7 and 8.8), and where the language leaves it open.
use Rattle.std.specs.Prelude.{ℕ, zero, suc, ◌+◌, ◌-◌, ℤ, pos, negsuc, ◌+ℤ◌, Bool, true, false, not, ◌&&◌, ◌||◌, ◌==◌, nat_lt, nat_le, int_lt, int_le, unsigned_abs, if◌then◌else◌, List, slice_index}
use Rattle.std.specs.Int.{bit_at, int_min, int_max, int_signum, is_negative}
use Rattle.gsl_values.specs.declared.function.Builtin.{Builtin}
use Rattle.gsl_values.specs.declared.function.Builtin.TheVariants.{Abs, Sign, Min, Max, Clamp, Mix, LessThan, LessThanEqual, GreaterThan, GreaterThanEqual, Equal, NotEqual, Any, All, Not, BitCount, FindLsb, FindMsb, BitfieldReverse, BitfieldExtract, BitfieldInsert}
use Rattle.gsl_values.specs.Word.{value, word_of, word_of_bits, word_of_bool}
use Rattle.gsl_values.specs.Choices.{answer}

-- how many of the bits of a word below a position are 1
unfoldable pub ones_below : ℕ → ℕ → ℕ
ones_below a zero = 0
ones_below a (suc k) = ones_below a k + bit_at a k

-- the first of so many positions from one on at which a test holds, or -1
unfoldable pub lowest : (ℕ → Bool) → ℕ → ℕ → ℤ
lowest test from zero = negsuc 0
lowest test from (suc count) = if test from then pos from else lowest test (from + 1) count

-- the highest position below one at which a test holds, or -1
unfoldable pub highest : (ℕ → Bool) → ℕ → ℤ
highest test zero = negsuc 0
highest test (suc k) = if test k then pos k else highest test k

-- the bit that all bits above the number have: that of the sign of an int, and 0 of a uint
abbrev pub sign_bit : Bool → ℕ → ℕ
sign_bit true a = bit_at a 31
sign_bit false a = 0

-- Offset and count of a bit field are ints. A field is left open where one of them is negative or their sum is more than 32.
abbrev pub is_free_field : ℕ → ℕ → Bool
is_free_field offset bits = is_negative (value true offset) || is_negative (value true bits) || int_lt (pos 32) (value true offset +ℤ value true bits)

-- bit i of a bit field: a bit of the word, and above the field a copy of the highest bit of the field, if there is one, or 0 where it is a uint
abbrev pub extracted_bit : Bool → ℕ → ℕ → ℕ → ℕ → ℕ
extracted_bit signed a offset bits i =
    if nat_lt i bits then bit_at a (offset + i) else if signed && nat_lt 0 bits then bit_at a (offset + bits - 1) else 0

-- bit i of a word into which the lowest bits of another are put
abbrev pub inserted_bit : ℕ → ℕ → ℕ → ℕ → ℕ → ℕ
inserted_bit base insert offset bits i =
    if nat_le offset i && nat_lt i (offset + bits) then bit_at insert (i - offset) else bit_at base i

-- where the language leaves the result open, by the arguments behind the first
abbrev pub is_free_call : Builtin → ℕ → ℕ → ℕ → Bool
is_free_call BitfieldExtract b c d = is_free_field b c
is_free_call BitfieldInsert b c d = is_free_field c d
is_free_call _ b c d = false

-- The word that a function gives for one component of each of its arguments where the result is not left open. Of `any` and `all`
-- one component gives whether it is true.
abbrev pub builtin_word : Builtin → Bool → ℕ → ℕ → ℕ → ℕ → ℕ
builtin_word Abs signed a b c d = word_of (pos (unsigned_abs (value signed a)))
builtin_word Sign signed a b c d = word_of (int_signum (value signed a))
builtin_word Min signed a b c d = word_of (int_min (value signed a) (value signed b))
builtin_word Max signed a b c d = word_of (int_max (value signed a) (value signed b))
builtin_word Clamp signed a b c d = word_of (int_min (int_max (value signed a) (value signed b)) (value signed c))
builtin_word Mix signed a b c d = if c == 0 then a else b
builtin_word LessThan signed a b c d = word_of_bool (int_lt (value signed a) (value signed b))
builtin_word LessThanEqual signed a b c d = word_of_bool (int_le (value signed a) (value signed b))
builtin_word GreaterThan signed a b c d = word_of_bool (int_lt (value signed b) (value signed a))
builtin_word GreaterThanEqual signed a b c d = word_of_bool (int_le (value signed b) (value signed a))
builtin_word Equal signed a b c d = word_of_bool (a == b)
builtin_word NotEqual signed a b c d = word_of_bool (not (a == b))
builtin_word Any signed a b c d = word_of_bool (not (a == 0))
builtin_word All signed a b c d = word_of_bool (not (a == 0))
builtin_word Not signed a b c d = word_of_bool (a == 0)
builtin_word BitCount signed a b c d = ones_below a 32
builtin_word FindLsb signed a b c d = word_of (lowest (λ i. bit_at a i == 1) 0 32)
builtin_word FindMsb signed a b c d = word_of (highest (λ i. not (bit_at a i == sign_bit signed a)) 32)
builtin_word BitfieldReverse signed a b c d = word_of_bits (λ i. bit_at a (31 - i))
builtin_word BitfieldExtract signed a b c d = word_of_bits (extracted_bit signed a b c)
builtin_word BitfieldInsert signed a b c d = word_of_bits (inserted_bit a b c d)

-- What a function gives for one component of each of its arguments, and the choices that are left.
unfoldable pub builtin_answer : Builtin → Bool → List ℕ → List ℕ → ℕ × List ℕ
builtin_answer which signed args choices =
    let a = slice_index args 0 in
    let b = slice_index args 1 in
    let c = slice_index args 2 in
    let d = slice_index args 3 in
    answer (is_free_call which b c d) (builtin_word which signed a b c d) choices
