-- Operators and built-in functions give words on words.
use Rattle.std.proofs.Common.{unsigned_abs, ℕ, zero, suc, ◌+◌, ◌-◌, ◌^◌, ◌≤◌, ◌<◌, ◌%◌, min, max, ℤ, pos, negsuc, List, [], ◌∷◌, slice_index, Bool, true, false, ◌&&◌, ◌==◌, nat_lt, nat_le, arith, if◌then◌else◌}
use Rattle.std.specs.Int.{bit_at}
use Rattle.std.proofs.Math.Nat.{pow-suc}
use Rattle.std.proofs.lemmas.Nat.{mul-add-lt}
use Rattle.std.proofs.lemmas.Nat.Bits.{bit_at-lt}
use Rattle.gsl_values.specs.Word.{value, word_of, of_bits, word_of_bits, word_of_bool}
use Rattle.gsl_values.specs.Choices.{drawn, undrawn, answer}
use Rattle.gsl_values.specs.Operators.{unary_word, binary_word, is_free, binary_answer}
use Rattle.gsl_values.specs.Functions.{ones_below, extracted_bit, inserted_bit, is_free_call, builtin_word, builtin_answer}
use Rattle.gsl_values.specs.Vectors.{binary_each}
use Rattle.gsl_values.specs.declared.op.UnaryOp.{UnaryOp}
use Rattle.gsl_values.specs.declared.op.UnaryOp.TheVariants.{Negate, Flip, Not as Opposite}
use Rattle.gsl_values.specs.declared.op.BinaryOp.{BinaryOp}
use Rattle.gsl_values.specs.declared.op.BinaryOp.TheVariants as op
use Rattle.gsl_values.specs.declared.function.Builtin.{Builtin}
use Rattle.gsl_values.specs.declared.function.Builtin.TheVariants as f
use Rattle.gsl_check_law.specs.Labels.{AreWords}

abbrev IsWord : ℕ → Type 0
IsWord w = w < 2 ^ 32

-- ---- words of bits and of truth values

word_below : (z : ℤ) → IsWord (word_of z)
word_below (pos n) = omega arith
word_below (negsuc n) = omega arith

truth_below : (b : Bool) → IsWord (word_of_bool b)
truth_below true = omega arith
truth_below false = omega arith

bits_below : (bit : ℕ → ℕ) (k : ℕ) → ((i : ℕ) → bit i < 2) → of_bits bit k < 2 ^ k
unfolding of_bits
bits_below bit zero each = omega arith
bits_below bit (suc k) each = rw pow-suc (mul-add-lt (bit k) (2 ^ k) (of_bits bit k) 2 (each k) (bits_below bit k each))

of_bits_word : (bit : ℕ → ℕ) → ((i : ℕ) → bit i < 2) → IsWord (word_of_bits bit)
of_bits_word bit each = bits_below bit 32 each

ones_at_most : (a k : ℕ) → ones_below a k ≤ k
unfolding ones_below
ones_at_most a zero = omega arith
ones_at_most a (suc k) = let rest = ones_at_most a k in let one = bit_at-lt a k in omega (arith, rest, one)

if_word : (b : Bool) (x y : ℕ) → IsWord x → IsWord y → IsWord (if b then x else y)
if_word true x y is also = is
if_word false x y is also = also

if_bit : (b : Bool) (x y : ℕ) → x < 2 → y < 2 → (if b then x else y) < 2
if_bit true x y is also = is
if_bit false x y is also = also

extracted_below : (signed : Bool) (a offset bits i : ℕ) → extracted_bit signed a offset bits i < 2
extracted_below signed a offset bits i =
    if_bit (nat_lt i bits) (bit_at a (offset + i)) _ (bit_at-lt a (offset + i)) (if_bit (signed && nat_lt 0 bits) (bit_at a (offset + bits - 1)) 0 (bit_at-lt a (offset + bits - 1)) (omega arith))

inserted_below : (base insert offset bits i : ℕ) → inserted_bit base insert offset bits i < 2
inserted_below base insert offset bits i = if_bit (nat_le offset i && nat_lt i (offset + bits)) (bit_at insert (i - offset)) (bit_at base i) (bit_at-lt insert (i - offset)) (bit_at-lt base i)

-- ---- operators

pub unary_below : (o : UnaryOp) (a : ℕ) → IsWord (unary_word o a)
unfolding unary_word
unary_below Negate a = word_below _
unary_below Flip a = of_bits_word (λ i. 1 - bit_at a i) (λ i. omega arith)
unary_below Opposite a = truth_below _

binary_below : (o : BinaryOp) (signed : Bool) (a b : ℕ) → IsWord (binary_word o signed a b)
binary_below op.Add signed a b = word_below _
binary_below op.Sub signed a b = word_below _
binary_below op.Mul signed a b = word_below _
binary_below op.Div signed a b = word_below _
binary_below op.Mod signed a b = word_below _
binary_below op.Shl signed a b = word_below _
binary_below op.Shr signed a b = word_below _
binary_below op.And signed a b = of_bits_word (λ i. min (bit_at a i) (bit_at b i)) (λ i. let x = bit_at-lt a i in omega (arith, x))
binary_below op.Or signed a b = of_bits_word (λ i. max (bit_at a i) (bit_at b i)) (λ i. let x = bit_at-lt a i in let y = bit_at-lt b i in omega (arith, x, y))
binary_below op.Xor signed a b = of_bits_word (λ i. (bit_at a i + bit_at b i) % 2) (λ i. omega arith)
binary_below op.Less signed a b = truth_below _
binary_below op.LessEq signed a b = truth_below _
binary_below op.Greater signed a b = truth_below _
binary_below op.GreaterEq signed a b = truth_below _
binary_below op.Equal signed a b = truth_below _
binary_below op.Unequal signed a b = truth_below _

builtin_below : (which : Builtin) (signed : Bool) (a b c d : ℕ) → IsWord a → IsWord b → IsWord (builtin_word which signed a b c d)
builtin_below f.Abs signed a b c d x y = word_below (pos (unsigned_abs (value signed a)))
builtin_below f.Sign signed a b c d x y = word_below _
builtin_below f.Min signed a b c d x y = word_below _
builtin_below f.Max signed a b c d x y = word_below _
builtin_below f.Clamp signed a b c d x y = word_below _
builtin_below f.Mix signed a b c d x y = if_word (c == 0) a b x y
builtin_below f.LessThan signed a b c d x y = truth_below _
builtin_below f.LessThanEqual signed a b c d x y = truth_below _
builtin_below f.GreaterThan signed a b c d x y = truth_below _
builtin_below f.GreaterThanEqual signed a b c d x y = truth_below _
builtin_below f.Equal signed a b c d x y = truth_below _
builtin_below f.NotEqual signed a b c d x y = truth_below _
builtin_below f.Any signed a b c d x y = truth_below _
builtin_below f.All signed a b c d x y = truth_below _
builtin_below f.Not signed a b c d x y = truth_below _
builtin_below f.BitCount signed a b c d x y = let few = ones_at_most a 32 in omega (arith, few)
builtin_below f.FindLsb signed a b c d x y = word_below _
builtin_below f.FindMsb signed a b c d x y = word_below _
builtin_below f.BitfieldReverse signed a b c d x y = of_bits_word (λ i. bit_at a (31 - i)) (λ i. bit_at-lt a (31 - i))
builtin_below f.BitfieldExtract signed a b c d x y = of_bits_word (extracted_bit signed a b c) (extracted_below signed a b c)
builtin_below f.BitfieldInsert signed a b c d x y = of_bits_word (inserted_bit a b c d) (inserted_below a b c d)

-- ---- choices

abbrev pub WordGiven : ℕ × List ℕ → Type 0
WordGiven given = (given.0 < 2 ^ 32) × AreWords given.1

abbrev pub WordsGiven : List ℕ × List ℕ → Type 0
WordsGiven given = AreWords given.0 × AreWords given.1

drawn_word : (choices : List ℕ) → AreWords choices → IsWord (drawn choices)
drawn_word [] all = omega arith
drawn_word (w ∷ rest) all = all.0

undrawn_words : (choices : List ℕ) → AreWords choices → AreWords (undrawn choices)
undrawn_words [] all = tt
undrawn_words (w ∷ rest) all = all.1

answer_word : (free : Bool) (word : ℕ) (choices : List ℕ) → IsWord word → AreWords choices → WordGiven (answer free word choices)
answer_word true word choices is all = (drawn_word choices all, undrawn_words choices all)
answer_word false word choices is all = (is, all)

binary_answered : (o : BinaryOp) (signed : Bool) (a b : ℕ) (choices : List ℕ) → AreWords choices → WordGiven (binary_answer o signed a b choices)
unfolding binary_answer
binary_answered o signed a b choices all = answer_word (is_free o signed a b) (binary_word o signed a b) choices (binary_below o signed a b) all

-- ---- component by component

pub each_words : (o : BinaryOp) (signed : Bool) (xs ys choices : List ℕ) → AreWords choices → WordsGiven (binary_each o signed xs ys choices)
each_words o signed [] ys choices all = (tt, all)
each_words o signed (x ∷ xs) [] choices all = (tt, all)
each_words o signed (x ∷ xs) (y ∷ ys) choices all =
    let first = binary_answered o signed x y choices all in
    let rest = each_words o signed xs ys (binary_answer o signed x y choices).1 first.1 in
    ((first.0, rest.0), rest.1)

pub index_word : (words : List ℕ) (k : ℕ) → AreWords words → slice_index words k < 2 ^ 32
index_word [] k all = omega arith
index_word (w ∷ words) zero all = all.0
index_word (w ∷ words) (suc k) all = index_word words k all.1

pub builtin_answered : (which : Builtin) (signed : Bool) (args choices : List ℕ) → AreWords args → AreWords choices → WordGiven (builtin_answer which signed args choices)
unfolding builtin_answer
builtin_answered which signed args choices are all =
    let a = slice_index args 0 in let b = slice_index args 1 in let c = slice_index args 2 in let d = slice_index args 3 in
    answer_word (is_free_call which b c d) (builtin_word which signed a b c d) choices (builtin_below which signed a b c d (index_word args 0 are) (index_word args 1 are)) all

pub truth_word : (b : Bool) → word_of_bool b < 2 ^ 32
truth_word b = truth_below b
