-- Operators that give the same word with and without a sign.
use Rattle.std.proofs.Common.{◌≡◌, refl, sym, ap, ap₂, ◌∙◌, ℕ, suc, ◌+◌, ◌-◌, ◌*◌, ◌%◌, ◌^◌, ◌<◌, Bool, true, false, List, ◌⊎◌, inl, inr, nat_lt, arith}
use Rattle.std.specs.Prelude.{ℤ, pos, negsuc, neg_ℤ, ◌+ℤ◌, ◌-ℤ◌, ◌*ℤ◌, unsigned_abs}
use Rattle.std.specs.Int.{w32, cast_unsigned, int_wrap}
use Rattle.std.proofs.lemmas.Int.{ints, of_z-to_z, int_rem_euclid_is, wrapping_mul-bits}
use Rattle.std.proofs.lemmas.Nat.{mod_below}
use Rattle.std.proofs.Math.Nat.{add-mul, mul_comm}
use Rattle.gsl_values.specs.declared.op.BinaryOp.{BinaryOp}
use Rattle.gsl_values.specs.declared.op.BinaryOp.TheVariants.{Add, Sub, Mul, Div, Mod, Shl, Shr, And, Or, Xor, Less, LessEq, Greater, GreaterEq, Equal, Unequal}
use Rattle.gsl_values.specs.Word.{value, word_of}
use Rattle.gsl_values.specs.Operators.{binary_answer, binary_word, is_free}
use Rattle.gsl_values.specs.Choices.{answer}

-- an int is its word, or that less 2^32
value_cases : (a : ℕ) → a < 4294967296 → (value true a ≡ pos a) ⊎ ((n : ℕ) × (value true a ≡ negsuc n) × (a + suc n ≡ 4294967296))
value_cases a h = split (nat_lt a 2147483648) refl
  where
    split : (b : Bool) → nat_lt a 2147483648 ≡ b → (value true a ≡ pos a) ⊎ ((n : ℕ) × (value true a ≡ negsuc n) × (a + suc n ≡ 4294967296))
    split true e = inl (rw e refl)
    split false e = inr (4294967296 - suc a, rw e refl, omega arith)

-- what is a natural number less a multiple of 2^32
word_less : (z : ℤ) (k n : ℕ) → z +ℤ pos (k * 4294967296) ≡ pos n → word_of z ≡ n % 4294967296
word_less z k n e = ap unsigned_abs (int_rem_euclid_is z (pos 4294967296) 4294967296 k n (omega arith) refl e)

sum_signed : (a b : ℕ) → a < 4294967296 → b < 4294967296 → word_of (value true a +ℤ value true b) ≡ (a + b) % 4294967296
sum_signed a b h k = by (value_cases a h) (value_cases b k)
  where
    by : (value true a ≡ pos a) ⊎ ((n : ℕ) × (value true a ≡ negsuc n) × (a + suc n ≡ 4294967296)) → (value true b ≡ pos b) ⊎ ((n : ℕ) × (value true b ≡ negsuc n) × (b + suc n ≡ 4294967296))
        → word_of (value true a +ℤ value true b) ≡ (a + b) % 4294967296
    by (inl x) (inl y) = rw (x, y) refl
    by (inl x) (inr y) = rw (x, y.1) (word_less (pos a +ℤ negsuc y.0) 1 (a + b) (omega (arith, ints, y.2)))
    by (inr x) (inl y) = rw (x.1, y) (word_less (negsuc x.0 +ℤ pos b) 1 (a + b) (omega (arith, ints, x.2)))
    by (inr x) (inr y) = rw (x.1, y.1) (word_less (negsuc x.0 +ℤ negsuc y.0) 2 (a + b) (omega (arith, ints, x.2, y.2)))

difference_unsigned : (a b : ℕ) → a < 4294967296 → b < 4294967296 → word_of (pos a -ℤ pos b) ≡ (a + (4294967296 - b)) % 4294967296
difference_unsigned a b h k = word_less (pos a -ℤ pos b) 1 (a + (4294967296 - b)) (omega (arith, ints))

difference_signed : (a b : ℕ) → a < 4294967296 → b < 4294967296 → word_of (value true a -ℤ value true b) ≡ word_of (pos a -ℤ pos b)
difference_signed a b h k = by (value_cases a h) (value_cases b k)
  where
    by : (value true a ≡ pos a) ⊎ ((n : ℕ) × (value true a ≡ negsuc n) × (a + suc n ≡ 4294967296)) → (value true b ≡ pos b) ⊎ ((n : ℕ) × (value true b ≡ negsuc n) × (b + suc n ≡ 4294967296))
        → word_of (value true a -ℤ value true b) ≡ word_of (pos a -ℤ pos b)
    by (inl x) (inl y) = rw (x, y) refl
    by (inl x) (inr y) = rw (x, y.1) (word_less (pos a -ℤ negsuc y.0) 0 (a + (4294967296 - b)) (omega (arith, ints, y.2)) ∙ sym (difference_unsigned a b h k))
    by (inr x) (inl y) = rw (x.1, y) (word_less (negsuc x.0 -ℤ pos b) 2 (a + (4294967296 - b)) (omega (arith, ints, x.2)) ∙ sym (difference_unsigned a b h k))
    by (inr x) (inr y) = rw (x.1, y.1) (word_less (negsuc x.0 -ℤ negsuc y.0) 1 (a + (4294967296 - b)) (omega (arith, ints, x.2, y.2)) ∙ sym (difference_unsigned a b h k))

word_below : (z : ℤ) → word_of z < 4294967296
word_below (pos n) = omega arith
word_below (negsuc n) = omega arith

product_signed : (a b : ℕ) → a < 4294967296 → b < 4294967296 → word_of (value true a *ℤ value true b) ≡ a * b % 4294967296
unfolding int_wrap
product_signed a b h k =
    sym (of_z-to_z w32 (word_of (value true a *ℤ value true b)) (word_below (value true a *ℤ value true b)))
    ∙ ap (cast_unsigned w32) (sym (wrapping_mul-bits w32 a b h k))
    ∙ of_z-to_z w32 (a * b % 4294967296) (mod_below (a * b) 4294967296 (omega arith))

word_negated : (p q k : ℕ) → p + q ≡ k * 4294967296 → word_of (neg_ℤ (pos p)) ≡ q % 4294967296
word_negated p q k e = ap unsigned_abs (int_rem_euclid_is (neg_ℤ (pos p)) (pos 4294967296) 4294967296 k q (omega arith) refl (omega (arith, ints)))

multiple_signed : (a m : ℕ) → a < 4294967296 → word_of (value true a *ℤ pos m) ≡ a * m % 4294967296
multiple_signed a m h = by (value_cases a h)
  where
    by : (value true a ≡ pos a) ⊎ ((n : ℕ) × (value true a ≡ negsuc n) × (a + suc n ≡ 4294967296)) → word_of (value true a *ℤ pos m) ≡ a * m % 4294967296
    by (inl e) = rw e refl
    by (inr w) = rw w.1 (word_negated (suc w.0 * m) (a * m) m (sym (add-mul (suc w.0) a m) ∙ ap (λ x. x * m) (omega (arith, w.2)) ∙ mul_comm 4294967296 m))

-- an operator that takes a sign into account
abbrev pub signed_operator : BinaryOp → Bool
signed_operator Div = true
signed_operator Mod = true
signed_operator Shr = true
signed_operator Less = true
signed_operator LessEq = true
signed_operator Greater = true
signed_operator GreaterEq = true
signed_operator _ = false

free_alike : (op : BinaryOp) (a b : ℕ) → signed_operator op ≡ false → is_free op true a b ≡ is_free op false a b
free_alike Add a b e = refl
free_alike Sub a b e = refl
free_alike Mul a b e = refl
free_alike Div a b e = absurd cc
free_alike Mod a b e = absurd cc
free_alike Shl a b e = refl
free_alike Shr a b e = absurd cc
free_alike And a b e = refl
free_alike Or a b e = refl
free_alike Xor a b e = refl
free_alike Less a b e = refl
free_alike LessEq a b e = refl
free_alike Greater a b e = refl
free_alike GreaterEq a b e = refl
free_alike Equal a b e = refl
free_alike Unequal a b e = refl

word_alike : (op : BinaryOp) (a b : ℕ) → a < 4294967296 → b < 4294967296 → signed_operator op ≡ false → binary_word op true a b ≡ binary_word op false a b
word_alike Add a b h k e = sum_signed a b h k
word_alike Sub a b h k e = difference_signed a b h k
word_alike Mul a b h k e = product_signed a b h k
word_alike Div a b h k e = absurd cc
word_alike Mod a b h k e = absurd cc
word_alike Shl a b h k e = multiple_signed a (2 ^ b) h
word_alike Shr a b h k e = absurd cc
word_alike And a b h k e = refl
word_alike Or a b h k e = refl
word_alike Xor a b h k e = refl
word_alike Less a b h k e = absurd cc
word_alike LessEq a b h k e = absurd cc
word_alike Greater a b h k e = absurd cc
word_alike GreaterEq a b h k e = absurd cc
word_alike Equal a b h k e = refl
word_alike Unequal a b h k e = refl

pub answer_alike : (op : BinaryOp) (a b : ℕ) (choices : List ℕ) → a < 4294967296 → b < 4294967296 → signed_operator op ≡ false → binary_answer op true a b choices ≡ binary_answer op false a b choices
unfolding binary_answer
answer_alike op a b choices h k e = ap₂ (λ f w. answer f w choices) (free_alike op a b e) (word_alike op a b h k e)
