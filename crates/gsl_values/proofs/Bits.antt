-- Words by their bits.
use Rattle.std.proofs.Common.{◌≡◌, ℕ, zero, suc, ◌+◌, ◌-◌, ◌%◌, ◌^◌, ◌<◌, sym, subst, ◌∙◌, arith, min, max, inl, inr}
use Rattle.std.specs.Prelude.{bit_and, bit_or, bit_xor}
use Rattle.std.specs.Int.{bit_at, w32}
use Rattle.std.proofs.Math.Nat.{pow-suc, sub_self}
use Rattle.std.proofs.lemmas.Bool.{cases_lt}
use Rattle.std.proofs.lemmas.Nat.{mul-add-lt, or_lt, xor_lt, and_le_l}
use Rattle.std.proofs.lemmas.Nat.Bits.{same_from_bits_below, bit_at_cat_low, bit_at_cat_high, bit_at_lowest, bit_at-lt, bit_at_and, bit_at_or, bit_at_xor, bit_at_not}
use Rattle.gsl_values.specs.Word.{of_bits, word_of_bits}

pub of_bits_below : (bit : ℕ → ℕ) (k : ℕ) → ((i : ℕ) → i < k → bit i < 2) → of_bits bit k < 2 ^ k
unfolding of_bits
of_bits_below bit zero h = omega arith
of_bits_below bit (suc k) h =
    rw pow-suc (mul-add-lt (bit k) (2 ^ k) (of_bits bit k) 2 (h k (omega arith)) (of_bits_below bit k (λ i below. h i (omega arith))))

-- each of its bits is the one that was given
pub bit_at-of_bits : (bit : ℕ → ℕ) (k : ℕ) → ((i : ℕ) → i < k → bit i < 2) → (i : ℕ) → i < k → bit_at (of_bits bit k) i ≡ bit i
unfolding of_bits
bit_at-of_bits bit zero h i below = absurd (omega arith)
bit_at-of_bits bit (suc k) h i below =
    let lower : (j : ℕ) → j < k → bit j < 2 = λ j l. h j (omega arith) in
    elim (cases_lt i k) [
      | inl low ↦ bit_at_cat_low (bit k) k (of_bits bit k) i low ∙ bit_at-of_bits bit k lower i low
      | inr high ↦
          let at : i ≡ k = omega arith in
          let last : bit k < 2 = h k (omega arith) in
          rw at (bit_at_cat_high (bit k) k (of_bits bit k) k (of_bits_below bit k lower) (omega arith) ∙ rw sub_self (bit_at_lowest (bit k) ∙ omega arith))
    ]

-- a word with these bits is the word of these bits
pub is_word_of_bits : (word : ℕ) (bit : ℕ → ℕ) → word < 2 ^ 32 → ((i : ℕ) → i < 32 → bit_at word i ≡ bit i) → word ≡ word_of_bits bit
is_word_of_bits word bit h same =
    let each : (i : ℕ) → i < 32 → bit i < 2 = λ i l. subst (λ x. x < 2) (same i l) (bit_at-lt word i) in
    same_from_bits_below 32 word (of_bits bit 32) h (of_bits_below bit 32 each) (λ i l. same i l ∙ sym (bit_at-of_bits bit 32 each i l))

-- the bits of `!a`, `a & b`, `a | b` and `a ^ b`
pub flipped_bits : (a : ℕ) → a < 2 ^ 32 → 4294967295 - a ≡ word_of_bits (λ i. 1 - bit_at a i)
flipped_bits a h = is_word_of_bits (4294967295 - a) (λ i. 1 - bit_at a i) (omega arith) (λ i l. bit_at_not w32 a i h l)

pub and_bits : (a b : ℕ) → a < 2 ^ 32 → b < 2 ^ 32 → bit_and a b ≡ word_of_bits (λ i. min (bit_at a i) (bit_at b i))
and_bits a b h k = is_word_of_bits (bit_and a b) (λ i. min (bit_at a i) (bit_at b i)) (omega (arith, and_le_l a b)) (λ i l. bit_at_and a b i)

pub or_bits : (a b : ℕ) → a < 2 ^ 32 → b < 2 ^ 32 → bit_or a b ≡ word_of_bits (λ i. max (bit_at a i) (bit_at b i))
or_bits a b h k = is_word_of_bits (bit_or a b) (λ i. max (bit_at a i) (bit_at b i)) (or_lt 32 a b h k) (λ i l. bit_at_or a b i)

pub xor_bits : (a b : ℕ) → a < 2 ^ 32 → b < 2 ^ 32 → bit_xor a b ≡ word_of_bits (λ i. (bit_at a i + bit_at b i) % 2)
xor_bits a b h k = is_word_of_bits (bit_xor a b) (λ i. (bit_at a i + bit_at b i) % 2) (xor_lt 32 a b h k) (λ i l. bit_at_xor a b i)
