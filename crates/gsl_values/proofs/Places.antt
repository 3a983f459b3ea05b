-- Positions of bits.
use Rattle.std.proofs.Common.{◌≡◌, ◌≢◌, ℕ, zero, suc, ◌+◌, ◌-◌, ◌*◌, ◌/◌, ◌%◌, ◌^◌, ◌<◌, ◌≤◌, Bool, true, false, refl, sym, ap, ap₂, ◌∙◌, arith, inl, inr}
use Rattle.std.specs.Prelude.{◌==◌, not, pos, negsuc}
use Rattle.std.specs.Int.{bit_at, w32, reverse_bits_onto}
use Rattle.std.specs.Int.Count.{ones, count_leading_zeros, count_trailing_zeros}
use Rattle.std.proofs.Math.Nat.{pow-suc, mul_comm}
use Rattle.std.proofs.lemmas.Bool.{cases_lt}
use Rattle.std.proofs.lemmas.Bool.Decides.{nat_tests}
use Rattle.std.proofs.lemmas.Nat.{leading_top, ones_cat, shr_split, pow_pos, mod_below, div_below, div-mul-add, mod-mul-add}
use Rattle.std.proofs.lemmas.Nat.Bits.{bit_at_cat_low, bit_at_cat_high, bit_at_lowest, bit_at-lt, bit_at_not, bit_at-suc, bit_at-zero, bit_at_above, bit_at-trailing_zeros}
use Rattle.gsl_values.specs.Word.{word_of, word_of_bits}
use Rattle.gsl_values.specs.Functions.{lowest, highest, ones_below, sign_bit}
use Rattle.gsl_values.proofs.Bits.{is_word_of_bits}

pub lowest_is : (test : ℕ → Bool) (from count p : ℕ) → from ≤ p → p < from + count → test p ≡ true → ((i : ℕ) → from ≤ i → i < p → test i ≡ false) → lowest test from count ≡ pos p
unfolding lowest
lowest_is test from zero p h l e before = absurd (omega arith)
lowest_is test from (suc count) p h l e before =
    elim (cases_lt from p) [
      | inl below ↦ rw (before from (omega arith) below) (lowest_is test (from + 1) count p (omega arith) (omega arith) e (λ i low up. before i (omega arith) up))
      | inr reached ↦ let same : from ≡ p = omega arith in rw (same, e) refl
    ]

pub highest_is : (test : ℕ → Bool) (k p : ℕ) → p < k → test p ≡ true → ((i : ℕ) → p < i → i < k → test i ≡ false) → highest test k ≡ pos p
unfolding highest
highest_is test zero p l e above = absurd (omega arith)
highest_is test (suc k) p l e above =
    elim (cases_lt p k) [
      | inl below ↦ rw (above k below (omega arith)) (highest_is test k p below e (λ i low up. above i low (omega arith)))
      | inr reached ↦ let same : k ≡ p = omega arith in rw (same, e) refl
    ]

pub highest_none : (test : ℕ → Bool) (k : ℕ) → ((i : ℕ) → i < k → test i ≡ false) → highest test k ≡ negsuc 0
unfolding highest
highest_none test zero none = refl
highest_none test (suc k) none = rw (none k (omega arith)) (highest_none test k (λ i l. none i (omega arith)))

-- what `findLSB` computes
pub lowest_of_zero : (a : ℕ) → a ≡ 0 → 4294967295 ≡ word_of (lowest (λ i. bit_at a i == 1) 0 32)
unfolding lowest
lowest_of_zero a e = rw e refl

pub lowest_found : (a : ℕ) → a ≢ 0 → a < 2 ^ 32 → count_trailing_zeros 32 a ≡ word_of (lowest (λ i. bit_at a i == 1) 0 32)
lowest_found a h l =
    let found = bit_at-trailing_zeros w32 a (omega arith) l in
    let is_one : (bit_at a (count_trailing_zeros 32 a) == 1) ≡ true = rw found.1 refl in
    let zeros : (i : ℕ) → 0 ≤ i → i < count_trailing_zeros 32 a → (bit_at a i == 1) ≡ false = λ i low up. rw (found.2 i up) refl in
    let at : count_trailing_zeros 32 a < 32 = found.0 in
    rw (lowest_is (λ i. bit_at a i == 1) 0 32 (count_trailing_zeros 32 a) (omega arith) at is_one zeros) (omega arith)

-- a number of j + 1 digits has a 1 in front
pub first_digit : (d j : ℕ) → 2 ^ j ≤ d → d < 2 ^ suc j → bit_at d j ≡ 1
first_digit d j h l =
    let half : 2 ^ suc j ≡ 2 ^ j * 2 = pow-suc 2 j in
    let split : d ≡ 1 * 2 ^ j + (d - 2 ^ j) = omega arith in
    ap (λ x. bit_at x j) split ∙ bit_at_cat_high 1 j (d - 2 ^ j) j (omega arith) (omega arith) ∙ ap (bit_at 1) (let e : j - j ≡ 0 = omega arith in e)

-- what `findMSB` computes of the word of the bits that a test tells
pub highest_found : (test : ℕ → Bool) (d : ℕ) → d < 2 ^ 32 → ((i : ℕ) → i < 32 → test i ≡ (bit_at d i == 1)) → d ≢ 0 → 31 - count_leading_zeros 32 d ≡ word_of (highest test 32)
highest_found test d l same h =
    let top = leading_top 32 d (omega arith) l in
    let j : ℕ = top.0 in
    let place : count_leading_zeros 32 d + suc j ≡ 32 = top.1 in
    let is_one : test j ≡ true = same j (omega arith) ∙ rw (first_digit d j top.2 top.3) refl in
    let zeros : (i : ℕ) → j < i → i < 32 → test i ≡ false = λ i low up. same i up ∙ rw (bit_at_above d (suc j) i top.3 low) refl in
    rw (highest_is test 32 j (omega arith) is_one zeros) (omega arith)

pub highest_missing : (test : ℕ → Bool) (d : ℕ) → ((i : ℕ) → i < 32 → test i ≡ (bit_at d i == 1)) → d ≡ 0 → 4294967295 ≡ word_of (highest test 32)
highest_missing test d same e =
    rw (highest_none test 32 (λ i l. same i l ∙ ap (λ x. bit_at x i == 1) e ∙ rw (bit_at-zero i) refl)) refl

-- the bits that differ from the sign
pub differing_from_one : (a i : ℕ) → a < 2 ^ 32 → 2147483648 ≤ a → i < 32 → not (bit_at a i == sign_bit true a) ≡ (bit_at (4294967295 - a) i == 1)
differing_from_one a i l h k =
    let ones : bit_at a 31 ≡ 1 = first_digit a 31 h l in
    let flipped : bit_at (4294967295 - a) i ≡ 1 - bit_at a i = bit_at_not w32 a i l k in
    let bit : bit_at a i < 2 = bit_at-lt a i in
    rw (ones, flipped) (grind (arith, nat_tests))

-- `bitCount`
ones_below_low : (a k m : ℕ) → m ≤ k → ones_below (a % 2 ^ k) m ≡ ones_below a m
unfolding ones_below
ones_below_low a k zero h = refl
ones_below_low a k (suc m) h =
    ap₂ (λ x y. x + y) (ones_below_low a k m (omega arith))
    (sym (bit_at_cat_low (a / 2 ^ k) k (a % 2 ^ k) m h) ∙ ap (λ x. bit_at x m) (shr_split a k))

ones_of_bit : (b : ℕ) → b < 2 → ones b ≡ b
unfolding ones
ones_of_bit zero h = refl
ones_of_bit (suc zero) h = refl
ones_of_bit (suc (suc b)) h = absurd (omega arith)

pub ones_are_below : (k a : ℕ) → a < 2 ^ k → ones a ≡ ones_below a k
unfolding ones_below
ones_are_below zero a h = let none : a ≡ 0 = omega arith in rw none (ones_of_bit 0 (omega arith))
ones_are_below (suc k) a h =
    let half : 2 ^ suc k ≡ 2 ^ k * 2 = pow-suc 2 k in
    let power : 0 < 2 ^ k = pow_pos k in
    let low : a % 2 ^ k < 2 ^ k = mod_below a (2 ^ k) power in
    let high : a / 2 ^ k < 2 = div_below a (2 ^ k) 2 power (omega (arith, mul_comm (2 ^ k) 2)) in
    let bit : a / 2 ^ k ≡ bit_at a k = omega arith in
    ap ones (sym (shr_split a k)) ∙ ones_cat k (a / 2 ^ k) (a % 2 ^ k) low
    ∙ ap₂ (λ x y. x + y) (ones_of_bit (a / 2 ^ k) high ∙ bit) (ones_are_below k (a % 2 ^ k) low ∙ ones_below_low a k k (omega arith))
    ∙ omega arith

-- `bitfieldReverse`
reversed_high : (k n a i : ℕ) → k ≤ i → bit_at (reverse_bits_onto k n a) i ≡ bit_at a (i - k)
unfolding reverse_bits_onto
reversed_high zero n a i h = ap (bit_at a) (omega arith)
reversed_high (suc k) n a i h =
    let next : i - k ≡ suc (i - suc k) = omega arith in
    reversed_high k (n / 2) (a * 2 + n % 2) i (omega arith) ∙ ap (bit_at (a * 2 + n % 2)) next ∙ bit_at-suc (a * 2 + n % 2) (i - suc k)
    ∙ ap (λ x. bit_at x (i - suc k)) (div-mul-add a 2 (n % 2) (omega arith))

reversed_low : (k n a i : ℕ) → i < k → bit_at (reverse_bits_onto k n a) i ≡ bit_at n (k - 1 - i)
unfolding reverse_bits_onto
reversed_low zero n a i h = absurd (omega arith)
reversed_low (suc k) n a i h =
    elim (cases_lt i k) [
      | inl l ↦ reversed_low k (n / 2) (a * 2 + n % 2) i l ∙ sym (bit_at-suc n (k - 1 - i)) ∙ ap (bit_at n) (omega arith)
      | inr g ↦
          reversed_high k (n / 2) (a * 2 + n % 2) i g ∙ ap (bit_at (a * 2 + n % 2)) (let e : i - k ≡ 0 = omega arith in e)
          ∙ bit_at_lowest (a * 2 + n % 2) ∙ mod-mul-add a 2 (n % 2) (omega arith) ∙ sym (bit_at_lowest n) ∙ ap (bit_at n) (let e : 0 ≡ suc k - 1 - i = omega arith in e)
    ]

pub reversed_bits : (a word : ℕ) → word < 2 ^ 32 → word ≡ reverse_bits_onto 32 a 0 → word ≡ word_of_bits (λ i. bit_at a (31 - i))
reversed_bits a word h e = is_word_of_bits word (λ i. bit_at a (31 - i)) h (λ i l. ap (λ x. bit_at x i) e ∙ reversed_low 32 a 0 i l)
