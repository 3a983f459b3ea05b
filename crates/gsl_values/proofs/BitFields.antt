-- Bit fields.
use Rattle.std.proofs.Common.{◌≡◌, ◌≢◌, ℕ, ◌+◌, ◌-◌, ◌*◌, ◌/◌, ◌%◌, ◌^◌, ◌<◌, ◌≤◌, Bool, true, false, refl, sym, ap, ◌∙◌, arith, ◌⊎◌, inl, inr, min, max, add-zero}
use Rattle.std.specs.Prelude.{bit_and, bit_or}
use Rattle.std.specs.Int.{bit_at, w32}
use Rattle.std.proofs.Math.Pow.{pow_mono}
use Rattle.std.proofs.lemmas.Bool.{cases_lt}
use Rattle.std.proofs.lemmas.Bool.Decides.{nat_tests}
use Rattle.std.proofs.lemmas.Nat.{shr-shr, shr_split, shr_le, and_le_l, or_lt, pow_pos}
use Rattle.std.proofs.lemmas.Nat.Bits.{bit_at_cat_low, bit_at_cat_high, bit_at-lt, bit_at_not, bit_at-zero, bit_at_and, bit_at_or, bit_at_ones, bit_at_ones_above, shr_and_one}
use Rattle.gsl_values.specs.Word.{word_of_bits}
use Rattle.gsl_values.specs.Functions.{extracted_bit, inserted_bit}
use Rattle.gsl_values.proofs.Bits.{is_word_of_bits}

-- bits of `a >> offset` and of `a << offset`
pub shr_bit : (a offset i : ℕ) → bit_at (a / 2 ^ offset) i ≡ bit_at a (offset + i)
shr_bit a offset i = ap (λ x. x % 2) (shr-shr a offset i)

low_bit : (n i : ℕ) → i < 32 → bit_at (n % 4294967296) i ≡ bit_at n i
low_bit n i h = sym (bit_at_cat_low (n / 4294967296) 32 (n % 4294967296) i h) ∙ ap (λ x. bit_at x i) (shr_split n 32)

pub shl_bit_below : (a offset i : ℕ) → i < 32 → i < offset → bit_at (a * 2 ^ offset % 4294967296) i ≡ 0
shl_bit_below a offset i h l =
    low_bit (a * 2 ^ offset) i h ∙ ap (λ x. bit_at x i) (sym (add-zero (a * 2 ^ offset))) ∙ bit_at_cat_low a offset 0 i l ∙ bit_at-zero i

pub shl_bit : (a offset i : ℕ) → i < 32 → offset ≤ i → bit_at (a * 2 ^ offset % 4294967296) i ≡ bit_at a (i - offset)
shl_bit a offset i h l =
    low_bit (a * 2 ^ offset) i h ∙ ap (λ x. bit_at x i) (sym (add-zero (a * 2 ^ offset))) ∙ bit_at_cat_high a offset 0 i (pow_pos offset) l

-- bits of `(a >> offset) & ones`
field_bit : (a offset bits i : ℕ) → i < bits → bit_at (bit_and (a / 2 ^ offset) (2 ^ bits - 1)) i ≡ bit_at a (offset + i)
field_bit a offset bits i l =
    let bit : bit_at a (offset + i) < 2 = bit_at-lt a (offset + i) in
    rw (bit_at_and (a / 2 ^ offset) (2 ^ bits - 1) i, shr_bit a offset i, bit_at_ones bits i l) (omega arith)

field_bit_above : (a offset bits i : ℕ) → bits ≤ i → bit_at (bit_and (a / 2 ^ offset) (2 ^ bits - 1)) i ≡ 0
field_bit_above a offset bits i l = rw (bit_at_and (a / 2 ^ offset) (2 ^ bits - 1) i, bit_at_ones_above bits i l) (omega arith)

-- the bit of the word that a field without a sign to extend has
pub extracted_low : (signed : Bool) (a offset bits i : ℕ) → i < bits → bit_at a (offset + i) ≡ extracted_bit signed a offset bits i
extracted_low signed a offset bits i l = grind (arith, nat_tests)

pub extracted_high : (signed : Bool) (a offset bits i : ℕ) → bits ≤ i → (signed ≡ false) ⊎ ((bits ≡ 0) ⊎ (bit_at a (offset + bits - 1) ≡ 0)) → 0 ≡ extracted_bit signed a offset bits i
extracted_high signed a offset bits i l h = grind (arith, nat_tests)

pub extracted_sign : (a offset bits i : ℕ) → bits ≤ i → 0 < bits → bit_at a (offset + bits - 1) ≡ 1 → 1 ≡ extracted_bit true a offset bits i
extracted_sign a offset bits i l h e = grind (arith, nat_tests)

-- what the code's `extracted` gives
pub extracted_none : (signed : Bool) (a offset bits : ℕ) → bits ≡ 0 → 0 ≡ word_of_bits (extracted_bit signed a offset bits)
extracted_none signed a offset bits e =
    is_word_of_bits 0 (extracted_bit signed a offset bits) (omega arith) (λ i l. bit_at-zero i ∙ extracted_high signed a offset bits i (omega arith) (inr (inl e)))

pub extracted_field : (signed : Bool) (a offset bits ones : ℕ) → a < 2 ^ 32 → ones ≡ 2 ^ bits - 1 → (signed ≡ false) ⊎ ((bits ≡ 0) ⊎ (bit_at a (offset + bits - 1) ≡ 0))
    → bit_and (a / 2 ^ offset) ones ≡ word_of_bits (extracted_bit signed a offset bits)
extracted_field signed a offset bits ones h e plain =
    let small : a / 2 ^ offset ≤ a = shr_le a offset in
    rw e (is_word_of_bits (bit_and (a / 2 ^ offset) (2 ^ bits - 1)) (extracted_bit signed a offset bits)
    (omega (arith, and_le_l (a / 2 ^ offset) (2 ^ bits - 1)))
    (λ i l. elim (cases_lt i bits) [
      | inl low ↦ field_bit a offset bits i low ∙ extracted_low signed a offset bits i low
      | inr high ↦ field_bit_above a offset bits i high ∙ extracted_high signed a offset bits i high plain
    ]))

pub extended_field : (a offset bits ones : ℕ) → a < 2 ^ 32 → ones ≡ 2 ^ bits - 1 → 0 < bits → bits ≤ 32 → bit_at a (offset + bits - 1) ≡ 1
    → bit_or (bit_and (a / 2 ^ offset) ones) (4294967295 - ones) ≡ word_of_bits (extracted_bit true a offset bits)
extended_field a offset bits ones h e some most sign =
    let small : a / 2 ^ offset ≤ a = shr_le a offset in
    let below : 2 ^ bits - 1 < 2 ^ 32 = omega (arith, pow_mono {i = bits} {j = 32} most, pow_pos bits) in
    rw e (is_word_of_bits (bit_or (bit_and (a / 2 ^ offset) (2 ^ bits - 1)) (4294967295 - (2 ^ bits - 1))) (extracted_bit true a offset bits)
    (or_lt 32 (bit_and (a / 2 ^ offset) (2 ^ bits - 1)) (4294967295 - (2 ^ bits - 1)) (omega (arith, and_le_l (a / 2 ^ offset) (2 ^ bits - 1))) (omega arith))
    (λ i l. bit_at_or (bit_and (a / 2 ^ offset) (2 ^ bits - 1)) (4294967295 - (2 ^ bits - 1)) i ∙ elim (cases_lt i bits) [
      | inl low ↦ rw (field_bit a offset bits i low, bit_at_not w32 (2 ^ bits - 1) i below l, bit_at_ones bits i low) (omega arith ∙ extracted_low true a offset bits i low)
      | inr high ↦ rw (field_bit_above a offset bits i high, bit_at_not w32 (2 ^ bits - 1) i below l, bit_at_ones_above bits i high) (extracted_sign a offset bits i high some sign)
    ]))

-- the sign of a field as the code tests it
pub tested_sign : (a place : ℕ) → bit_and (a / 2 ^ place) 1 ≡ 1 → bit_at a place ≡ 1
tested_sign a place e = sym (shr_and_one a place) ∙ e

pub tested_none : (a place : ℕ) → bit_and (a / 2 ^ place) 1 ≢ 1 → bit_at a place ≡ 0
tested_none a place h =
    let bit : bit_at a place < 2 = bit_at-lt a place in
    let not_one : bit_at a place ≢ 1 = λ e. h (shr_and_one a place ∙ e) in
    omega arith

inserted_outside : (base insert offset bits i : ℕ) → (i < offset) ⊎ (offset + bits ≤ i) → bit_at base i ≡ inserted_bit base insert offset bits i
inserted_outside base insert offset bits i h = grind (arith, nat_tests)

pub inserted_inside : (base insert offset bits i : ℕ) → offset ≤ i → i < offset + bits → bit_at insert (i - offset) ≡ inserted_bit base insert offset bits i
inserted_inside base insert offset bits i h l = grind (arith, nat_tests)

-- a bit outside the mask is kept, and one inside is put
keeps : (kept put mask : ℕ) → kept < 2 → mask ≡ 0 → max (min kept (1 - mask)) (min put mask) ≡ kept
keeps kept put mask h e = omega arith

puts : (kept put mask : ℕ) → put < 2 → mask ≡ 1 → max (min kept (1 - mask)) (min put mask) ≡ put
puts kept put mask h e = omega arith

-- what the code's `inserted` gives
pub inserted_none : (base insert offset bits : ℕ) → base < 2 ^ 32 → bits ≡ 0 → base ≡ word_of_bits (inserted_bit base insert offset bits)
inserted_none base insert offset bits h e = is_word_of_bits base (inserted_bit base insert offset bits) h (λ i l. inserted_outside base insert offset bits i (elim (cases_lt i offset) [ inl before ↦ inl before | inr behind ↦ inr (omega arith) ]))

pub inserted_field : (base insert offset bits ones : ℕ) → base < 2 ^ 32 → ones ≡ 2 ^ bits - 1 → offset + bits ≤ 32
    → bit_or (bit_and base (4294967295 - ones * 2 ^ offset % 4294967296)) (bit_and (insert * 2 ^ offset % 4294967296) (ones * 2 ^ offset % 4294967296))
    ≡ word_of_bits (inserted_bit base insert offset bits)
inserted_field base insert offset bits ones h e fits =
    let mask : ℕ = ones * 2 ^ offset % 4294967296 in
    let mask_below : mask < 2 ^ 32 = omega arith in
    let moved : ℕ = insert * 2 ^ offset % 4294967296 in
    let kept : ℕ = bit_and base (4294967295 - mask) in
    let put : ℕ = bit_and moved mask in
    is_word_of_bits (bit_or kept put) (inserted_bit base insert offset bits)
    (or_lt 32 kept put (omega (arith, and_le_l base (4294967295 - mask))) (omega (arith, and_le_l moved mask)))
    (λ i l.
    let split : bit_at (bit_or kept put) i ≡ max (min (bit_at base i) (1 - bit_at mask i)) (min (bit_at moved i) (bit_at mask i)) =
    rw (bit_at_or kept put i, bit_at_and base (4294967295 - mask) i, bit_at_and moved mask i, bit_at_not w32 mask i mask_below l) refl in
    let base_bit : bit_at base i < 2 = bit_at-lt base i in
    split ∙ elim (cases_lt i offset) [
      | inl before ↦ keeps (bit_at base i) (bit_at moved i) (bit_at mask i) base_bit (shl_bit_below ones offset i l before) ∙ inserted_outside base insert offset bits i (inl before)
      | inr from ↦ elim (cases_lt i (offset + bits)) [
        | inl inside ↦
            puts (bit_at base i) (bit_at moved i) (bit_at mask i) (bit_at-lt moved i)
            (shl_bit ones offset i l from ∙ ap (λ x. bit_at x (i - offset)) e ∙ bit_at_ones bits (i - offset) (omega arith))
            ∙ shl_bit insert offset i l from ∙ inserted_inside base insert offset bits i from inside
        | inr behind ↦
            keeps (bit_at base i) (bit_at moved i) (bit_at mask i) base_bit
            (shl_bit ones offset i l from ∙ ap (λ x. bit_at x (i - offset)) e ∙ bit_at_ones_above bits (i - offset) (omega arith))
            ∙ inserted_outside base insert offset bits i (inr behind)
      ]
    ])
