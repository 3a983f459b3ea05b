-- Bit fields that are extracted where they were inserted.
use Rattle.std.proofs.Common.{◌≡◌, ℕ, zero, suc, ◌+◌, ◌-◌, ◌*◌, ◌/◌, ◌%◌, ◌^◌, ◌<◌, ◌≤◌, Bool, true, false, cond, refl, sym, ap, ap₂, subst, ◌∙◌, arith, ◌⊎◌, inl, inr, zero-add}
use Rattle.std.specs.Prelude.{pos, negsuc, ◌-ℤ◌, nat_lt, ◌&&◌}
use Rattle.std.specs.Int.{bit_at, w32}
use Rattle.std.proofs.Math.Nat.{pow-suc, suc-mul}
use Rattle.std.proofs.Math.Pow.{pow_mono}
use Rattle.std.proofs.lemmas.Int.{ints, to_z_pos}
use Rattle.std.proofs.lemmas.Bool.{cases_lt}
use Rattle.std.proofs.lemmas.Bool.Decides.{nat_tests}
use Rattle.std.proofs.lemmas.Nat.{shr_split, mod_below, pow_pos, pow-add}
use Rattle.std.proofs.lemmas.Nat.Bits.{bit_at-lt, bit_at_cat_low, bit_at_cat_high, bit_at_above, bit_at_ones}
use Rattle.gsl_values.specs.Word.{value, word_of_bits, of_bits}
use Rattle.gsl_values.specs.Functions.{is_free_field, extracted_bit, inserted_bit}
use Rattle.gsl_values.proofs.Bits.{is_word_of_bits}
use Rattle.gsl_values.proofs.Places.{first_digit}
use Rattle.gsl_values.proofs.BitFields.{inserted_inside, extracted_low, extracted_high, extracted_sign}
use Rattle.gsl_values.proofs.Clamps.{bits_of_word}

-- bits that are alike give one word
same_bits : (f g : ℕ → ℕ) (k : ℕ) → ((i : ℕ) → i < k → f i ≡ g i) → of_bits f k ≡ of_bits g k
unfolding of_bits
same_bits f g zero h = refl
same_bits f g (suc k) h = ap₂ (λ x y. x * 2 ^ k + y) (h k (omega arith)) (same_bits f g k (λ i l. h i (omega arith)))

-- a field that is not left open lies within the word
pub within_word : (offset bits : ℕ) → offset < 2 ^ 32 → bits < 2 ^ 32 → is_free_field offset bits ≡ false → offset + bits ≤ 32
within_word offset bits h l e = grind (arith, ints, nat_tests)

inserted_small : (base insert offset bits j : ℕ) → inserted_bit base insert offset bits j < 2
inserted_small base insert offset bits j =
    let put : bit_at insert (j - offset) < 2 = bit_at-lt insert (j - offset) in
    let kept : bit_at base j < 2 = bit_at-lt base j in
    grind (arith, nat_tests)

put_bit : (base insert offset bits j : ℕ) → offset + bits ≤ 32 → j < bits → bit_at (word_of_bits (inserted_bit base insert offset bits)) (offset + j) ≡ bit_at insert j
put_bit base insert offset bits j fits l =
    bits_of_word (inserted_bit base insert offset bits) (offset + j) (λ i _. inserted_small base insert offset bits i) (omega arith)
    ∙ sym (inserted_inside base insert offset bits (offset + j) (omega arith) (omega arith))
    ∙ ap (bit_at insert) (let e : offset + j - offset ≡ j = omega arith in e)

extracted_above : (signed : Bool) (a offset bits i : ℕ) → bits ≤ i → extracted_bit signed a offset bits i ≡ cond (signed && nat_lt 0 bits) (bit_at a (offset + bits - 1)) 0
extracted_above signed a offset bits i h = grind (arith, nat_tests)

pub put_back : (signed : Bool) (base insert offset bits : ℕ) → offset + bits ≤ 32
    → word_of_bits (extracted_bit signed (word_of_bits (inserted_bit base insert offset bits)) offset bits) ≡ word_of_bits (extracted_bit signed insert 0 bits)
put_back signed base insert offset bits fits =
    same_bits (extracted_bit signed (word_of_bits (inserted_bit base insert offset bits)) offset bits) (extracted_bit signed insert 0 bits) 32 (λ i _. elim (cases_lt i bits) [
      | inl low ↦
          sym (extracted_low signed (word_of_bits (inserted_bit base insert offset bits)) offset bits i low) ∙ put_bit base insert offset bits i fits low
          ∙ ap (bit_at insert) (sym (zero-add i)) ∙ extracted_low signed insert 0 bits i low
      | inr high ↦ elim (cases_lt 0 bits) [
        | inl some ↦
            let at : offset + bits - 1 ≡ offset + (bits - 1) = omega arith in
            let last : bit_at (word_of_bits (inserted_bit base insert offset bits)) (offset + bits - 1) ≡ bit_at insert (0 + bits - 1) =
            ap (bit_at (word_of_bits (inserted_bit base insert offset bits))) at ∙ put_bit base insert offset bits (bits - 1) fits (omega arith)
            ∙ ap (bit_at insert) (let same : bits - 1 ≡ 0 + bits - 1 = omega arith in same) in
            extracted_above signed (word_of_bits (inserted_bit base insert offset bits)) offset bits i high
            ∙ ap (λ x. cond (signed && nat_lt 0 bits) x 0) last ∙ sym (extracted_above signed insert 0 bits i high)
        | inr none ↦
            let empty : bits ≡ 0 = omega arith in
            sym (extracted_high signed (word_of_bits (inserted_bit base insert offset bits)) offset bits i high (inr (inl empty)))
            ∙ extracted_high signed insert 0 bits i high (inr (inl empty))
      ]
    ])

low_of : (n k i : ℕ) → i < k → bit_at (n % 2 ^ k) i ≡ bit_at n i
low_of n k i h = sym (bit_at_cat_low (n / 2 ^ k) k (n % 2 ^ k) i h) ∙ ap (λ x. bit_at x i) (shr_split n k)

-- the field without a sign to extend is the rest modulo a power of 2
plain_field : (signed : Bool) (insert bits : ℕ) → bits ≤ 32 → (signed ≡ false) ⊎ ((bits ≡ 0) ⊎ (bit_at insert (0 + bits - 1) ≡ 0))
    → insert % 2 ^ bits ≡ word_of_bits (extracted_bit signed insert 0 bits)
plain_field signed insert bits most plain =
    let below : insert % 2 ^ bits < 2 ^ bits = mod_below insert (2 ^ bits) (pow_pos bits) in
    is_word_of_bits (insert % 2 ^ bits) (extracted_bit signed insert 0 bits) (omega (arith, pow_mono {i = bits} {j = 32} most)) (λ i _. elim (cases_lt i bits) [
      | inl low ↦ low_of insert bits i low ∙ ap (bit_at insert) (sym (zero-add i)) ∙ extracted_low signed insert 0 bits i low
      | inr high ↦ bit_at_above (insert % 2 ^ bits) bits i below high ∙ extracted_high signed insert 0 bits i high plain
    ])

pub low_bits : (insert bits : ℕ) → bits ≤ 32 → word_of_bits (extracted_bit false insert 0 bits) ≡ insert % 2 ^ bits
low_bits insert bits most = sym (plain_field false insert bits most (inl refl))

high_ones : (bits : ℕ) → bits ≤ 32 → (2 ^ (32 - bits) - 1) * 2 ^ bits + 2 ^ bits ≡ 4294967296
high_ones bits most =
    let one_more : suc (2 ^ (32 - bits) - 1) ≡ 2 ^ (32 - bits) = omega (arith, pow_pos (32 - bits)) in
    let all : 32 - bits + bits ≡ 32 = omega arith in
    sym (suc-mul (2 ^ (32 - bits) - 1) (2 ^ bits)) ∙ ap (λ x. x * 2 ^ bits) one_more ∙ sym (pow-add 2 (32 - bits) bits) ∙ ap (λ x. 2 ^ x) all

-- the field of an int whose highest bit is 1 has ones above it
negative_field : (insert bits : ℕ) → 0 < bits → bits ≤ 32 → bit_at insert (0 + bits - 1) ≡ 1
    → (2 ^ (32 - bits) - 1) * 2 ^ bits + insert % 2 ^ bits ≡ word_of_bits (extracted_bit true insert 0 bits)
negative_field insert bits some most sign =
    let below : insert % 2 ^ bits < 2 ^ bits = mod_below insert (2 ^ bits) (pow_pos bits) in
    let ones : ℕ = 2 ^ (32 - bits) - 1 in
    is_word_of_bits (ones * 2 ^ bits + insert % 2 ^ bits) (extracted_bit true insert 0 bits) (omega (arith, high_ones bits most)) (λ i l. elim (cases_lt i bits) [
      | inl low ↦ bit_at_cat_low ones bits (insert % 2 ^ bits) i low ∙ low_of insert bits i low ∙ ap (bit_at insert) (sym (zero-add i)) ∙ extracted_low true insert 0 bits i low
      | inr high ↦ bit_at_cat_high ones bits (insert % 2 ^ bits) i below high ∙ bit_at_ones (32 - bits) (i - bits) (omega arith) ∙ extracted_sign insert 0 bits i high some sign
    ])

value_low : (low half : ℕ) → low < half → half ≤ 2147483648 → value true low ≡ pos low
value_low low half h l = to_z_pos w32 low (omega arith)

value_high : (low half whole ones word : ℕ) → half ≤ low → low < whole → whole ≡ half * 2 → half ≤ 2147483648 → ones + whole ≡ 4294967296 → ones + low ≡ word → value true word ≡ pos low -ℤ pos whole
value_high low half whole ones word h l e m f g =
    let test : nat_lt word 2147483648 ≡ false = grind (arith, nat_tests) in
    let negative : value true word ≡ negsuc (4294967296 - suc word) = rw test refl in
    negative ∙ omega (arith, ints)

pub signed_bits : (insert bits : ℕ) → 0 < bits → bits ≤ 32
    → value true (word_of_bits (extracted_bit true insert 0 bits)) ≡ cond (nat_lt (insert % 2 ^ bits) (2 ^ (bits - 1))) (pos (insert % 2 ^ bits)) (pos (insert % 2 ^ bits) -ℤ pos (2 ^ bits))
signed_bits insert bits some most =
    let low : ℕ = insert % 2 ^ bits in
    let half : ℕ = 2 ^ (bits - 1) in
    let word : ℕ = word_of_bits (extracted_bit true insert 0 bits) in
    let next : bits ≡ suc (bits - 1) = omega arith in
    let doubled : 2 ^ bits ≡ half * 2 = ap (λ x. 2 ^ x) next ∙ pow-suc 2 (bits - 1) in
    let below : low < 2 ^ bits = mod_below insert (2 ^ bits) (pow_pos bits) in
    let bound : half ≤ 2147483648 = pow_mono {i = bits - 1} {j = 31} (omega arith) in
    let last : bit_at low (bits - 1) ≡ bit_at insert (0 + bits - 1) =
    low_of insert bits (bits - 1) (omega arith) ∙ ap (bit_at insert) (let same : bits - 1 ≡ 0 + bits - 1 = omega arith in same) in
    elim (cases_lt low half) [
      | inl small ↦
          let test : nat_lt low half ≡ true = grind (arith, nat_tests) in
          let plain : low ≡ word = plain_field true insert bits most (inr (inr (sym last ∙ bit_at_above low (bits - 1) (bits - 1) small (omega arith)))) in
          ap (value true) (sym plain) ∙ value_low low half small bound ∙ sym (ap (λ t. cond t (pos low) (pos low -ℤ pos (2 ^ bits))) test)
      | inr large ↦
          let test : nat_lt low half ≡ false = grind (arith, nat_tests) in
          let within : low < 2 ^ suc (bits - 1) = subst (λ x. low < 2 ^ x) next below in
          let negative : (2 ^ (32 - bits) - 1) * 2 ^ bits + low ≡ word = negative_field insert bits some most (sym last ∙ first_digit low (bits - 1) large within) in
          value_high low half (2 ^ bits) ((2 ^ (32 - bits) - 1) * 2 ^ bits) word large below doubled bound (high_ones bits most) negative
          ∙ sym (ap (λ t. cond t (pos low) (pos low -ℤ pos (2 ^ bits))) test)
    ]
