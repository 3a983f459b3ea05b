-- Numbers and words; the lesser and the greater; bits reversed.
use Rattle.std.proofs.Common.{◌≡◌, ℕ, ◌-◌, ◌/◌, ◌^◌, ◌<◌, Bool, true, false, cond, refl, sym, ap, subst, ◌∙◌, arith}
use Rattle.std.specs.Prelude.{ℤ, pos, negsuc, ◌+ℤ◌, ◌*ℤ◌, ◌≤ℤ◌, int_lt}
use Rattle.std.specs.Int.{bit_at, int_min, int_max}
use Rattle.std.proofs.lemmas.Int.{ints, clamps}
use Rattle.std.proofs.lemmas.Nat.Bits.{bit_at-lt}
use Rattle.gsl_values.specs.Word.{value, word_of, word_of_bits}
use Rattle.gsl_values.proofs.Words.{word_of_value}
use Rattle.gsl_values.proofs.Bits.{is_word_of_bits, bit_at-of_bits}

-- a whole number is its word and a multiple of 2^32
pub congruent : (z : ℤ) → (k : ℤ) × (z ≡ pos (word_of z) +ℤ k *ℤ pos 4294967296)
congruent (pos n) = (pos (n / 4294967296), omega (arith, ints))
congruent (negsuc n) = (negsuc (n / 4294967296), omega (arith, ints))

pub bits_of_word : (bit : ℕ → ℕ) (i : ℕ) → ((j : ℕ) → j < 32 → bit j < 2) → i < 32 → bit_at (word_of_bits bit) i ≡ bit i
bits_of_word bit i h l = bit_at-of_bits bit 32 h i l

pub word_of_own_bits : (a : ℕ) → a < 2 ^ 32 → word_of_bits (bit_at a) ≡ a
word_of_own_bits a h = sym (is_word_of_bits a (bit_at a) h (λ i l. refl))

pub reversed_again : (a : ℕ) → a < 2 ^ 32 → word_of_bits (λ i. bit_at (word_of_bits (λ j. bit_at a (31 - j))) (31 - i)) ≡ a
reversed_again a h =
    sym (is_word_of_bits a (λ i. bit_at (word_of_bits (λ j. bit_at a (31 - j))) (31 - i)) h (λ i l.
    let back : 31 - (31 - i) ≡ i = omega arith in
    sym (bits_of_word (λ j. bit_at a (31 - j)) (31 - i) (λ j _. bit_at-lt a (31 - j)) (omega arith) ∙ ap (bit_at a) back)))

-- the number is that of a word
record IsOfWord (signed : Bool) (z : ℤ) : Type 0 where
  word : ℕ
  below : word < 2 ^ 32
  same : z ≡ value signed word

lesser_of : (signed : Bool) (x y : ℤ) → IsOfWord signed x → IsOfWord signed y → IsOfWord signed (int_min x y)
lesser_of signed x y f g = elim (int_lt y x) as (λ t. IsOfWord signed (cond t y x)) [ true ↦ g | false ↦ f ]

greater_of : (signed : Bool) (x y : ℤ) → IsOfWord signed x → IsOfWord signed y → IsOfWord signed (int_max x y)
greater_of signed x y f g = elim (int_lt y x) as (λ t. IsOfWord signed (cond t x y)) [ true ↦ f | false ↦ g ]

value_of_own : (signed : Bool) (z : ℤ) → IsOfWord signed z → value signed (word_of z) ≡ z
value_of_own signed z w = ap (λ z'. value signed (word_of z')) w.same ∙ ap (value signed) (word_of_value signed w.word w.below) ∙ sym w.same

abbrev clamped : ℤ → ℤ → ℤ → ℤ
clamped x low high = int_min (int_max x low) high

between : (x low high : ℤ) → low ≤ℤ high → (low ≤ℤ clamped x low high) × (clamped x low high ≤ℤ high)
between x low high h = (omega (arith, ints, clamps), omega (arith, ints, clamps))

unmoved : (x low high : ℤ) → low ≤ℤ x → x ≤ℤ high → clamped x low high ≡ x
unmoved x low high h l = omega (arith, ints, clamps)

pub clamp_between : (signed : Bool) (x low high : ℕ) → x < 2 ^ 32 → low < 2 ^ 32 → high < 2 ^ 32 → value signed low ≤ℤ value signed high
    → (value signed low ≤ℤ value signed (word_of (clamped (value signed x) (value signed low) (value signed high))))
    × (value signed (word_of (clamped (value signed x) (value signed low) (value signed high))) ≤ℤ value signed high)
clamp_between signed x low high h k l e =
    let word : (a : ℕ) → a < 2 ^ 32 → IsOfWord signed (value signed a) = λ a below. record { word = a; below = below; same = refl } in
    let whole : value signed (word_of (clamped (value signed x) (value signed low) (value signed high))) ≡ clamped (value signed x) (value signed low) (value signed high) =
    value_of_own signed (clamped (value signed x) (value signed low) (value signed high))
    (lesser_of signed (int_max (value signed x) (value signed low)) (value signed high) (greater_of signed (value signed x) (value signed low) (word x h) (word low k)) (word high l)) in
    subst (λ (z : ℤ). (value signed low ≤ℤ z) × (z ≤ℤ value signed high)) (sym whole) (between (value signed x) (value signed low) (value signed high) e)

pub clamp_unmoved : (signed : Bool) (x low high : ℕ) → x < 2 ^ 32 → value signed low ≤ℤ value signed x → value signed x ≤ℤ value signed high
    → word_of (clamped (value signed x) (value signed low) (value signed high)) ≡ x
clamp_unmoved signed x low high h l m = ap word_of (unmoved (value signed x) (value signed low) (value signed high) l m) ∙ word_of_value signed x h
