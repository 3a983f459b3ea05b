-- The words of whole numbers.
use Rattle.std.proofs.Common.{◌≡◌, ◌≢◌, ℕ, zero, suc, ◌+◌, ◌-◌, ◌*◌, ◌/◌, ◌%◌, ◌^◌, ◌<◌, Bool, true, false, refl, sym, ap, ◌∙◌, arith, ◌⊎◌, inl, inr, nat_lt}
use Rattle.std.specs.Prelude.{ℤ, pos, negsuc, neg_ℤ, ◌+ℤ◌, ◌*ℤ◌, unsigned_abs, FitsSigned, ◌≤ℤ◌, ◌<ℤ◌}
use Rattle.std.specs.Int.{w32, cast_signed, cast_unsigned, int_wrap, int_rem_euclid}
use Rattle.std.proofs.lemmas.Int.{ints, of_z-to_z, int_rem_euclid_is, to_z-of_z, wrapping_mul-bits}
use Rattle.std.proofs.lemmas.Nat.{mod_below, div-add-mod', mod-mul-add}
use Rattle.std.proofs.Math.Nat.{add-mul, suc-mul, mul_comm}
use Rattle.std.proofs.lemmas.Bool.{cases_lt}
use Rattle.gsl_values.specs.Word.{value, word_of}
use Rattle.gsl_values.specs.Operators.{modulus}

-- the word of a number that fits an int is its two's complement
pub word_of_fitting : (z : ℤ) → FitsSigned w32 z → word_of z ≡ cast_unsigned w32 z
word_of_fitting (pos n) h = omega arith
word_of_fitting (negsuc n) h = omega arith

pub word_of_below : (z : ℤ) → word_of z < 4294967296
word_of_below (pos n) = omega arith
word_of_below (negsuc n) = omega arith

-- an int is its word, or that less 2^32
pub value_cases : (a : ℕ) → a < 4294967296 → (value true a ≡ pos a) ⊎ ((n : ℕ) × (value true a ≡ negsuc n) × (a + suc n ≡ 4294967296))
value_cases a h =
    let split : (b : Bool) → nat_lt a 2147483648 ≡ b → (value true a ≡ pos a) ⊎ ((n : ℕ) × (value true a ≡ negsuc n) × (a + suc n ≡ 4294967296)) =
    λ b. elim b as (λ b. nat_lt a 2147483648 ≡ b → (value true a ≡ pos a) ⊎ ((n : ℕ) × (value true a ≡ negsuc n) × (a + suc n ≡ 4294967296)))
    [ true ↦ λ e. inl (rw e refl) | false ↦ λ e. inr (4294967296 - suc a, rw e refl, omega arith) ]
    in split (nat_lt a 2147483648) refl

-- p and q together are a multiple of 2^32
pub word_of_negated : (p q k : ℕ) → p + q ≡ k * 4294967296 → word_of (neg_ℤ (pos p)) ≡ q % 4294967296
word_of_negated p q k e = ap unsigned_abs (int_rem_euclid_is (neg_ℤ (pos p)) (pos 4294967296) 4294967296 k q (omega arith) refl (omega (arith, ints)))

pub word_of_value : (signed : Bool) (a : ℕ) → a < 2 ^ 32 → word_of (value signed a) ≡ a
word_of_value true a h =
    elim (value_cases a h) [ inl e ↦ rw e (omega arith) | inr w ↦ rw w.1 (word_of_negated (suc w.0) a 1 (omega arith) ∙ omega arith) ]
word_of_value false a h = omega arith

-- a multiple of an int is that of its word
pub word_of_multiple : (signed : Bool) (a m : ℕ) → a < 2 ^ 32 → word_of (value signed a *ℤ pos m) ≡ a * m % 4294967296
word_of_multiple true a m h =
    elim (value_cases a h) [
      | inl e ↦ rw e refl
      | inr w ↦ rw w.1 (word_of_negated (suc w.0 * m) (a * m) m (sym (add-mul (suc w.0) a m) ∙ ap (λ x. x * m) (omega arith) ∙ mul_comm 4294967296 m))
    ]
word_of_multiple false a m h = refl

pub word_of_product : (signed : Bool) (a b : ℕ) → a < 2 ^ 32 → b < 2 ^ 32 → word_of (value signed a *ℤ value signed b) ≡ a * b % 4294967296
unfolding int_wrap
word_of_product true a b h k =
    sym (of_z-to_z w32 (word_of (value true a *ℤ value true b)) (word_of_below (value true a *ℤ value true b)))
    ∙ ap (cast_unsigned w32) (sym (wrapping_mul-bits w32 a b h k))
    ∙ of_z-to_z w32 (a * b % 4294967296) (mod_below (a * b) 4294967296 (omega arith))
word_of_product false a b h k = refl

-- the rest of one more: one more, but for the last
pub mod-suc : (a n : ℕ) → 0 < n → ((a % n + 1 ≡ n) × (suc a % n ≡ 0)) ⊎ ((a % n + 1 < n) × (suc a % n ≡ a % n + 1))
mod-suc a n h =
    let split : a / n * n + a % n ≡ a = div-add-mod' a n in
    let bound : a % n < n = mod_below a n h in
    elim (cases_lt (a % n + 1) n) [
      | inl l ↦ inr (l, ap (λ x. x % n) (let e : suc a ≡ a / n * n + (a % n + 1) = omega arith in e) ∙ mod-mul-add (a / n) n (a % n + 1) l)
      | inr g ↦
          let last : a % n + 1 ≡ n = omega arith in
          let e : suc a ≡ suc (a / n) * n + 0 = rw suc-mul (omega arith) in
          inl (last, ap (λ x. x % n) e ∙ mod-mul-add (suc (a / n)) n 0 h)
    ]

-- the rest with the sign of a negative divisor, from the one that is not negative
modulus_is : (x : ℤ) (b : ℕ) → ((int_rem_euclid x (negsuc b) ≡ pos 0) × (modulus x (negsuc b) ≡ pos 0))
    ⊎ ((m : ℕ) × (0 < m) × (int_rem_euclid x (negsuc b) ≡ pos m) × (modulus x (negsuc b) ≡ pos m +ℤ negsuc b))
modulus_is (pos zero) b = inl (omega (arith, ints), omega (arith, ints))
modulus_is (pos (suc a)) b =
    elim (mod-suc a (suc b) (omega arith)) [
      | inl w ↦ inl (ap pos w.1, omega (arith, ints))
      | inr w ↦ inr (suc a % suc b, omega arith, refl, omega (arith, ints))
    ]
modulus_is (negsuc a) b =
    elim (mod-suc a (suc b) (omega arith)) [
      | inl w ↦ inl (omega (arith, ints), omega (arith, ints))
      | inr w ↦ inr (suc b - 1 - a % suc b, omega arith, refl, omega (arith, ints))
    ]

-- what the code's `rest` and `rest + y` are
pub rest_kept : (x y r : ℤ) → FitsSigned w32 r → r ≡ int_rem_euclid x y → (pos 0 ≤ℤ y) ⊎ (r ≡ pos 0) → cast_signed w32 (cast_unsigned w32 r) ≡ modulus x y
rest_kept x (pos b) r fits e h = to_z-of_z w32 r fits ∙ e
rest_kept x (negsuc b) r fits e h =
    to_z-of_z w32 r fits ∙ elim h [
      | inl l ↦ absurd (omega (arith, ints))
      | inr z ↦ elim (modulus_is x b) [ inl w ↦ z ∙ sym w.1 | inr w ↦ absurd (omega (arith, ints)) ]
    ]

pub rest_turned : (x y r : ℤ) → FitsSigned w32 y → FitsSigned w32 r → r ≡ int_rem_euclid x y → y <ℤ pos 0 → r ≢ pos 0
    → cast_signed w32 (cast_unsigned w32 (cast_signed w32 (cast_unsigned w32 r) +ℤ cast_signed w32 (cast_unsigned w32 y))) ≡ modulus x y
rest_turned x (pos b) r fits_y fits e l h = absurd (omega (arith, ints))
rest_turned x (negsuc b) r fits_y fits e l h =
    elim (modulus_is x b) [
      | inl w ↦ absurd (h (e ∙ w.0))
      | inr w ↦ omega (arith, ints, e ∙ w.2, w.3)
    ]
