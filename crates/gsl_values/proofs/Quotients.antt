-- Quotients and rests of whole numbers.
use Rattle.std.proofs.Common.{◌≡◌, ◌≢◌, ℕ, zero, suc, ◌-◌, ◌/◌, ◌%◌, ◌^◌, ◌<◌, ◌≤◌, Bool, true, false, refl, sym, ap, subst, ◌∙◌, arith, ◌⊎◌, inl, inr}
use Rattle.std.specs.Prelude.{ℤ, pos, negsuc, neg_ℤ, ◌+ℤ◌, ◌*ℤ◌, unsigned_abs, FitsSigned}
use Rattle.std.specs.Int.{w32, cast_signed, is_negative}
use Rattle.std.specs.Int.RustNames.{int_div, int_rem}
use Rattle.std.proofs.lemmas.Int.{ints, quot-rem, fits_signed_from_abs, to_z-of_z}
use Rattle.std.proofs.lemmas.Bool.Decides.{nat_tests}
use Rattle.std.proofs.lemmas.Nat.{div_below, mod_below}
use Rattle.std.proofs.Math.Nat.{div-le_self}
use Rattle.std.proofs.Math.IntN.{+ℤ_assoc}
use Rattle.std.specs.Int.Signed.{nat_abs-le}
use Rattle.std.proofs.Math.Facts.{sfits_to_z}
use Rattle.gsl_values.specs.Word.{value, word_of}
use Rattle.gsl_values.specs.Operators.{modulus, is_free_quotient}
use Rattle.gsl_values.specs.Laws.{IsRest, GiveDividend}
use Rattle.gsl_values.proofs.Words.{mod-suc, value_cases, word_of_fitting, word_of_value}

-- the rest with the sign of the divisor, from the one with the sign of the dividend
record Kept (x y : ℤ) : Type 0 where
  rest : modulus x y ≡ int_rem x y
  alike : (modulus x y ≡ pos 0) ⊎ (is_negative x ≡ is_negative y)

record Turned (x y : ℤ) : Type 0 where
  rest : modulus x y ≡ int_rem x y +ℤ y
  left : modulus x y ≢ pos 0
  unlike : is_negative x ≢ is_negative y

not_negative : (n : ℕ) → is_negative (pos n) ≡ false
not_negative n = grind (arith, nat_tests)

modulus_rem : (x y : ℤ) → 0 < unsigned_abs y → Kept x y ⊎ Turned x y
modulus_rem (pos a) (pos zero) h = absurd (omega arith)
modulus_rem (pos a) (pos (suc b)) h = inl (record { rest = refl; alike = inr (not_negative a ∙ sym (not_negative (suc b))) })
modulus_rem (pos zero) (negsuc b) h = inl (record { rest = omega (arith, ints); alike = inl (omega (arith, ints)) })
modulus_rem (pos (suc a)) (negsuc b) h =
    elim (mod-suc a (suc b) (omega arith)) [
      | inl w ↦ inl (record { rest = omega (arith, ints); alike = inl (omega (arith, ints)) })
      | inr w ↦ inr (record { rest = omega (arith, ints); left = λ e. absurd (omega (arith, ints)); unlike = λ e. cc (not_negative (suc a)) })
    ]
modulus_rem (negsuc a) (pos zero) h = absurd (omega arith)
modulus_rem (negsuc a) (pos (suc b)) h =
    elim (mod-suc a (suc b) (omega arith)) [
      | inl w ↦ inl (record { rest = omega (arith, ints); alike = inl (omega (arith, ints)) })
      | inr w ↦ inr (record { rest = omega (arith, ints); left = λ e. absurd (omega (arith, ints)); unlike = λ e. cc (not_negative (suc b)) })
    ]
modulus_rem (negsuc a) (negsuc b) h = inl (record { rest = refl; alike = inr refl })

-- quotient and rest of whole numbers
pub give_dividend : (x y : ℤ) → 0 < unsigned_abs y → GiveDividend x y (int_div x y) (modulus x y)
give_dividend x y h =
    elim (modulus_rem x y h) [
      | inl k ↦ (λ _. ap (λ r. int_div x y *ℤ y +ℤ r) k.rest ∙ quot-rem x y, λ left unlike. absurd (elim k.alike [ inl e ↦ left e | inr e ↦ unlike e ]))
      | inr t ↦ (
        λ alike. absurd (elim alike [ inl e ↦ t.left e | inr e ↦ t.unlike e ]),
        λ _ _. ap (λ r. int_div x y *ℤ y +ℤ r) t.rest ∙ sym (+ℤ_assoc (int_div x y *ℤ y) (int_rem x y) y) ∙ ap (λ z. z +ℤ y) (quot-rem x y),
      )
    ]

negated_rest : (k b : ℕ) → k < suc b → IsRest (neg_ℤ (pos k)) (negsuc b)
negated_rest zero b h = (omega arith, inl refl)
negated_rest (suc k) b h = (h, inr refl)

pub is_rest : (x y : ℤ) → 0 < unsigned_abs y → IsRest (modulus x y) y
is_rest (pos a) (pos zero) h = absurd (omega arith)
is_rest (pos a) (pos (suc b)) h = (omega arith, inr (not_negative (a % suc b) ∙ sym (not_negative (suc b))))
is_rest (negsuc a) (pos zero) h = absurd (omega arith)
is_rest (negsuc a) (pos (suc b)) h = (omega arith, inr (not_negative (suc b - 1 - a % suc b) ∙ sym (not_negative (suc b))))
is_rest (pos zero) (negsuc b) h = negated_rest (0 % suc b) b (omega arith)
is_rest (pos (suc a)) (negsuc b) h = negated_rest (suc b - 1 - a % suc b) b (omega arith)
is_rest (negsuc a) (negsuc b) h = negated_rest (suc a % suc b) b (omega arith)

-- both are numbers that a word stands for
negated_fits : (k : ℕ) → k ≤ 2147483648 → FitsSigned w32 (neg_ℤ (pos k))
negated_fits zero h = record { sfits = omega arith }
negated_fits (suc k) h = record { sfits = omega arith }

quotient_fits : (x y : ℤ) → FitsSigned w32 x → 0 < unsigned_abs y → (x ≡ negsuc 2147483647 → y ≡ negsuc 0 → ⊥) → FitsSigned w32 (int_div x y)
quotient_fits (pos a) (pos b) f h least = record { sfits = omega (arith, div-le_self a b) }
quotient_fits (pos a) (negsuc b) f h least = negated_fits (a / suc b) (omega (arith, div-le_self a (suc b)))
quotient_fits (negsuc a) (pos b) f h least = negated_fits (suc a / b) (omega (arith, div-le_self (suc a) b))
quotient_fits (negsuc a) (negsuc zero) f h least =
    let other : a ≢ 2147483647 = λ e. least (ap negsuc e) refl in
    record { sfits = omega arith }
quotient_fits (negsuc a) (negsuc (suc b)) f h least =
    record { sfits = div_below (suc a) (suc (suc b)) 2147483648 (omega arith) (omega arith) }

rest_fits : (x y : ℤ) → FitsSigned w32 y → 0 < unsigned_abs y → FitsSigned w32 (modulus x y)
rest_fits x y f h = fits_signed_from_abs w32 (modulus x y) (omega (arith, (is_rest x y h).0, nat_abs-le y f.sfits))

int_fits : (a : ℕ) → a < 2 ^ 32 → FitsSigned w32 (value true a)
int_fits a h = sfits_to_z {w = w32} {n = a} (record { fits = h })

-- what a word stands for whose number fits
value_of_fitting : (z : ℤ) → FitsSigned w32 z → value true (word_of z) ≡ z
value_of_fitting z f = ap (cast_signed w32) (word_of_fitting z f) ∙ to_z-of_z w32 z f

value_of_word : (n : ℕ) → n < 2 ^ 32 → value false (word_of (pos n)) ≡ pos n
value_of_word n h = ap pos (omega arith)

-- what it means that a quotient is not left open
record Open (a b : ℕ) : Type 0 where
  some : 0 < unsigned_abs (value true b)
  least : value true a ≡ negsuc 2147483647 → value true b ≡ negsuc 0 → ⊥

not_open : (a b : ℕ) → a < 2 ^ 32 → b < 2 ^ 32 → is_free_quotient true a b ≡ false → Open a b
not_open a b h k e = record {
  some =
      let apart : b ≢ 0 = grind (arith, nat_tests) in
      elim (value_cases b k) [ inl p ↦ rw p (omega arith) | inr n ↦ rw n.1 (omega arith) ];
  least = λ x y.
      let is_least : a ≡ 2147483648 = sym (word_of_value true a h) ∙ ap word_of x in
      let is_minus_one : b ≡ 4294967295 = sym (word_of_value true b k) ∙ ap word_of y in
      let free : is_free_quotient true a b ≡ true = rw (is_least, is_minus_one) refl in
      cc;
}

-- the laws, of the words of operators
pub rest_of_words : (signed : Bool) (a b : ℕ) → a < 2 ^ 32 → b < 2 ^ 32 → is_free_quotient signed a b ≡ false
    → IsRest (value signed (word_of (modulus (value signed a) (value signed b)))) (value signed b)
rest_of_words true a b h k e =
    let known : Open a b = not_open a b h k e in
    rw (value_of_fitting (modulus (value true a) (value true b)) (rest_fits (value true a) (value true b) (int_fits b k) known.some)) (is_rest (value true a) (value true b) known.some)
rest_of_words false a b h k e =
    let some : 0 < b = grind (arith, nat_tests) in
    subst (λ (r : ℤ). IsRest r (pos b)) (sym (value_of_word (a % b) (omega (arith, mod_below a b some)))) (is_rest (pos a) (pos b) some)

pub dividend_of_words : (signed : Bool) (a b : ℕ) → a < 2 ^ 32 → b < 2 ^ 32 → is_free_quotient signed a b ≡ false
    → GiveDividend (value signed a) (value signed b) (value signed (word_of (int_div (value signed a) (value signed b)))) (value signed (word_of (modulus (value signed a) (value signed b))))
dividend_of_words true a b h k e =
    let known : Open a b = not_open a b h k e in
    rw (
      value_of_fitting (modulus (value true a) (value true b)) (rest_fits (value true a) (value true b) (int_fits b k) known.some),
      value_of_fitting (int_div (value true a) (value true b)) (quotient_fits (value true a) (value true b) (int_fits a h) known.some known.least),
    ) (give_dividend (value true a) (value true b) known.some)
dividend_of_words false a b h k e =
    let some : 0 < b = grind (arith, nat_tests) in
    subst (λ (q : ℤ). GiveDividend (pos a) (pos b) q (value false (word_of (pos (a % b))))) (sym (value_of_word (a / b) (omega (arith, div-le_self a b))))
    (subst (λ (r : ℤ). GiveDividend (pos a) (pos b) (pos (a / b)) r) (sym (value_of_word (a % b) (omega (arith, mod_below a b some)))) (give_dividend (pos a) (pos b) some))
