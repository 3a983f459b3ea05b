-- Printed numbers are read, and the word of a line.
use Rattle.std.proofs.Common.{◌≡◌, ℕ, zero, suc, ◌<◌, ◌^◌, Bool, true, false, ◌&&◌, List, [], ◌∷◌, length, get_or, take, Some, refl, ap, ◌∙◌, arith, eqb, ltb, codes}
use Rattle.std.proofs.lemmas.Bool.{and_parts, and_from, lt-ltb, ltb-true, ne_eqb, cond-true, cond-false}
use Rattle.std.proofs.lemmas.Fmt.{decimal_is_IsNumeral, decimal_digit, first_decimal}
use Rattle.std.proofs.lemmas.Str.{IsUtf8-from_ascii}
use Rattle.std.proofs.lemmas.Str.Parse.{digit_from_value}
use Rattle.std.specs.List.{list_all}
use Rattle.std.specs.Fmt.{decimal}
use Rattle.std.specs.Char.{digit_value}
use Rattle.std.specs.Str.{IsUtf8, IsAscii, bytes_eq}
use Rattle.std.specs.Str.Parse.{AllDigits, digits_value}
use Rattle.gsl_manifest.specs.declared.meaning.Keyword.{Keyword}
use Rattle.gsl_manifest.specs.declared.meaning.Meaning.{Meaning}
use Rattle.gsl_base.specs.Ranges.{AreWords}
use Rattle.gsl_text.specs.Numbers.{◌>>=◌, are_digits, natural}
use Rattle.gsl_manifest.specs.Numbers.{leads_with_zero, decimal_of, unsigned, number}
use Rattle.gsl_manifest.specs.Fields.{field_at}
use Rattle.gsl_manifest.specs.Meanings.{keyword_of, fields_say, sentence}

-- Digits of a number, as a field.
pub record IsDigits (n : ℕ) (ds : List ℕ) : Type 0 where
  pub some : 0 < length ds
  pub all : AllDigits 10 ds
  pub value : digits_value 10 ds ≡ n
  pub plain : leads_with_zero ds ≡ false

plain_above : (ds : List ℕ) → 48 < get_or ds 0 0 → leads_with_zero ds ≡ false
plain_above [] above = refl
plain_above (d ∷ []) above = refl
plain_above (d ∷ e ∷ ds) above = ne_eqb d 48 (λ same. omega arith)

-- what is printed has no zero in front
plain_decimal : (n : ℕ) → n < 2 ^ 32 → leads_with_zero (decimal n) ≡ false
plain_decimal zero small = ap leads_with_zero (decimal_digit 0 (omega arith))
plain_decimal (suc n) small = plain_above (decimal (suc n)) (first_decimal (suc n) (omega arith) (omega arith))

pub decimal_digits : (n : ℕ) → n < 2 ^ 32 → IsDigits n (decimal n)
decimal_digits n small = let d = decimal_is_IsNumeral n (omega arith) in record { some = d.0.0; all = d.0.1; value = d.1; plain = plain_decimal n small }

are_digits_of : (radix : ℕ) (ds : List ℕ) → AllDigits radix ds → are_digits radix ds ≡ true
are_digits_of radix [] all = refl
are_digits_of radix (d ∷ ds) all = and_from _ _ (lt-ltb _ _ all.0) (are_digits_of radix ds all.1)

pub natural_is : (radix : ℕ) (ds : List ℕ) → 0 < length ds → AllDigits radix ds → digits_value radix ds < 2 ^ 32 → natural radix ds ≡ Some (digits_value radix ds)
unfolding natural
natural_is radix ds some all small = cond-true _ _ _ (and_from _ _ (and_from _ _ (lt-ltb _ _ some) (are_digits_of radix ds all)) (lt-ltb _ _ small))

natural_digits : (n : ℕ) (ds : List ℕ) → n < 2 ^ 32 → IsDigits n ds → natural 10 ds ≡ Some n
natural_digits n ds small d = natural_is 10 ds d.some d.all (omega (arith, d.value)) ∙ ap Some d.value

digit_not : (c x : ℕ) → digit_value c < 10 → (57 < x) → eqb c x ≡ false
digit_not c x d high = ne_eqb c x (λ e. omega (arith, (digit_from_value c d).1))

pub digit_above : (c x : ℕ) → digit_value c < 10 → (x < 48) → eqb c x ≡ false
digit_above c x d low = ne_eqb c x (λ e. omega (arith, (digit_from_value c d).0))

no_0x : (ds : List ℕ) → AllDigits 10 ds → bytes_eq (take 2 ds) (codes "0x") ≡ false
no_0x [] all = refl
no_0x (a ∷ []) all = and_right_false (eqb a 48)
  where
    and_right_false : (b : Bool) → (b && false) ≡ false
    and_right_false true = refl
    and_right_false false = refl
no_0x (a ∷ b ∷ ds) all = two (eqb a 48) (eqb b 120) (digit_not b 120 all.1.0 (omega arith))
  where
    two : (x y : Bool) → y ≡ false → (x && (y && true)) ≡ false
    two true y e = ap (λ z. z && true) e
    two false y e = refl

no_minus : (ds : List ℕ) → AllDigits 10 ds → bytes_eq (take 1 ds) (codes "-") ≡ false
no_minus [] all = refl
no_minus (a ∷ ds) all = ap (λ z. z && true) (digit_above a 45 all.0 (omega arith))

pub decimal_digits_of : (n : ℕ) (ds : List ℕ) → n < 2 ^ 32 → IsDigits n ds → decimal_of ds ≡ Some n
unfolding decimal_of
decimal_digits_of n ds small d = cond-false _ _ _ d.plain ∙ natural_digits n ds small d

pub unsigned_digits : (n : ℕ) (ds : List ℕ) → n < 2 ^ 32 → IsDigits n ds → unsigned ds ≡ Some n
unsigned_digits n ds small d = cond-false _ _ _ (no_0x ds d.all) ∙ decimal_digits_of n ds small d

pub number_digits : (n : ℕ) (ds : List ℕ) → n < 2 ^ 32 → IsDigits n ds → number ds ≡ Some n
number_digits n ds small d = cond-false _ _ _ (no_minus ds d.all) ∙ unsigned_digits n ds small d

-- the whole line
pub word_read : (line fields : List ℕ) (word : List ℕ) (keyword : Keyword) (m : Meaning) → field_at line ≡ (word, fields) → keyword_of word ≡ Some keyword → fields_say keyword fields ≡ Some m → sentence line ≡ Some m
unfolding sentence
word_read line fields word keyword m cut is says =
    ap (λ p. keyword_of p.0 >>= λ k. fields_say k p.1) cut ∙ ap (λ found. found >>= λ k. fields_say k fields) is ∙ says

-- printed lines are text
pub ascii_text : (bytes : List ℕ) → list_all (λ b. ltb b 128) bytes ≡ true → IsUtf8 bytes
ascii_text bytes all = IsUtf8-from_ascii bytes (below bytes all)
  where
    below : (bytes : List ℕ) → list_all (λ b. ltb b 128) bytes ≡ true → IsAscii bytes
    below [] all i = omega arith
    below (b ∷ bytes) all zero = ltb-true b 128 (and_parts _ _ all).0
    below (b ∷ bytes) all (suc i) = below bytes (and_parts (ltb b 128) _ all).1 i

pub one_fits : (n : ℕ) → n < 2 ^ 32 → AreWords (n ∷ [])
one_fits n small = (small, tt)
