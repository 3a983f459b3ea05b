-- The digits of a number that is printed are read as that number.
use Rattle.std.proofs.Common.{◌≡◌, ℕ, ◌<◌, ◌^◌, Bool, true, false, ◌&&◌, List, [], ◌∷◌, length, take, Some, refl, ap, ◌∙◌, arith, eqb, ltb, codes}
use Rattle.std.proofs.lemmas.Bool.{and_from, lt-ltb, ne_eqb, cond-true, cond-false}
use Rattle.std.proofs.lemmas.Fmt.{decimal_is_IsNumeral}
use Rattle.std.proofs.lemmas.Str.Parse.{digit_from_value}
use Rattle.std.specs.Fmt.{decimal}
use Rattle.std.specs.Char.{digit_value}
use Rattle.std.specs.Str.{bytes_eq}
use Rattle.std.specs.Str.Parse.{AllDigits, digits_value}
use Rattle.gsl_text.specs.Numbers.{are_digits, natural, unsigned}

-- Digits of a number, as a field.
pub record IsDigits (n : ℕ) (ds : List ℕ) : Type 0 where
  pub some : 0 < length ds
  pub all : AllDigits 10 ds
  pub value : digits_value 10 ds ≡ n

pub decimal_digits : (n : ℕ) → n < 2 ^ 32 → IsDigits n (decimal n)
decimal_digits n small = let d = decimal_is_IsNumeral n (omega arith) in record { some = d.0.0; all = d.0.1; value = d.1 }

pub are_digits_from : (ds : List ℕ) → AllDigits 10 ds → are_digits 10 ds ≡ true
are_digits_from [] all = refl
are_digits_from (d ∷ ds) all = and_from _ _ (lt-ltb _ _ all.0) (are_digits_from ds all.1)

pub natural_digits : (n : ℕ) (ds : List ℕ) → n < 2 ^ 32 → IsDigits n ds → natural 10 ds ≡ Some n
unfolding natural
natural_digits n ds small d =
    let fits : ltb (digits_value 10 ds) (2 ^ 32) ≡ true = ap (λ k. ltb k (2 ^ 32)) d.value ∙ lt-ltb _ _ small in
    cond-true _ _ _ (and_from _ _ (and_from _ _ (lt-ltb _ _ d.some) (are_digits_from ds d.all)) fits) ∙ ap Some d.value

pub digit_not : (c x : ℕ) → digit_value c < 10 → (57 < x) → eqb c x ≡ false
digit_not c x d high = ne_eqb c x (λ e. omega (arith, (digit_from_value c d).1))

pub digit_above : (c x : ℕ) → digit_value c < 10 → (x < 48) → eqb c x ≡ false
digit_above c x d low = ne_eqb c x (λ e. omega (arith, (digit_from_value c d).0))

pub no_0x : (ds : List ℕ) → AllDigits 10 ds → bytes_eq (take 2 ds) (codes "0x") ≡ false
no_0x [] all = refl
no_0x (a ∷ []) all = and_right_false (eqb a 48)
  where
    and_right_false : (b : Bool) → (b && false) ≡ false
    and_right_false true = refl
    and_right_false false = refl
no_0x (a ∷ b ∷ ds) all = two (eqb a 48) (eqb b 120) (digit_not b 120 all.1.0 (omega arith))
  where
    two : (x y : Bool) → y ≡ false → (x && (y && true)) ≡ false
    two true y e = ap (λ z. z && true) e
    two false y e = refl

pub unsigned_digits : (n : ℕ) (ds : List ℕ) → n < 2 ^ 32 → IsDigits n ds → unsigned ds ≡ Some n
unsigned_digits n ds small d = cond-false _ _ _ (no_0x ds d.all) ∙ natural_digits n ds small d
