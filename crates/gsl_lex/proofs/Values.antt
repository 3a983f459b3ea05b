-- The value of digits, as it is read from left to right.
use Rattle.std.proofs.Common.{◌≡◌, ℕ, suc, ◌+◌, ◌*◌, ◌^◌, ◌<◌, ◌≤◌, Bool, true, false, cond, ◌&&◌, List, [], ◌∷◌, length, get_or, drop, Option, Some, None, refl, ap, sym, ◌∙◌, arith, ltb, drop-cons, add-mul, subst}
use Rattle.std.specs.List.{list_all}
use Rattle.std.specs.Char.{digit_value}
use Rattle.std.proofs.lemmas.Bool.{cond-true, cond-false, le-ltb, lt-ltb, ltb-true, ltb-false}
use Rattle.std.proofs.Math.ListN.{drop_of_length-le}
use Rattle.std.proofs.Math.Nat.{pow-zero, pow-succ', mul_assoc, add_assoc, one-le-pow, mul-le-mul_left}
use Rattle.std.proofs.Math.Numerals.{add-one}
use Rattle.gsl_lex.specs.Literals.{value_of, is_digit_of, if_word}

-- the value of a number so far, and the digits that are left
abbrev pub word_on : ℕ → ℕ → List ℕ → Option ℕ
word_on base value digits = cond (list_all (is_digit_of base) digits) (if_word (value * base ^ length digits + value_of base digits)) None

-- the value of a number with one more digit
shifted_on : (base value digit power rest : ℕ) → value * (base * power) + (digit * power + rest) ≡ (value * base + digit) * power + rest
shifted_on base value digit power rest =
    ap (λ n. n + (digit * power + rest)) (sym (mul_assoc value base power))
    ∙ sym (add_assoc (value * base * power) (digit * power) rest)
    ∙ ap (λ n. n + rest) (sym (add-mul (value * base) digit power))

pub on_digit : (base value d : ℕ) (digits : List ℕ) → is_digit_of base d ≡ true → word_on base value (d ∷ digits) ≡ word_on base (value * base + digit_value d) digits
on_digit base value d digits good =
    ap (λ b. cond (b && list_all (is_digit_of base) digits) (if_word (value * base ^ suc (length digits) + (digit_value d * base ^ length digits + value_of base digits))) None) good
    ∙ ap (λ n. cond (list_all (is_digit_of base) digits) (if_word n) None)
    (ap (λ p. value * p + (digit_value d * base ^ length digits + value_of base digits)) (pow-succ' base (length digits)) ∙ shifted_on base value (digit_value d) (base ^ length digits) (value_of base digits))

pub on_other : (base value d : ℕ) (digits : List ℕ) → is_digit_of base d ≡ false → word_on base value (d ∷ digits) ≡ None
on_other base value d digits bad =
    ap (λ b. cond (b && list_all (is_digit_of base) digits) (if_word (value * base ^ suc (length digits) + (digit_value d * base ^ length digits + value_of base digits))) None) bad

not_word : (n : ℕ) → 2 ^ 32 ≤ n → if_word n ≡ None
not_word n large = cond-false _ _ _ (le-ltb n (2 ^ 32) large)

no_choice : {A : Type 0} (b : Bool) (x : Option A) → x ≡ None → cond b x None ≡ None
no_choice true x none = none
no_choice false x none = refl

pub on_large : (base value : ℕ) (digits : List ℕ) → 2 ≤ base → 2 ^ 32 ≤ value → word_on base value digits ≡ None
on_large base value digits some large =
    let power : 1 ≤ base ^ length digits = one-le-pow (length digits) base (omega arith) in
    let more : value * 1 ≤ value * base ^ length digits = mul-le-mul_left value power in
    no_choice _ _ (not_word (value * base ^ length digits + value_of base digits) (omega (arith, more)))

if_some : (n m : ℕ) → Some m ≡ if_word n → m ≡ n
if_some n m e =
    elim (ltb n (2 ^ 32)) as (λ b. Some m ≡ cond b (Some n) None → m ≡ n) [ true ↦ λ h. cc | false ↦ λ h. absurd (cc) ] e

pub if_small : (n m : ℕ) → Some m ≡ if_word n → m < 2 ^ 32
if_small n m e =
    elim (ltb n (2 ^ 32)) as (λ b. ltb n (2 ^ 32) ≡ b → Some m ≡ cond b (Some n) None → m < 2 ^ 32)
    [ true ↦ λ h f. let same : m ≡ n = cc in omega (arith, ltb-true n (2 ^ 32) h, same) | false ↦ λ h f. absurd (cc) ] refl e

if_none : (n : ℕ) → None ≡ if_word n → 2 ^ 32 ≤ n
if_none n e =
    elim (ltb n (2 ^ 32)) as (λ b. ltb n (2 ^ 32) ≡ b → None ≡ cond b (Some n) None → 2 ^ 32 ≤ n) [ true ↦ λ h f. absurd (cc) | false ↦ λ h f. ltb-false n (2 ^ 32) h ] refl e

next_digit : (digits : List ℕ) (i : ℕ) → i < length digits → drop i digits ≡ get_or digits i 0 ∷ drop (i + 1) digits
next_digit digits i within = drop-cons digits i 0 within ∙ ap (λ n. get_or digits i 0 ∷ drop n digits) (sym (add-one i))

taken_in : (base value i d : ℕ) (digits : List ℕ) → i < length digits → digit_value (get_or digits i 0) < base → d ≡ digit_value (get_or digits i 0) →
    word_on base value (drop i digits) ≡ word_on base (value * base + d) (drop (i + 1) digits)
taken_in base value i d digits within good here =
    ap (word_on base value) (next_digit digits i within)
    ∙ on_digit base value (get_or digits i 0) (drop (i + 1) digits) (lt-ltb _ _ good)
    ∙ ap (λ e. word_on base (value * base + e) (drop (i + 1) digits)) (sym here)

pub goes_on : (base value i a d later : ℕ) (digits : List ℕ) (answer : Option ℕ) → i < length digits → a ≡ get_or digits i 0 → digit_value a < base → d ≡ digit_value a →
    Some later ≡ if_word (value * base + d) → word_on base value (drop i digits) ≡ answer → word_on base later (drop (i + 1) digits) ≡ answer
goes_on base value i a d later digits answer within byte good here fits so_far =
    let P : ℕ → Type 0 = λ x. digit_value x < base in
    ap (λ v. word_on base v (drop (i + 1) digits)) (if_some _ later fits) ∙ sym (taken_in base value i d digits within (subst P byte good) (here ∙ ap digit_value byte)) ∙ so_far

pub stops : (base value i a d : ℕ) (digits : List ℕ) (answer : Option ℕ) → 2 ≤ base → i < length digits → a ≡ get_or digits i 0 → digit_value a < base → d ≡ digit_value a →
    None ≡ if_word (value * base + d) → word_on base value (drop i digits) ≡ answer → None ≡ answer
stops base value i a d digits answer some within byte good here large so_far =
    let P : ℕ → Type 0 = λ x. digit_value x < base in
    sym (on_large base (value * base + d) (drop (i + 1) digits) some (if_none _ large)) ∙ sym (taken_in base value i d digits within (subst P byte good) (here ∙ ap digit_value byte)) ∙ so_far

pub ends : (base value i : ℕ) (digits : List ℕ) (answer : Option ℕ) → value < 2 ^ 32 → length digits ≤ i → word_on base value (drop i digits) ≡ answer → Some value ≡ answer
ends base value i digits answer small over so_far =
    let none : drop i digits ≡ [] = drop_of_length-le digits over in
    let one : base ^ 0 ≡ 1 = pow-zero base in
    let all : value * base ^ 0 + 0 ≡ value = ap (λ p. value * p + 0) one ∙ omega arith in
    sym (cond-true _ (Some value) None (lt-ltb value (2 ^ 32) small)) ∙ ap if_word (sym all) ∙ ap (word_on base value) (sym none) ∙ so_far
