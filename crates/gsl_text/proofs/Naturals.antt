-- What digits write, as far as they were read.
use Rattle.std.proofs.Common.{◌≡◌, ℕ, zero, suc, ◌+◌, ◌*◌, ◌<◌, ◌≤◌, ◌^◌, true, false, List, [], ◌∷◌, length, get_or, take, Some, None, refl, ap, sym, ◌∙◌, arith, eqb, ltb, add-one}
use Rattle.std.proofs.lemmas.Bool.{and_parts, and_from, and_left, and_right, lt-ltb, le-ltb, cond-true, cond-false}
use Rattle.std.proofs.lemmas.Str.Parse.{digits_value-take-le}
use Rattle.std.proofs.lemmas.Bool.Decides.{nat_tests}
use Rattle.std.proofs.lemmas.List.{take_all}
use Rattle.std.specs.Char.{digit_value}
use Rattle.std.specs.Str.Parse.{digits_value, digits_value_after}
use Rattle.gsl_text.specs.Numbers.{are_digits, natural}

value_more : (base n i : ℕ) (ds : List ℕ) → i < length ds →
    digits_value_after base n (take (suc i) ds) ≡ digits_value_after base n (take i ds) * base + digit_value (get_or ds i 0)
value_more base n i [] within = absurd (omega arith)
value_more base n zero (d ∷ ds) within = refl
value_more base n (suc i) (d ∷ ds) within = value_more base (n * base + digit_value d) i ds (omega arith)

-- one digit more
pub value_step : (base i : ℕ) (ds : List ℕ) → i < length ds →
    digits_value base (take (i + 1) ds) ≡ digits_value base (take i ds) * base + digit_value (get_or ds i 0)
value_step base i ds within = ap (λ k. digits_value base (take k ds)) (add-one i) ∙ value_more base 0 i ds within

digits_more : (base i : ℕ) (ds : List ℕ) → i < length ds → are_digits base (take i ds) ≡ true → digit_value (get_or ds i 0) < base → are_digits base (take (suc i) ds) ≡ true
digits_more base i [] within all here = absurd (omega arith)
digits_more base zero (d ∷ ds) within all here = and_from _ _ (lt-ltb _ _ here) refl
digits_more base (suc i) (d ∷ ds) within all here =
    let parts = and_parts _ _ all in
    and_from _ _ parts.0 (digits_more base i ds (omega arith) parts.1 here)

pub digits_step : (base i : ℕ) (ds : List ℕ) → i < length ds → are_digits base (take i ds) ≡ true → digit_value (get_or ds i 0) < base → are_digits base (take (i + 1) ds) ≡ true
digits_step base i ds within all here = ap (λ k. are_digits base (take k ds)) (add-one i) ∙ digits_more base i ds within all here

not_digits : (base i : ℕ) (ds : List ℕ) → i < length ds → base ≤ digit_value (get_or ds i 0) → are_digits base ds ≡ false
not_digits base i [] within here = absurd (omega arith)
not_digits base zero (d ∷ ds) within here = and_left _ _ (le-ltb _ _ here)
not_digits base (suc i) (d ∷ ds) within here = and_right _ _ (not_digits base i ds (omega arith) here)

pub natural_of_none : (base : ℕ) (ds : List ℕ) → length ds ≡ 0 → None ≡ natural base ds
unfolding natural
natural_of_none base [] none = refl
natural_of_none base (d ∷ ds) none = absurd (omega arith)

-- a byte that is no digit
pub natural_stops : (base i : ℕ) (ds : List ℕ) → i < length ds → base ≤ digit_value (get_or ds i 0) → None ≡ natural base ds
unfolding natural
natural_stops base i ds within here = sym (cond-false _ _ _ (and_left _ _ (and_right _ _ (not_digits base i ds within here))))

-- digits that write too much already
natural_large : (base i : ℕ) (ds : List ℕ) → 1 ≤ base → 2 ^ 32 ≤ digits_value base (take i ds) → None ≡ natural base ds
unfolding natural
natural_large base i ds some large =
    let whole : 2 ^ 32 ≤ digits_value base ds = omega (arith, digits_value-take-le base ds i some) in
    sym (cond-false _ _ _ (and_right _ _ (le-ltb _ _ whole)))

-- a product or a sum that no word holds
pub natural_large_product : (base i v : ℕ) (ds : List ℕ) → i < length ds → 1 ≤ base → v ≡ digits_value base (take i ds) → (v * base < 2 ^ 32 → ⊥) → None ≡ natural base ds
natural_large_product base i v ds within some is large =
    let next : digits_value base (take (i + 1) ds) ≡ v * base + digit_value (get_or ds i 0) = value_step base i ds within ∙ ap (λ n. n * base + digit_value (get_or ds i 0)) (sym is) in
    let whole : 2 ^ 32 ≤ digits_value base (take (i + 1) ds) = omega arith in
    natural_large base (i + 1) ds some whole

pub natural_large_sum : (base i v d p : ℕ) (ds : List ℕ) → i < length ds → 1 ≤ base → v ≡ digits_value base (take i ds) → p ≡ v * base → d ≡ digit_value (get_or ds i 0) → (p + d < 2 ^ 32 → ⊥) → None ≡ natural base ds
natural_large_sum base i v d p ds within some is product digit large =
    let next : digits_value base (take (i + 1) ds) ≡ v * base + digit_value (get_or ds i 0) = value_step base i ds within ∙ ap (λ n. n * base + digit_value (get_or ds i 0)) (sym is) in
    let whole : 2 ^ 32 ≤ digits_value base (take (i + 1) ds) = omega arith in
    natural_large base (i + 1) ds some whole

natural_whole : (base n : ℕ) (ds : List ℕ) → 1 ≤ length ds → are_digits base ds ≡ true → n ≡ digits_value base ds → n < 2 ^ 32 → Some n ≡ natural base ds
unfolding natural
natural_whole base n ds some all is small =
    let one : ltb 0 (length ds) ≡ true = lt-ltb _ _ (omega arith) in
    let fits : ltb (digits_value base ds) (2 ^ 32) ≡ true = lt-ltb _ _ (omega arith) in
    ap Some is ∙ sym (cond-true _ _ _ (and_from _ _ (and_from _ _ one all) fits))

pub natural_ends : (base i n : ℕ) (ds : List ℕ) → length ds ≤ i → eqb (length ds) 0 ≡ false → are_digits base (take i ds) ≡ true → n ≡ digits_value base (take i ds) → n < 2 ^ 32 → Some n ≡ natural base ds
natural_ends base i n ds end more all is small =
    let whole = take_all i ds end in
    let some : 1 ≤ length ds = grind (arith, nat_tests) in
    natural_whole base n ds some (ap (are_digits base) (sym whole) ∙ all) (is ∙ ap (digits_value base) whole) small

-- the value so far and the next digit
pub value_next : (base i v d p w : ℕ) (ds : List ℕ) → i < length ds → v ≡ digits_value base (take i ds) → p ≡ v * base → d ≡ digit_value (get_or ds i 0) → w ≡ p + d → w ≡ digits_value base (take (i + 1) ds)
value_next base i v d p w ds within is product digit sum =
    let next : digits_value base (take (i + 1) ds) ≡ v * base + digit_value (get_or ds i 0) = value_step base i ds within ∙ ap (λ n. n * base + digit_value (get_or ds i 0)) (sym is) in
    omega arith
