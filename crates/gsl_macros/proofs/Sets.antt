-- Numbers that are among others.
use Rattle.std.proofs.Common.{◌≡◌, ℕ, ◌<◌, ◌≤◌, min, max, Bool, true, false, ◌==◌, ◌&&◌, ◌||◌, List, [], ◌∷◌, ◌++◌, if◌then◌else◌, refl, ap, sym, ◌∙◌, arith, true≢false, eq-eqb}
use Rattle.std.proofs.lemmas.Bool.{eqb-true}
use Rattle.gsl_macros.specs.Hiding.{among, shared, apart, least, greatest, same, flat, in_any, follows}

or_assoc : (a b c : Bool) → (a || (b || c)) ≡ ((a || b) || c)
or_assoc true b c = refl
or_assoc false b c = refl

or_true : (a : Bool) → (a || true) ≡ true
or_true true = refl
or_true false = refl

pub among_append : (n : ℕ) (a b : List ℕ) → among n (a ++ b) ≡ (among n a || among n b)
among_append n [] b = refl
among_append n (x ∷ a) b = ap (λ r. x == n || r) (among_append n a b) ∙ or_assoc (x == n) (among n a) (among n b)

pub in_any_flat : (n : ℕ) (lists : List (List ℕ)) → in_any n lists ≡ among n (flat lists)
in_any_flat n [] = refl
in_any_flat n (l ∷ lists) = ap (λ b. among n l || b) (in_any_flat n lists) ∙ sym (among_append n l (flat lists))

-- a number is in front or in one of the lists
pub has_is : (n : ℕ) (front all whole : List ℕ) (lists : List (List ℕ)) → flat lists ≡ all → front ++ all ≡ whole → (among n front || in_any n lists) ≡ among n whole
has_is n front all whole lists e w =
    ap (λ b. among n front || b) (in_any_flat n lists ∙ ap (among n) e) ∙ sym (among_append n front all) ∙ ap (among n) w

-- ---- all of some are among others

among_first : (x : ℕ) (xs : List ℕ) → among x (x ∷ xs) ≡ true
among_first x xs = ap (λ b. b || among x xs) (eq-eqb x x refl)

among_later : (x m : ℕ) (xs : List ℕ) → among m xs ≡ true → among m (x ∷ xs) ≡ true
among_later x m xs e = ap (λ b. x == m || b) e ∙ or_true (x == m)

shared_covered : (xs ys : List ℕ) → ((m : ℕ) → among m xs ≡ true → among m ys ≡ true) → shared xs ys ≡ xs
shared_covered [] ys h = refl
shared_covered (x ∷ xs) ys h =
    ap (λ b. if b then x ∷ shared xs ys else shared xs ys) (h x (among_first x xs)) ∙ ap (λ l. x ∷ l) (shared_covered xs ys (λ m e. h m (among_later x m xs e)))

apart_covered : (xs ys : List ℕ) → ((m : ℕ) → among m xs ≡ true → among m ys ≡ true) → apart xs ys ≡ []
apart_covered [] ys h = refl
apart_covered (x ∷ xs) ys h =
    ap (λ b. if b then apart xs ys else x ∷ apart xs ys) (h x (among_first x xs)) ∙ apart_covered xs ys (λ m e. h m (among_later x m xs e))

by_and : (a b : Bool) → (a && b) ≡ true → (a ≡ true) × (b ≡ true)
by_and true b e = (refl, e)
by_and false b e = absurd (true≢false (sym e))

same_is : (xs ys : List ℕ) → same xs ys ≡ true → xs ≡ ys
same_is [] [] e = refl
same_is [] (y ∷ ys) e = absurd (true≢false (sym e))
same_is (x ∷ xs) [] e = absurd (true≢false (sym e))
same_is (x ∷ xs) (y ∷ ys) e =
    let p = by_and (x == y) (same xs ys) e in
    ap (λ z. z ∷ xs) (eqb-true x y p.0) ∙ ap (λ l. y ∷ l) (same_is xs ys p.1)

pub shared_same : (xs ys : List ℕ) → same xs ys ≡ true → shared xs ys ≡ xs
shared_same xs ys e = sym (ap (shared xs) (same_is xs ys e)) ∙ shared_covered xs xs (λ m h. h)

apart_behind : (n : ℕ) (xs ys : List ℕ) → same xs ys ≡ true → apart xs (n ∷ ys) ≡ []
apart_behind n xs ys e = sym (ap (λ l. apart xs (n ∷ l)) (same_is xs ys e)) ∙ apart_covered xs (n ∷ xs) (λ m h. among_later n m xs h)

pub apart_follows : (xs ys : List ℕ) → follows xs ys ≡ true → apart xs ys ≡ []
apart_follows xs [] e = absurd (true≢false (sym e))
apart_follows xs (y ∷ ys) e = apart_behind y xs ys e

-- ---- between the least and the greatest

false_of : (b : Bool) → (b ≡ true → ⊥) → b ≡ false
false_of true h = absurd (h refl)
false_of false h = refl

or_cases : (a b : Bool) (P : Type 0) → (a || b) ≡ true → (a ≡ true → P) → (b ≡ true → P) → P
or_cases true b P e f g = f refl
or_cases false b P e f g = g e

least_low : (low : ℕ) (ns : List ℕ) → least low ns ≤ low
least_low low [] = omega arith
least_low low (n ∷ ns) = let h = least_low (min low n) ns in omega arith

least_among : (low n : ℕ) (ns : List ℕ) → among n ns ≡ true → least low ns ≤ n
least_among low n [] e = absurd (true≢false (sym e))
least_among low n (x ∷ ns) e =
    or_cases (x == n) (among n ns) (least (min low x) ns ≤ n) e
    (λ q. let i : x ≡ n = eqb-true x n q in let h = least_low (min low x) ns in omega arith)
    (λ q. least_among (min low x) n ns q)

pub below_least : (low n : ℕ) (ns : List ℕ) → n < least low ns → among n ns ≡ false
below_least low n ns h = false_of (among n ns) (λ e. let k = least_among low n ns e in absurd (omega arith))

greatest_high : (high : ℕ) (ns : List ℕ) → high ≤ greatest high ns
greatest_high high [] = omega arith
greatest_high high (n ∷ ns) = let h = greatest_high (max high n) ns in omega arith

greatest_among : (high n : ℕ) (ns : List ℕ) → among n ns ≡ true → n ≤ greatest high ns
greatest_among high n [] e = absurd (true≢false (sym e))
greatest_among high n (x ∷ ns) e =
    or_cases (x == n) (among n ns) (n ≤ greatest (max high x) ns) e
    (λ q. let i : x ≡ n = eqb-true x n q in let h = greatest_high (max high x) ns in omega arith)
    (λ q. greatest_among (max high x) n ns q)

pub above_greatest : (high n : ℕ) (ns : List ℕ) → greatest high ns < n → among n ns ≡ false
above_greatest high n ns h = false_of (among n ns) (λ e. let k = greatest_among high n ns e in absurd (omega arith))
