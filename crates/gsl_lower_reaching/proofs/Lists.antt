-- Positions among positions.
use Rattle.std.proofs.Common.{◌≡◌, ◌≢◌, refl, sym, ap, ap₂, ◌∙◌, ℕ, zero, suc, ◌<◌, Bool, true, false, ◌||◌, List, [], ◌∷◌, map, length, arith}
use Rattle.std.specs.Prelude.{nat_eq, slice_index}
use Rattle.std.specs.List.{AllByRecursion, list_any}
use Rattle.std.proofs.lemmas.Bool.{eqb-true, true≢false}
use Rattle.gsl_tree.specs.Paths.{repeats}

-- what all of some numbers have, the one at an index has
pub index_has : (P : ℕ → Type 0) (ps : List ℕ) (i : ℕ) → AllByRecursion P ps → i < length ps → P (slice_index ps i)
index_has P [] i all less = absurd (let z : i < 0 = less in omega (arith, z))
index_has P (p ∷ ps) zero all less = all.0
index_has P (p ∷ ps) (suc i) all less = index_has P ps i all.1 (let z : suc i < suc (length ps) = less in omega (arith, z))

pub indexes_have : (P : ℕ → Type 0) (ps is : List ℕ) → AllByRecursion P ps → AllByRecursion (λ i. i < length ps) is → AllByRecursion P (map (slice_index ps) is)
indexes_have P ps [] all less = tt
indexes_have P ps (i ∷ is) all less = (index_has P ps i all less.0, indexes_have P ps is all less.1)

pub index_mapped : (g : ℕ → ℕ) (ps : List ℕ) (i : ℕ) → i < length ps → slice_index (map g ps) i ≡ g (slice_index ps i)
index_mapped g [] i less = absurd (let z : i < 0 = less in omega (arith, z))
index_mapped g (p ∷ ps) zero less = refl
index_mapped g (p ∷ ps) (suc i) less = index_mapped g ps i (let z : suc i < suc (length ps) = less in omega (arith, z))

pub indexes_mapped : (g : ℕ → ℕ) (ps is : List ℕ) → AllByRecursion (λ i. i < length ps) is → map g (map (slice_index ps) is) ≡ map (slice_index (map g ps)) is
indexes_mapped g ps [] less = refl
indexes_mapped g ps (i ∷ is) less = ap₂ (λ a b. a ∷ b) (sym (index_mapped g ps i less.0)) (indexes_mapped g ps is less.1)

pub map_same : (ps : List ℕ) → map (λ p. p) ps ≡ ps
map_same [] = refl
map_same (p ∷ ps) = ap (λ l. p ∷ l) (map_same ps)

-- of one number each index gives that one
pub index_of_one : (k : ℕ) (is : List ℕ) → AllByRecursion (λ i. i < 1) is → map (slice_index (k ∷ [])) is ≡ map (λ i. k) is
index_of_one k [] less = refl
index_of_one k (zero ∷ is) less = ap (λ l. k ∷ l) (index_of_one k is less.1)
index_of_one k (suc i ∷ is) less = absurd (let z : suc i < 1 = less.0 in omega (arith, z))

pub map_again : (k : ℕ) (g : ℕ → ℕ) (is : List ℕ) → map (λ i. k) (map g is) ≡ map (λ i. k) is
map_again k g [] = refl
map_again k g (i ∷ is) = ap (λ l. k ∷ l) (map_again k g is)

-- ---- what does not repeat

or_parts : (a b : Bool) → (a || b) ≡ false → (a ≡ false) × (b ≡ false)
or_parts true b e = absurd (true≢false e)
or_parts false b e = (refl, e)

or_from : (a b : Bool) → a ≡ false → b ≡ false → (a || b) ≡ false
or_from a b p q = ap (λ c. c || b) p ∙ q

self_same : (n : ℕ) → nat_eq n n ≡ true
self_same n = grind arith

differs_at : (p : ℕ) (ps : List ℕ) (i : ℕ) → list_any (λ q. nat_eq p q) ps ≡ false → i < length ps → nat_eq p (slice_index ps i) ≡ false
differs_at p [] i none less = absurd (let z : i < 0 = less in omega (arith, z))
differs_at p (q ∷ ps) zero none less = (or_parts (nat_eq p q) (list_any (λ q. nat_eq p q) ps) none).0
differs_at p (q ∷ ps) (suc i) none less = differs_at p ps i (or_parts (nat_eq p q) (list_any (λ q. nat_eq p q) ps) none).1 (let z : suc i < suc (length ps) = less in omega (arith, z))

not_same : (a b : ℕ) → nat_eq a b ≡ false → a ≢ b
not_same a b e same = true≢false (sym (self_same a) ∙ ap (nat_eq a) same ∙ e)

is_not_same : (a b : ℕ) → a ≢ b → nat_eq a b ≡ false
is_not_same a b other = by (nat_eq a b) refl
  where
    by : (t : Bool) → nat_eq a b ≡ t → t ≡ false
    by true e = absurd (other (eqb-true a b e))
    by false e = refl

-- where nothing repeats, different indexes give different numbers
index_differs : (ps : List ℕ) (i j : ℕ) → repeats ps ≡ false → i < length ps → j < length ps → i ≢ j → slice_index ps i ≢ slice_index ps j
index_differs [] i j once less_i less_j other = absurd (let z : i < 0 = less_i in omega (arith, z))
index_differs (p ∷ ps) zero zero once less_i less_j other = absurd (other refl)
index_differs (p ∷ ps) zero (suc j) once less_i less_j other =
    not_same p (slice_index ps j) (differs_at p ps j (or_parts (list_any (λ q. nat_eq p q) ps) (repeats ps) once).0 (let z : suc j < suc (length ps) = less_j in omega (arith, z)))
index_differs (p ∷ ps) (suc i) zero once less_i less_j other =
    (λ e. not_same p (slice_index ps i) (differs_at p ps i (or_parts (list_any (λ q. nat_eq p q) ps) (repeats ps) once).0 (let z : suc i < suc (length ps) = less_i in omega (arith, z))) (sym e))
index_differs (p ∷ ps) (suc i) (suc j) once less_i less_j other =
    index_differs ps i j (or_parts (list_any (λ q. nat_eq p q) ps) (repeats ps) once).1 (let z : suc i < suc (length ps) = less_i in omega (arith, z)) (let z : suc j < suc (length ps) = less_j in omega (arith, z)) (λ e. other (ap suc e))

none_again : (ps : List ℕ) (i : ℕ) (is : List ℕ) → repeats ps ≡ false → i < length ps → AllByRecursion (λ i. i < length ps) is → list_any (λ q. nat_eq i q) is ≡ false → list_any (λ q. nat_eq (slice_index ps i) q) (map (slice_index ps) is) ≡ false
none_again ps i [] once less all none = refl
none_again ps i (j ∷ is) once less all none =
    let parts = or_parts (nat_eq i j) (list_any (λ q. nat_eq i q) is) none in
    or_from (nat_eq (slice_index ps i) (slice_index ps j)) (list_any (λ q. nat_eq (slice_index ps i) q) (map (slice_index ps) is))
    (is_not_same (slice_index ps i) (slice_index ps j) (index_differs ps i j once less all.0 (not_same i j parts.0))) (none_again ps i is once less all.1 parts.1)

pub picked_once : (ps is : List ℕ) → repeats ps ≡ false → repeats is ≡ false → AllByRecursion (λ i. i < length ps) is → repeats (map (slice_index ps) is) ≡ false
picked_once ps [] once other all = refl
picked_once ps (i ∷ is) once other all =
    let parts = or_parts (list_any (λ q. nat_eq i q) is) (repeats is) other in
    or_from (list_any (λ q. nat_eq (slice_index ps i) q) (map (slice_index ps) is)) (repeats (map (slice_index ps) is)) (none_again ps i is once all.0 all.1 parts.0) (picked_once ps is once parts.1 all.1)
