-- Positions that do not repeat.
use Rattle.std.proofs.Common.{◌≡◌, ◌≢◌, refl, sym, ap, ◌∙◌, subst, ℕ, zero, suc, ◌+◌, ◌<◌, ◌≤◌, Bool, true, false, ◌||◌, if◌then◌else◌, List, [], ◌∷◌, map, set, length, Option, Some, None, arith}
use Rattle.std.specs.Prelude.{nat_eq}
use Rattle.std.specs.List.{AllByRecursion, list_any}
use Rattle.std.proofs.lemmas.Bool.{eqb-true, true≢false}
use Rattle.std.proofs.lemmas.List.{length-set}
use Rattle.gsl_tree.specs.Paths.{repeats}
use Rattle.gsl_meaning.specs.Accesses.{put_each}
use Rattle.gsl_lower_law_places.specs.Components.{AreWithin, chosen}
use Rattle.gsl_lower_law_places.specs.Storing.{AreStored, goes_to, set_each}

or_parts : (a b : Bool) → (a || b) ≡ false → (a ≡ false) × (b ≡ false)
or_parts true b e = absurd (true≢false e)
or_parts false b e = (refl, e)

or_from : (a b : Bool) → a ≡ false → b ≡ false → (a || b) ≡ false
or_from a b p q = ap (λ c. c || b) p ∙ q

self_same : (n : ℕ) → nat_eq n n ≡ true
self_same n = grind arith

not_same : (a b : ℕ) → nat_eq a b ≡ false → a ≢ b
not_same a b e same = true≢false (sym (self_same a) ∙ ap (nat_eq a) same ∙ e)

pub no_twice : (k : ℕ) (more : List ℕ) → repeats (k ∷ k ∷ more) ≡ false → ⊥
no_twice k more e =
    let first = or_parts (list_any (λ q. nat_eq k q) (k ∷ more)) (repeats (k ∷ more)) e in
    true≢false (sym (self_same k) ∙ (or_parts (nat_eq k k) (list_any (λ q. nat_eq k q) more) first.0).0)

-- ---- no more positions than there are numbers below a bound

-- a list without the first that is a number
abbrev without : ℕ → List ℕ → List ℕ
without n [] = []
without n (p ∷ ps) = if nat_eq n p then ps else (p ∷ without n ps)

long_without : (n : ℕ) (ps : List ℕ) → length ps ≤ length (without n ps) + 1
long_without n [] = omega arith
long_without n (p ∷ ps) = by (long_without n ps) (nat_eq n p)
  where
    by : length ps ≤ length (without n ps) + 1 → (b : Bool) → suc (length ps) ≤ length (if b then ps else (p ∷ without n ps)) + 1
    by more true = omega arith
    by more false = omega (arith, more)

any_without : (n q : ℕ) (ps : List ℕ) → list_any (λ r. nat_eq q r) ps ≡ false → list_any (λ r. nat_eq q r) (without n ps) ≡ false
any_without n q [] none = none
any_without n q (p ∷ ps) none =
    let parts = or_parts (nat_eq q p) (list_any (λ r. nat_eq q r) ps) none in
    by parts.0 parts.1 (any_without n q ps parts.1) (nat_eq n p)
  where
    by : nat_eq q p ≡ false → list_any (λ r. nat_eq q r) ps ≡ false → list_any (λ r. nat_eq q r) (without n ps) ≡ false → (b : Bool) → list_any (λ r. nat_eq q r) (if b then ps else (p ∷ without n ps)) ≡ false
    by other rest more true = rest
    by other rest more false = or_from (nat_eq q p) (list_any (λ r. nat_eq q r) (without n ps)) other more

once_without : (n : ℕ) (ps : List ℕ) → repeats ps ≡ false → repeats (without n ps) ≡ false
once_without n [] once = once
once_without n (p ∷ ps) once =
    let parts = or_parts (list_any (λ r. nat_eq p r) ps) (repeats ps) once in
    by parts.0 parts.1 (once_without n ps parts.1) (nat_eq n p)
  where
    by : list_any (λ r. nat_eq p r) ps ≡ false → repeats ps ≡ false → repeats (without n ps) ≡ false → (b : Bool) → repeats (if b then ps else (p ∷ without n ps)) ≡ false
    by none rest more true = rest
    by none rest more false = or_from (list_any (λ r. nat_eq p r) (without n ps)) (repeats (without n ps)) (any_without n p ps none) more

lower : (n : ℕ) (ps : List ℕ) → AllByRecursion (λ p. p < n + 1) ps → list_any (λ r. nat_eq n r) ps ≡ false → AllByRecursion (λ p. p < n) ps
lower n [] below none = tt
lower n (p ∷ ps) below none =
    let parts = or_parts (nat_eq n p) (list_any (λ r. nat_eq n r) ps) none in
    let other = not_same n p parts.0 in
    (omega (arith, other, below.0), lower n ps below.1 parts.1)

below_without : (n : ℕ) (ps : List ℕ) → AllByRecursion (λ p. p < n + 1) ps → repeats ps ≡ false → AllByRecursion (λ p. p < n) (without n ps)
below_without n [] below once = tt
below_without n (p ∷ ps) below once =
    let parts = or_parts (list_any (λ r. nat_eq p r) ps) (repeats ps) once in
    by parts.0 (below_without n ps below.1 parts.1) (nat_eq n p) refl
  where
    by : list_any (λ r. nat_eq p r) ps ≡ false → AllByRecursion (λ p. p < n) (without n ps) → (b : Bool) → nat_eq n p ≡ b → AllByRecursion (λ p. p < n) (if b then ps else (p ∷ without n ps))
    by none more true e = lower n ps below.1 (ap (λ q. list_any (λ r. nat_eq q r) ps) (eqb-true n p e) ∙ none)
    by none more false e = let other = not_same n p e in (omega (arith, other, below.0), more)

pub few : (count : ℕ) (ps : List ℕ) → AllByRecursion (λ p. p < count) ps → repeats ps ≡ false → length ps ≤ count
few zero [] below once = omega arith
few zero (p ∷ ps) below once = absurd (let z : p < 0 = below.0 in omega (arith, z))
few (suc n) ps below once =
    let less = few n (without n ps) (below_without n ps (subst (λ k. AllByRecursion (λ p. p < k) ps) (let z : suc n ≡ n + 1 = omega arith in z) below) once) (once_without n ps once) in
    let more = long_without n ps in
    omega (arith, less, more)

-- ---- words that are put at positions

-- the shader puts them as the module does
pub put_sets : (positions words old : List ℕ) → put_each positions words old ≡ set_each positions words old
put_sets [] words old = refl
put_sets (p ∷ positions) [] old = refl
put_sets (p ∷ positions) (w ∷ words) old = put_sets positions words (set old p w)

pub length_put : (positions words old : List ℕ) → length (put_each positions words old) ≡ length old
length_put [] words old = refl
length_put (p ∷ positions) [] old = refl
length_put (p ∷ positions) (w ∷ words) old = length_put positions words (set old p w) ∙ length-set old p w

module _ (P : ℕ → Type 0) where
  all_set : (l : List ℕ) (i a : ℕ) → AllByRecursion P l → P a → AllByRecursion P (set l i a)
  all_set [] i a all has = tt
  all_set (x ∷ l) zero a all has = (has, all.1)
  all_set (x ∷ l) (suc i) a all has = (all.0, all_set l i a all.1 has)

  pub all_put : (positions words old : List ℕ) → AllByRecursion P words → AllByRecursion P old → AllByRecursion P (put_each positions words old)
  all_put [] words old new all = all
  all_put (p ∷ positions) [] old new all = all
  all_put (p ∷ positions) (w ∷ words) old new all = all_put positions words (set old p w) new.1 (all_set old p w all new.0)

-- ---- positions that are picked once

pub single : (positions : List ℕ) → AllByRecursion (λ position. position < 1) positions → repeats positions ≡ false → 1 ≤ length positions → length positions ≡ 1
single positions below once some = let most = few 1 positions below once in omega (arith, most, some)

module _ (count : ℕ) (word : Option ℕ) (positions : List ℕ) (within : AreWithin count word positions) (once : repeats positions ≡ false) (some : 1 ≤ length positions) where
  pub are_stored : AreStored word positions
  are_stored = by word within
    where
      by : (word : Option ℕ) → AreWithin count word positions → AreStored word positions
      by None within = tt
      by (Some number) within = single positions within.1 once some

  pub are_few : length positions ≤ count
  are_few = by word within
    where
      by : (word : Option ℕ) → AreWithin count word positions → length positions ≤ count
      by None within = few count positions within once
      by (Some number) within = let one = single positions within.1 once some in let less : number < count = within.0 in omega (arith, one, less)

  pub goes_there : map (chosen word) positions ≡ goes_to word positions
  goes_there = by word within
    where
      same : (positions : List ℕ) → map (chosen None) positions ≡ positions
      same [] = refl
      same (p ∷ positions) = ap (λ l. p ∷ l) (same positions)

      alone : (positions : List ℕ) (number : ℕ) → length positions ≡ 1 → map (chosen (Some number)) positions ≡ number ∷ []
      alone [] number one = absurd (let z : 0 ≡ 1 = one in omega (arith, z))
      alone (p ∷ []) number one = refl
      alone (p ∷ next ∷ positions) number one = absurd (let z : suc (suc (length positions)) ≡ 1 = one in omega (arith, z))

      by : (word : Option ℕ) → AreWithin count word positions → map (chosen word) positions ≡ goes_to word positions
      by None within = same positions
      by (Some number) within = alone positions number (single positions within.1 once some)

  pub goes_once : repeats (goes_to word positions) ≡ false
  goes_once = by word
    where
      by : (word : Option ℕ) → repeats (goes_to word positions) ≡ false
      by None = once
      by (Some number) = refl

  pub goes_below : AllByRecursion (λ position. position < count) (goes_to word positions)
  goes_below = by word within
    where
      by : (word : Option ℕ) → AreWithin count word positions → AllByRecursion (λ position. position < count) (goes_to word positions)
      by None within = within
      by (Some number) within = (within.0, tt)
