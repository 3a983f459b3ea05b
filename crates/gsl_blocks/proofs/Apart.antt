-- Words that differ, and lists that stand in others in the same order.
use Rattle.std.proofs.Common.{◌≡◌, ℕ, ◌+◌, ◌<◌, Bool, true, false, not, ◌||◌, cond, List, [], ◌∷◌, ◌++◌, length, refl, ap, sym, ◌∙◌, append_assoc, append-nil, arith}
use Rattle.std.specs.Prelude.{nat_eq}
use Rattle.std.specs.List.{list_any, position_or_len}
use Rattle.std.proofs.lemmas.Bool.{true≢false, and_parts, or_left, or_right, or_from, eqb-true, eq-eqb}
use Rattle.gsl_blocks.specs.Targets.{differ_from, once_from}

-- no word is one of those behind it
abbrev pub Apart : List ℕ → Type 0
Apart [] = Unit {0}
Apart (l ∷ ls) = (list_any (nat_eq l) ls ≡ false) × Apart ls

-- what stands in a list stands in a longer one in the same order
pub data StandIn : List ℕ → List ℕ → Type 0 where
  nothing : {ls : List ℕ} → StandIn [] ls
  this : {a : ℕ} {xs ls : List ℕ} → StandIn xs ls → StandIn (a ∷ xs) (a ∷ ls)
  later : {a : ℕ} {xs ls : List ℕ} → StandIn xs ls → StandIn xs (a ∷ ls)

pub in_longer : (xs ls more : List ℕ) → StandIn xs ls → StandIn xs (ls ++ more)
in_longer _ _ more nothing = nothing
in_longer _ _ more (this {xs = xs} {ls = ls} s) = this (in_longer xs ls more s)
in_longer _ _ more (later {xs = xs} {ls = ls} s) = later (in_longer xs ls more s)

pub in_behind : (xs front ls : List ℕ) → StandIn xs ls → StandIn xs (front ++ ls)
in_behind xs [] ls s = s
in_behind xs (l ∷ front) ls s = later (in_behind xs front ls s)

neither : (a b : Bool) → (a || b) ≡ false → (a ≡ false) × (b ≡ false)
neither true b h = absurd (true≢false h)
neither false b h = (refl, h)

not_true : (a : Bool) → not a ≡ true → a ≡ false
not_true true h = absurd (true≢false (sym h))
not_true false h = refl

among_more : (x : ℕ) (before : List ℕ) (w : ℕ) → list_any (nat_eq x) before ≡ true → list_any (nat_eq x) (before ++ w ∷ []) ≡ true
among_more x [] w h = absurd (true≢false (sym h))
among_more x (b ∷ before) w h = by_case (nat_eq x b) h (among_more x before w)
  where
    by_case : (same : Bool) → (same || list_any (nat_eq x) before) ≡ true → (list_any (nat_eq x) before ≡ true → list_any (nat_eq x) (before ++ w ∷ []) ≡ true) → (same || list_any (nat_eq x) (before ++ w ∷ [])) ≡ true
    by_case true h again = refl
    by_case false h again = again h

among_last : (w : ℕ) (before : List ℕ) → list_any (nat_eq w) (before ++ w ∷ []) ≡ true
among_last w [] = or_left (nat_eq w w) false (eq-eqb w w refl)
among_last w (b ∷ before) = or_right (nat_eq w b) (list_any (nat_eq w) (before ++ w ∷ [])) (among_last w before)

-- one of those before is none of those behind
away : (x : ℕ) (before ls : List ℕ) → differ_from before ls ≡ true → list_any (nat_eq x) before ≡ true → list_any (nat_eq x) ls ≡ false
away x before [] d h = refl
away x before (w ∷ ls) d h =
    let p = and_parts (not (list_any (nat_eq w) before)) (differ_from (before ++ w ∷ []) ls) d in
    or_from (nat_eq x w) (list_any (nat_eq x) ls) (by_case (nat_eq x w) refl (not_true (list_any (nat_eq w) before) p.0)) (away x (before ++ w ∷ []) ls p.1 (among_more x before w h))
  where
    by_case : (same : Bool) → nat_eq x w ≡ same → list_any (nat_eq w) before ≡ false → nat_eq x w ≡ false
    by_case true e n = absurd (true≢false (sym h ∙ ap (λ z. list_any (nat_eq z) before) (eqb-true x w e) ∙ n))
    by_case false e n = e

pub apart : (before ls : List ℕ) → differ_from before ls ≡ true → Apart ls
apart before [] d = tt
apart before (w ∷ ls) d =
    let p = and_parts (not (list_any (nat_eq w) before)) (differ_from (before ++ w ∷ []) ls) d in
    (away w (before ++ w ∷ []) ls p.1 (among_last w before), apart (before ++ w ∷ []) ls p.1)

-- Words that differ are each there once.
pub once_is : (before ls : List ℕ) → differ_from before ls ≡ true → once_from before ls ≡ before ++ ls
once_is before [] d = sym (append-nil before)
once_is before (w ∷ ls) d =
    let p = and_parts (not (list_any (nat_eq w) before)) (differ_from (before ++ w ∷ []) ls) d in
    ap (λ b. once_from (cond b before (before ++ w ∷ [])) ls) (not_true (list_any (nat_eq w) before) p.0) ∙ once_is (before ++ w ∷ []) ls p.1 ∙ append_assoc before (w ∷ []) ls

-- a member of the shorter list is one of the longer
among_in : (x : ℕ) (xs ls : List ℕ) → StandIn xs ls → list_any (nat_eq x) xs ≡ true → list_any (nat_eq x) ls ≡ true
among_in x _ _ nothing h = absurd (true≢false (sym h))
among_in x _ _ (this {a = a} {xs = xs} {ls = ls} s) h = by_case (nat_eq x a) h (among_in x xs ls s)
  where
    by_case : (same : Bool) → (same || list_any (nat_eq x) xs) ≡ true → (list_any (nat_eq x) xs ≡ true → list_any (nat_eq x) ls ≡ true) → (same || list_any (nat_eq x) ls) ≡ true
    by_case true h again = refl
    by_case false h again = again h
among_in x _ _ (later {a = a} {xs = xs} {ls = ls} s) h = or_right (nat_eq x a) (list_any (nat_eq x) ls) (among_in x xs ls s h)

-- a member is not the word in front of a list that lacks it
not_front : (x l : ℕ) (ls : List ℕ) → list_any (nat_eq l) ls ≡ false → list_any (nat_eq x) ls ≡ true → nat_eq x l ≡ false
not_front x l ls n h = by_case (nat_eq x l) refl
  where
    by_case : (same : Bool) → nat_eq x l ≡ same → nat_eq x l ≡ false
    by_case true e = absurd (true≢false (sym h ∙ ap (λ z. list_any (nat_eq z) ls) (eqb-true x l e) ∙ n))
    by_case false e = e

place_later : (x l : ℕ) (ls : List ℕ) → nat_eq x l ≡ false → position_or_len (nat_eq x) (l ∷ ls) ≡ 1 + position_or_len (nat_eq x) ls
place_later x l ls e = ap (λ b. cond (not b) (1 + position_or_len (nat_eq x) ls) 0) e

place_within : (x : ℕ) (ls : List ℕ) → list_any (nat_eq x) ls ≡ true → position_or_len (nat_eq x) ls < length ls
place_within x [] h = absurd (true≢false (sym h))
place_within x (l ∷ ls) h = by_case (nat_eq x l) h (place_within x ls)
  where
    by_case : (same : Bool) → (same || list_any (nat_eq x) ls) ≡ true → (list_any (nat_eq x) ls ≡ true → position_or_len (nat_eq x) ls < length ls) → cond (not same) (1 + position_or_len (nat_eq x) ls) 0 < length (l ∷ ls)
    by_case true h again = omega arith
    by_case false h again = let w = again h in omega (arith, w)

-- the first of some words stands before the others
pub places : (x y : ℕ) (xs ls : List ℕ) → StandIn (x ∷ xs) ls → Apart ls → list_any (nat_eq y) xs ≡ true → (position_or_len (nat_eq x) ls < position_or_len (nat_eq y) ls) × (position_or_len (nat_eq y) ls < length ls)
places x y xs _ (this {ls = ls} s) ap' h =
    let inside = among_in y xs ls s h in
    let other = not_front y x ls ap'.0 inside in
    let here : position_or_len (nat_eq x) (x ∷ ls) ≡ 0 = ap (λ b. cond (not b) (1 + position_or_len (nat_eq x) ls) 0) (eq-eqb x x refl) in
    let there = place_later y x ls other in
    let within = place_within y ls inside in
    (omega (arith, here, there), omega (arith, there, within))
places x y xs _ (later {a = a} {ls = ls} s) ap' h =
    let front = not_front x a ls ap'.0 (among_in x (x ∷ xs) ls s (or_left (nat_eq x x) (list_any (nat_eq x) xs) (eq-eqb x x refl))) in
    let behind = not_front y a ls ap'.0 (among_in y (x ∷ xs) ls s (or_right (nat_eq y x) (list_any (nat_eq y) xs) h)) in
    let again = places x y xs ls s ap'.1 h in
    let one = place_later x a ls front in
    let two = place_later y a ls behind in
    (omega (arith, one, two, again.0), omega (arith, two, again.1))
