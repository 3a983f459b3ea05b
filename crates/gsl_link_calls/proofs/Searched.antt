-- A search among calls: the heads that were found, those before a place with all that they call.
use Rattle.std.proofs.Common.{◌≡◌, sym, ap, ◌∙◌, refl, ℕ, zero, suc, ◌+◌, ◌<◌, ◌≤◌, ◌⊎◌, inl, inr, Bool, true, false, cond, ◌||◌, List, [], ◌∷◌, ◌++◌, length, take, subst, Contains, ⊎_elim, arith}
use Rattle.std.specs.Prelude.{nat_eq, slice_index, fold}
use Rattle.std.specs.List.{list_any}
use Rattle.std.proofs.lemmas.Bool.{or_cases, or_left, or_right, true≢false, false≢true, eqb-true, eqb-false, eq-eqb, ne_eqb, cases_Bool}
use Rattle.std.proofs.lemmas.List.Folds.{list_any-append}
use Rattle.indexmap.specs.IndexSet.{insert_key}
use Rattle.gsl_tree.specs.declared.unit.Function.{Function}
use Rattle.gsl_link_calls.specs.Calls.{Reaches, called_by, reaches}
use Rattle.gsl_link_calls.specs.Ranks.{IsIn}
use Rattle.gsl_link_calls.proofs.Reached.{reached}
use Rattle.gsl_link_calls.proofs.Settled.{all_reached}

or_false : (b : Bool) → (b || false) ≡ b
or_false true = refl
or_false false = refl

-- ---- lists that grow

abbrev pub with_all : List ℕ → List ℕ → List ℕ
with_all l ys = fold (insert_key nat_eq) l ys

at_end : (l : List ℕ) (y x : ℕ) → list_any (nat_eq x) (l ++ y ∷ []) ≡ (list_any (nat_eq x) l || nat_eq x y)
at_end l y x = list_any-append (nat_eq x) l (y ∷ []) ∙ ap (λ b. list_any (nat_eq x) l || b) (or_false (nat_eq x y))

grown : (l : List ℕ) (y x : ℕ) → IsIn l x → IsIn (insert_key nat_eq l y) x
grown l y x e = by_cases (list_any (nat_eq y) l)
  where
    by_cases : (b : Bool) → IsIn (cond b l (l ++ y ∷ [])) x
    by_cases true = e
    by_cases false = at_end l y x ∙ or_left (list_any (nat_eq x) l) (nat_eq x y) e

added : (l : List ℕ) (y : ℕ) → IsIn (insert_key nat_eq l y) y
added l y = by_cases (list_any (nat_eq y) l) refl
  where
    by_cases : (b : Bool) → list_any (nat_eq y) l ≡ b → IsIn (cond b l (l ++ y ∷ [])) y
    by_cases true e = e
    by_cases false e = at_end l y y ∙ or_right (list_any (nat_eq y) l) (nat_eq y y) (eq-eqb y y refl)

only : (l : List ℕ) (y x : ℕ) → IsIn (insert_key nat_eq l y) x → IsIn l x ⊎ (nat_eq x y ≡ true)
only l y x = by_cases (list_any (nat_eq y) l)
  where
    by_cases : (b : Bool) → IsIn (cond b l (l ++ y ∷ [])) x → IsIn l x ⊎ (nat_eq x y ≡ true)
    by_cases true e = inl e
    by_cases false e = or_cases (list_any (nat_eq x) l) (nat_eq x y) (sym (at_end l y x) ∙ e)

all_grown : (l ys : List ℕ) (x : ℕ) → IsIn l x → IsIn (with_all l ys) x
all_grown l [] x e = e
all_grown l (y ∷ ys) x e = all_grown (insert_key nat_eq l y) ys x (grown l y x e)

all_added : (l ys : List ℕ) (x : ℕ) → IsIn ys x → IsIn (with_all l ys) x
all_added l [] x e = absurd (false≢true e)
all_added l (y ∷ ys) x e =
    ⊎_elim (λ here. all_grown (insert_key nat_eq l y) ys x (subst (IsIn (insert_key nat_eq l y)) (sym (eqb-true x y here)) (added l y)))
    (λ later. all_added (insert_key nat_eq l y) ys x later) (or_cases (nat_eq x y) (list_any (nat_eq x) ys) e)

all_only : (l ys : List ℕ) (x : ℕ) → IsIn (with_all l ys) x → IsIn l x ⊎ IsIn ys x
all_only l [] x e = inl e
all_only l (y ∷ ys) x e =
    ⊎_elim (λ was. ⊎_elim inl (λ here. inr (or_left (nat_eq x y) (list_any (nat_eq x) ys) here)) (only l y x was))
    (λ later. inr (or_right (nat_eq x y) (list_any (nat_eq x) ys) later)) (all_only (insert_key nat_eq l y) ys x e)

take_one : (l : List ℕ) (y at : ℕ) → at ≤ length l → take at (insert_key nat_eq l y) ≡ take at l
take_one l y at low = by_cases (list_any (nat_eq y) l)
  where
    take_front : (l : List ℕ) (at : ℕ) → at ≤ length l → take at (l ++ y ∷ []) ≡ take at l
    take_front l zero low = refl
    take_front [] (suc at) low = absurd (omega (arith, low))
    take_front (x ∷ l) (suc at) low = ap (λ r. x ∷ r) (take_front l at (omega (arith, low)))

    by_cases : (b : Bool) → take at (cond b l (l ++ y ∷ [])) ≡ take at l
    by_cases true = refl
    by_cases false = take_front l at low

longer : (l : List ℕ) (y : ℕ) → length l ≤ length (insert_key nat_eq l y)
longer l y = by_cases (list_any (nat_eq y) l)
  where
    pushed : (l : List ℕ) → length l ≤ length (l ++ y ∷ [])
    pushed [] = omega arith
    pushed (x ∷ l) = let h = pushed l in omega (arith, h)

    by_cases : (b : Bool) → length l ≤ length (cond b l (l ++ y ∷ []))
    by_cases true = omega arith
    by_cases false = pushed l

take_same : (l ys : List ℕ) (at : ℕ) → at ≤ length l → (take at (with_all l ys) ≡ take at l) × (at ≤ length (with_all l ys))
take_same l [] at low = (refl, low)
take_same l (y ∷ ys) at low =
    let more = longer l y in
    let later = take_same (insert_key nat_eq l y) ys at (omega (arith, low, more)) in
    (later.0 ∙ take_one l y at low, later.1)

take_next : (l : List ℕ) (at x : ℕ) → at < length l → IsIn (take (at + 1) l) x → IsIn (take at l) x ⊎ (nat_eq x (slice_index l at) ≡ true)
take_next [] at x low e = absurd (omega (arith, low))
take_next (y ∷ l) zero x low e = ⊎_elim inr (λ none. absurd (false≢true none)) (or_cases (nat_eq x y) false e)
take_next (y ∷ l) (suc at) x low e =
    let next : suc at + 1 ≡ suc (at + 1) = omega arith in
    ⊎_elim (λ here. inl (or_left (nat_eq x y) (list_any (nat_eq x) (take at l)) here))
    (λ later. ⊎_elim (λ before. inl (or_right (nat_eq x y) (list_any (nat_eq x) (take at l)) before)) inr (take_next l at x (omega (arith, low)) later))
    (or_cases (nat_eq x y) (list_any (nat_eq x) (take (at + 1) l)) (subst (λ n. IsIn (take n (y ∷ l)) x) next e))

index_in : (l : List ℕ) (at : ℕ) → at < length l → IsIn l (slice_index l at)
index_in [] at low = absurd (omega (arith, low))
index_in (y ∷ l) zero low = or_left (nat_eq y y) (list_any (nat_eq y) l) (eq-eqb y y refl)
index_in (y ∷ l) (suc at) low = or_right (nat_eq (slice_index l at) y) (list_any (nat_eq (slice_index l at)) l) (index_in l at (omega (arith, low)))

take_whole : (l : List ℕ) (at : ℕ) → length l ≤ at → take at l ≡ l
take_whole [] zero low = refl
take_whole [] (suc at) low = refl
take_whole (x ∷ l) zero low = absurd (omega (arith, low))
take_whole (x ∷ l) (suc at) low = ap (λ r. x ∷ r) (take_whole l at (omega (arith, low)))

-- ---- an item of a list

pub is_in : (l : List ℕ) (x : ℕ) → Contains l x → IsIn l x
is_in [] x (k, lt, is) = absurd (omega (arith, lt))
is_in (y ∷ l) x (zero, lt, is) = or_left (nat_eq x y) (list_any (nat_eq x) l) (eq-eqb x y (sym is))
is_in (y ∷ l) x (suc k, lt, is) = or_right (nat_eq x y) (list_any (nat_eq x) l) (is_in l x (k, omega (arith, lt), is))

pub contained : (l : List ℕ) (x : ℕ) → IsIn l x → Contains l x
contained [] x e = absurd (false≢true e)
contained (y ∷ l) x e =
    ⊎_elim (λ here. (0, omega arith, sym (eqb-true x y here)))
    (λ later. let p = contained l x later in (suc p.0, omega (arith, p.1), p.2)) (or_cases (nat_eq x y) (list_any (nat_eq x) l) e)

-- ---- calls

module _ (functions : List Function) where
  -- a call at the end of a way
  on : (from x y : ℕ) → Reaches functions from x → IsIn (called_by functions x) y → Reaches functions from y
  on from x y (Reaches.calls _ _ c) i = Reaches.calls_on from x y c (Reaches.calls x y (contained (called_by functions x) y i))
  on from x y (Reaches.calls_on _ next _ c r) i = Reaches.calls_on from next y c (on next x y r i)

  -- What is known of a search for a function from another.
  pub record Searched (from head : ℕ) (l : List ℕ) (at : ℕ) : Type 0 where
    pub within : at ≤ length l
    pub first : (y : ℕ) → IsIn (called_by functions from) y → IsIn l y
    pub reached : (x : ℕ) → IsIn l x → Reaches functions from x
    pub done : (x : ℕ) → IsIn (take at l) x → (nat_eq x head ≡ false) × ((y : ℕ) → IsIn (called_by functions x) y → IsIn l y)

  pub begun : (from head : ℕ) → Searched from head (with_all [] (called_by functions from)) 0
  begun from head =
      record {
        within = omega arith;
        first = λ y e. all_added [] (called_by functions from) y e;
        reached = λ x e. ⊎_elim (λ none. absurd (false≢true none)) (λ c. Reaches.calls from x (contained (called_by functions from) x c)) (all_only [] (called_by functions from) x e);
        done = λ x none. absurd (false≢true none);
      }

  pub one_on : (from head : ℕ) (l : List ℕ) (at : ℕ) → Searched from head l at → at < length l → nat_eq (slice_index l at) head ≡ false →
      Searched from head (with_all l (called_by functions (slice_index l at))) (at + 1)
  one_on from head l at s low other =
      let x = slice_index l at in
      let more = called_by functions x in
      let kept = take_same l more (at + 1) (omega (arith, low)) in
      record {
        within = kept.1;
        first = λ y e. all_grown l more y (s.first y e);
        reached = λ y e. ⊎_elim (s.reached y) (λ c. on from x y (s.reached x (index_in l at low)) c) (all_only l more y e);
        done = λ y e.
            ⊎_elim
            (λ before. let d = s.done y before in (d.0, λ z c. all_grown l more z (d.1 z c)))
            (λ same. subst (λ w. (nat_eq w head ≡ false) × ((z : ℕ) → IsIn (called_by functions w) z → IsIn (with_all l more) z)) (sym (eqb-true y x same))
            (other, λ z c. all_added l more z c))
            (take_next l at y low (sym (ap (list_any (nat_eq y)) kept.0) ∙ e));
      }

  pub found : (from head : ℕ) (l : List ℕ) (at : ℕ) → Searched from head l at → at < length l → nat_eq (slice_index l at) head ≡ true → reaches functions from head ≡ true
  found from head l at s low same =
      all_reached functions head from (subst (λ y. Reaches functions from y) (eqb-true (slice_index l at) head same) (s.reached (slice_index l at) (index_in l at low)))

  -- what is closed under calls has all that is reached
  all_in : (l : List ℕ) → ((x : ℕ) → IsIn l x → (y : ℕ) → IsIn (called_by functions x) y → IsIn l y) → (from head : ℕ)
      → ((y : ℕ) → IsIn (called_by functions from) y → IsIn l y) → Reaches functions from head → IsIn l head
  all_in l closed from head first (Reaches.calls _ _ c) = first head (is_in (called_by functions from) head c)
  all_in l closed from head first (Reaches.calls_on _ next _ c r) = all_in l closed next head (closed next (first next (is_in (called_by functions from) next c))) r

  pub not_found : (from head : ℕ) (l : List ℕ) (at : ℕ) → Searched from head l at → length l ≤ at → reaches functions from head ≡ false
  not_found from head l at s over = by_cases (reaches functions from head) refl
    where
      whole : (x : ℕ) → IsIn l x → (nat_eq x head ≡ false) × ((y : ℕ) → IsIn (called_by functions x) y → IsIn l y)
      whole x e = s.done x (ap (list_any (nat_eq x)) (take_whole l at over) ∙ e)

      by_cases : (b : Bool) → reaches functions from head ≡ b → b ≡ false
      by_cases false e = refl
      by_cases true e =
          let there = all_in l (λ x i. (whole x i).1) from head s.first (reached functions (length functions) from head e) in
          absurd (false≢true (sym (whole head there).0 ∙ eq-eqb head head refl))
