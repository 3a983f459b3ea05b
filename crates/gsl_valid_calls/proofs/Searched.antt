-- A search among calls: the functions that were found, those before a place with all that they call.
use Rattle.std.proofs.Common.{◌≡◌, sym, ap, ◌∙◌, refl, ℕ, zero, suc, ◌+◌, ◌<◌, ◌≤◌, ◌⊎◌, inl, inr, Bool, true, false, cond, ◌||◌, List, [], ◌∷◌, ◌++◌, length, take, subst, ⊎_elim, arith}
use Rattle.std.specs.Prelude.{nat_eq, slice_index, fold}
use Rattle.std.specs.List.{list_any}
use Rattle.std.proofs.lemmas.Bool.{or_cases, or_left, or_right, true≢false, false≢true, eqb-true, eqb-false, eq-eqb, ne_eqb, cases_Bool}
use Rattle.std.proofs.lemmas.List.Folds.{list_any-append}
use Rattle.indexmap.specs.IndexSet.{insert_key}
use Rattle.gsl_words.specs.declared.module.Module.{Module}
use Rattle.gsl_valid.specs.Placed.{Code}
use Rattle.gsl_valid.specs.CallRules.{called_by, reaches_by, leads_to}
use Rattle.gsl_ids.proofs.Numbers.{or_false}
use Rattle.gsl_valid_calls.proofs.Enough.{enough, any_more}

-- ---- lists that grow

abbrev pub IsIn : List ℕ → ℕ → Type 0
IsIn l x = list_any (nat_eq x) l ≡ true

abbrev pub with_all : List ℕ → List ℕ → List ℕ
with_all l ys = fold (insert_key nat_eq) l ys

at_end : (l : List ℕ) (y x : ℕ) → list_any (nat_eq x) (l ++ y ∷ []) ≡ (list_any (nat_eq x) l || nat_eq x y)
at_end l y x = list_any-append (nat_eq x) l (y ∷ []) ∙ ap (λ b. list_any (nat_eq x) l || b) (or_false (nat_eq x y))

grown : (l : List ℕ) (y x : ℕ) → IsIn l x → IsIn (insert_key nat_eq l y) x
grown l y x e = by_cases (list_any (nat_eq y) l)
  where
    by_cases : (b : Bool) → IsIn (cond b l (l ++ y ∷ [])) x
    by_cases true = e
    by_cases false = at_end l y x ∙ or_left (list_any (nat_eq x) l) (nat_eq x y) e

added : (l : List ℕ) (y : ℕ) → IsIn (insert_key nat_eq l y) y
added l y = by_cases (list_any (nat_eq y) l) refl
  where
    by_cases : (b : Bool) → list_any (nat_eq y) l ≡ b → IsIn (cond b l (l ++ y ∷ [])) y
    by_cases true e = e
    by_cases false e = at_end l y y ∙ or_right (list_any (nat_eq y) l) (nat_eq y y) (eq-eqb y y refl)

only : (l : List ℕ) (y x : ℕ) → IsIn (insert_key nat_eq l y) x → IsIn l x ⊎ (nat_eq x y ≡ true)
only l y x = by_cases (list_any (nat_eq y) l)
  where
    by_cases : (b : Bool) → IsIn (cond b l (l ++ y ∷ [])) x → IsIn l x ⊎ (nat_eq x y ≡ true)
    by_cases true e = inl e
    by_cases false e = or_cases (list_any (nat_eq x) l) (nat_eq x y) (sym (at_end l y x) ∙ e)

all_grown : (l ys : List ℕ) (x : ℕ) → IsIn l x → IsIn (with_all l ys) x
all_grown l [] x e = e
all_grown l (y ∷ ys) x e = all_grown (insert_key nat_eq l y) ys x (grown l y x e)

all_added : (l ys : List ℕ) (x : ℕ) → IsIn ys x → IsIn (with_all l ys) x
all_added l [] x e = absurd (false≢true e)
all_added l (y ∷ ys) x e =
    ⊎_elim (λ here. all_grown (insert_key nat_eq l y) ys x (subst (IsIn (insert_key nat_eq l y)) (sym (eqb-true x y here)) (added l y)))
    (λ later. all_added (insert_key nat_eq l y) ys x later) (or_cases (nat_eq x y) (list_any (nat_eq x) ys) e)

all_only : (l ys : List ℕ) (x : ℕ) → IsIn (with_all l ys) x → IsIn l x ⊎ IsIn ys x
all_only l [] x e = inl e
all_only l (y ∷ ys) x e =
    ⊎_elim (λ was. ⊎_elim inl (λ here. inr (or_left (nat_eq x y) (list_any (nat_eq x) ys) here)) (only l y x was))
    (λ later. inr (or_right (nat_eq x y) (list_any (nat_eq x) ys) later)) (all_only (insert_key nat_eq l y) ys x e)

take_one : (l : List ℕ) (y at : ℕ) → at ≤ length l → take at (insert_key nat_eq l y) ≡ take at l
take_one l y at low = by_cases (list_any (nat_eq y) l)
  where
    take_front : (l : List ℕ) (at : ℕ) → at ≤ length l → take at (l ++ y ∷ []) ≡ take at l
    take_front l zero low = refl
    take_front [] (suc at) low = absurd (omega (arith, low))
    take_front (x ∷ l) (suc at) low = ap (λ r. x ∷ r) (take_front l at (omega (arith, low)))

    by_cases : (b : Bool) → take at (cond b l (l ++ y ∷ [])) ≡ take at l
    by_cases true = refl
    by_cases false = take_front l at low

longer : (l : List ℕ) (y : ℕ) → length l ≤ length (insert_key nat_eq l y)
longer l y = by_cases (list_any (nat_eq y) l)
  where
    pushed : (l : List ℕ) → length l ≤ length (l ++ y ∷ [])
    pushed [] = omega arith
    pushed (x ∷ l) = let h = pushed l in omega (arith, h)

    by_cases : (b : Bool) → length l ≤ length (cond b l (l ++ y ∷ []))
    by_cases true = omega arith
    by_cases false = pushed l

take_same : (l ys : List ℕ) (at : ℕ) → at ≤ length l → (take at (with_all l ys) ≡ take at l) × (at ≤ length (with_all l ys))
take_same l [] at low = (refl, low)
take_same l (y ∷ ys) at low =
    let more = longer l y in
    let later = take_same (insert_key nat_eq l y) ys at (omega (arith, low, more)) in
    (later.0 ∙ take_one l y at low, later.1)

take_next : (l : List ℕ) (at x : ℕ) → at < length l → IsIn (take (at + 1) l) x → IsIn (take at l) x ⊎ (nat_eq x (slice_index l at) ≡ true)
take_next [] at x low e = absurd (omega (arith, low))
take_next (y ∷ l) zero x low e = ⊎_elim inr (λ none. absurd (false≢true none)) (or_cases (nat_eq x y) false e)
take_next (y ∷ l) (suc at) x low e =
    let next : suc at + 1 ≡ suc (at + 1) = omega arith in
    ⊎_elim (λ here. inl (or_left (nat_eq x y) (list_any (nat_eq x) (take at l)) here))
    (λ later. ⊎_elim (λ before. inl (or_right (nat_eq x y) (list_any (nat_eq x) (take at l)) before)) inr (take_next l at x (omega (arith, low)) later))
    (or_cases (nat_eq x y) (list_any (nat_eq x) (take (at + 1) l)) (subst (λ n. IsIn (take n (y ∷ l)) x) next e))

index_in : (l : List ℕ) (at : ℕ) → at < length l → IsIn l (slice_index l at)
index_in [] at low = absurd (omega (arith, low))
index_in (y ∷ l) zero low = or_left (nat_eq y y) (list_any (nat_eq y) l) (eq-eqb y y refl)
index_in (y ∷ l) (suc at) low = or_right (nat_eq (slice_index l at) y) (list_any (nat_eq (slice_index l at)) l) (index_in l at (omega (arith, low)))

take_whole : (l : List ℕ) (at : ℕ) → length l ≤ at → take at l ≡ l
take_whole [] zero low = refl
take_whole [] (suc at) low = refl
take_whole (x ∷ l) zero low = absurd (omega (arith, low))
take_whole (x ∷ l) (suc at) low = ap (λ r. x ∷ r) (take_whole l at (omega (arith, low)))

any_none : (p : ℕ → Bool) (xs : List ℕ) → ((x : ℕ) → IsIn xs x → p x ≡ false) → list_any p xs ≡ false
any_none p [] all = refl
any_none p (x ∷ xs) all =
    ap (λ b. b || list_any p xs) (all x (or_left (nat_eq x x) (list_any (nat_eq x) xs) (eq-eqb x x refl)))
    ∙ any_none p xs (λ y e. all y (or_right (nat_eq y x) (list_any (nat_eq y) xs) e))

any_in : (p : ℕ → Bool) (xs : List ℕ) (x : ℕ) → IsIn xs x → p x ≡ true → list_any p xs ≡ true
any_in p xs x e passes = any_more (nat_eq x) p (λ y same. ap p (sym (eqb-true x y same)) ∙ passes) xs e

-- ---- calls

module _ (m : Module) where
  abbrev reaches : ℕ → ℕ → ℕ → Bool
  reaches n from x = reaches_by m.instrs n from x

  here : (n x : ℕ) → reaches n x x ≡ true
  unfolding reaches_by
  here zero x = eq-eqb x x refl
  here (suc n) x = or_left (nat_eq x x) (list_any (λ next. reaches n next x) (called_by m.instrs x)) (eq-eqb x x refl)

  -- one call more, at the end
  on : (n from x y : ℕ) → reaches n from x ≡ true → IsIn (called_by m.instrs x) y → reaches (suc n) from y ≡ true
  unfolding reaches_by
  on zero from x y e c =
      or_right (nat_eq from y) (list_any (λ next. reaches zero next y) (called_by m.instrs from))
      (subst (λ f. list_any (λ next. reaches zero next y) (called_by m.instrs f) ≡ true) (sym (eqb-true from x e))
      (any_in (λ next. reaches zero next y) (called_by m.instrs x) y c (here zero y)))
  on (suc n) from x y e c =
      or_right (nat_eq from y) (list_any (λ next. reaches (suc n) next y) (called_by m.instrs from))
      (⊎_elim
      (λ same. subst (λ f. list_any (λ next. reaches (suc n) next y) (called_by m.instrs f) ≡ true) (sym (eqb-true from x same))
      (any_in (λ next. reaches (suc n) next y) (called_by m.instrs x) y c (here (suc n) y)))
      (λ way. any_more (λ next. reaches n next x) (λ next. reaches (suc n) next y) (λ next r. on n next x y r c) (called_by m.instrs from) way)
      (or_cases (nat_eq from x) (list_any (λ next. reaches n next x) (called_by m.instrs from)) e))

  -- What is known of a search for a function from another.
  pub record Searched (from id : ℕ) (l : List ℕ) (at : ℕ) : Type 0 where
    pub within : at ≤ length l
    pub first : IsIn l from
    pub reached : (x : ℕ) → IsIn l x → (n : ℕ) × (reaches n from x ≡ true)
    pub done : (x : ℕ) → IsIn (take at l) x → (nat_eq x id ≡ false) × ((y : ℕ) → IsIn (called_by m.instrs x) y → IsIn l y)

  pub begun : (from id : ℕ) → Searched from id (from ∷ []) 0
  begun from id =
      record {
        within = omega arith;
        first = or_left (nat_eq from from) false (eq-eqb from from refl);
        reached = λ x e. (0, subst (λ y. reaches 0 from y ≡ true) (sym (eqb-true x from (sym (or_false (nat_eq x from)) ∙ e))) (here 0 from));
        done = λ x none. absurd (false≢true none);
      }

  pub one_on : (from id : ℕ) (l : List ℕ) (at : ℕ) → Searched from id l at → at < length l → nat_eq (slice_index l at) id ≡ false →
      Searched from id (with_all l (called_by m.instrs (slice_index l at))) (at + 1)
  one_on from id l at s low other =
      let x = slice_index l at in
      let more = called_by m.instrs x in
      let kept = take_same l more (at + 1) (omega (arith, low)) in
      record {
        within = kept.1;
        first = all_grown l more from s.first;
        reached = λ y e. ⊎_elim (s.reached y) (λ c. let r = s.reached x (index_in l at low) in (suc r.0, on r.0 from x y r.1 c)) (all_only l more y e);
        done = λ y e.
            ⊎_elim
            (λ before. let d = s.done y before in (d.0, λ z c. all_grown l more z (d.1 z c)))
            (λ same. subst (λ w. (nat_eq w id ≡ false) × ((z : ℕ) → IsIn (called_by m.instrs w) z → IsIn (with_all l more) z)) (sym (eqb-true y x same))
            (other, λ z c. all_added l more z c))
            (take_next l at y low (sym (ap (list_any (nat_eq y)) kept.0) ∙ e));
      }

  pub found : (from id : ℕ) (l : List ℕ) (at : ℕ) → Searched from id l at → at < length l → nat_eq (slice_index l at) id ≡ true → leads_to m from id ≡ true
  found from id l at s low same =
      let r = s.reached (slice_index l at) (index_in l at low) in
      enough m.instrs id r.0 from (subst (λ y. reaches r.0 from y ≡ true) (eqb-true (slice_index l at) id same) r.1)

  never : (id : ℕ) (l : List ℕ) → ((x : ℕ) → IsIn l x → (nat_eq x id ≡ false) × ((y : ℕ) → IsIn (called_by m.instrs x) y → IsIn l y)) →
      (n x : ℕ) → IsIn l x → reaches n x id ≡ false
  unfolding reaches_by
  never id l closed zero x e = (closed x e).0
  never id l closed (suc n) x e =
      let c = closed x e in
      ap (λ b. b || list_any (λ next. reaches n next id) (called_by m.instrs x)) c.0
      ∙ any_none (λ next. reaches n next id) (called_by m.instrs x) (λ y i. never id l closed n y (c.1 y i))

  pub not_found : (from id : ℕ) (l : List ℕ) (at : ℕ) → Searched from id l at → length l ≤ at → leads_to m from id ≡ false
  not_found from id l at s over =
      never id l (λ x e. s.done x (ap (list_any (nat_eq x)) (take_whole l at over) ∙ e)) (length m.instrs) from s.first
