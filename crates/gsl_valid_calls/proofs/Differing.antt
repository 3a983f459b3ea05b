-- Pointers that differ, found by those that came before.
use Rattle.std.proofs.Common.{◌≡◌, sym, ap, ◌∙◌, refl, ℕ, Bool, true, false, cond, not, ◌||◌, ◌&&◌, List, [], ◌∷◌, ◌++◌}
use Rattle.std.specs.Prelude.{nat_eq}
use Rattle.std.specs.List.{list_any, list_all}
use Rattle.std.proofs.lemmas.Bool.{eqb-true, true≢false}
use Rattle.std.proofs.lemmas.List.Folds.{list_any-append}
use Rattle.gsl_words.specs.declared.module.Module.{Module}
use Rattle.gsl_valid.specs.CallRules.{is_pointer, pointers_differ}
use Rattle.gsl_ids.proofs.Numbers.{or_false, same_all}
use Rattle.gsl_valid_calls.specs.Calls.{differ_behind}

module _ (m : Module) where
  abbrev none_of : List ℕ → ℕ → Bool
  none_of before x = not (is_pointer m x && list_any (nat_eq x) before)

  -- one more pointer before
  apart : (before : List ℕ) (id : ℕ) → is_pointer m id ≡ true → (ids : List ℕ) →
      list_all (none_of (before ++ id ∷ [])) ids ≡ (list_all (none_of before) ids && not (list_any (λ x. nat_eq x id) ids))
  apart before id points [] = refl
  apart before id points (x ∷ ids) =
      ap (λ b. not (is_pointer m x && b) && list_all (none_of (before ++ id ∷ [])) ids)
      (list_any-append (nat_eq x) before (id ∷ []) ∙ ap (λ b. list_any (nat_eq x) before || b) (or_false (nat_eq x id)))
      ∙ ap (λ b. not (is_pointer m x && (list_any (nat_eq x) before || nat_eq x id)) && b) (apart before id points ids)
      ∙ by_cases (nat_eq x id) refl (is_pointer m x) refl (list_any (nat_eq x) before) (list_all (none_of before) ids) (list_any (λ x. nat_eq x id) ids)
    where
      by_cases : (e : Bool) → nat_eq x id ≡ e → (p : Bool) → is_pointer m x ≡ p → (s a n : Bool) →
          (not (p && (s || e)) && (a && not n)) ≡ ((not (p && s) && a) && not (e || n))
      by_cases true same true is true a n = refl
      by_cases true same true is false true n = refl
      by_cases true same true is false false n = refl
      by_cases true same false is s a n = absurd (true≢false (sym points ∙ ap (is_pointer m) (sym (eqb-true x id same)) ∙ is))
      by_cases false other true is true a n = refl
      by_cases false other true is false a n = refl
      by_cases false other false is s a n = refl

  both : (a b : Bool) → a ≡ true → (a && b) ≡ b
  both a b e = ap (λ x. x && b) e

  differ_is : (before ids : List ℕ) → differ_behind m before ids ≡ (pointers_differ m ids && list_all (none_of before) ids)
  differ_is before [] = refl
  differ_is before (id ∷ ids) =
      by_cases (is_pointer m id) refl (list_any (nat_eq id) before) (differ_is before ids) (differ_is (before ++ id ∷ []) ids)
    where
      swap : (p a n : Bool) → (p && (a && not n)) ≡ ((not n && p) && a)
      swap true true true = refl
      swap true true false = refl
      swap true false true = refl
      swap true false false = refl
      swap false a true = refl
      swap false a false = refl

      off : (b : Bool) → false ≡ (b && false)
      off true = refl
      off false = refl

      by_cases : (p : Bool) → is_pointer m id ≡ p → (s : Bool) →
          differ_behind m before ids ≡ (pointers_differ m ids && list_all (none_of before) ids) →
          differ_behind m (before ++ id ∷ []) ids ≡ (pointers_differ m ids && list_all (none_of (before ++ id ∷ [])) ids) →
          cond p (cond s false (differ_behind m (before ++ id ∷ []) ids)) (differ_behind m before ids)
          ≡ ((not (p && list_any (λ other. nat_eq other id) ids) && pointers_differ m ids) && (not (p && s) && list_all (none_of before) ids))
      by_cases true is true here later = off (not (list_any (λ other. nat_eq other id) ids) && pointers_differ m ids)
      by_cases true is false here later = later ∙ ap (λ b. pointers_differ m ids && b) (apart before id is ids) ∙ swap (pointers_differ m ids) (list_all (none_of before) ids) (list_any (λ x. nat_eq x id) ids)
      by_cases false is s here later = here

  all_true : (ids : List ℕ) → list_all (none_of []) ids ≡ true
  all_true [] = refl
  all_true (x ∷ ids) = by_cases (is_pointer m x) (all_true ids)
    where
      by_cases : (p : Bool) → list_all (none_of []) ids ≡ true → (not (p && false) && list_all (none_of []) ids) ≡ true
      by_cases true e = e
      by_cases false e = e

  pub nothing_before : (ids : List ℕ) → differ_behind m [] ids ≡ pointers_differ m ids
  nothing_before ids = differ_is [] ids ∙ ap (λ b. pointers_differ m ids && b) (all_true ids) ∙ and_true (pointers_differ m ids)
    where
      and_true : (b : Bool) → (b && true) ≡ b
      and_true true = refl
      and_true false = refl
