-- Where no function calls one of a higher rank, none that calls only lower ones reaches itself.
use Rattle.std.proofs.Common.{◌≡◌, sym, ap, ◌∙◌, refl, ℕ, zero, suc, ◌≤◌, ◌⊎◌, inl, inr, Bool, true, false, ◌||◌, ◌&&◌, List, [], ◌∷◌, length, subst, ⊎_elim, arith}
use Rattle.std.specs.Prelude.{nat_eq, nat_le, slice_index, if◌then◌else◌}
use Rattle.std.specs.List.{list_any, list_all}
use Rattle.std.proofs.lemmas.Bool.{or_cases, or_left, or_right, and_parts, false≢true, true≢false, eqb-true, cases_Bool, leb-true, le-leb}
use Rattle.gsl_tree.specs.declared.unit.Function.{Function}
use Rattle.gsl_tree.specs.Weights.{calls_of}
use Rattle.gsl_link_calls.specs.Calls.{Reaches, called_by, reaches}
use Rattle.gsl_link_calls.specs.Ranks.{IsIn, Ranked, is_ranked, are_ranked, may_return}
use Rattle.gsl_link_calls.proofs.Reached.{reached}
use Rattle.gsl_link_calls.proofs.Searched.{is_in}

one_of : (test : ℕ → Bool) (xs : List ℕ) (x : ℕ) → list_all test xs ≡ true → IsIn xs x → test x ≡ true
one_of test [] x all e = absurd (false≢true e)
one_of test (y ∷ xs) x all e =
    let p = and_parts (test y) (list_all test xs) all in
    ⊎_elim (λ same. ap test (eqb-true x y same) ∙ p.0) (λ later. one_of test xs x p.1 later) (or_cases (nat_eq x y) (list_any (nat_eq x) xs) e)

any_in : (test : ℕ → Bool) (xs : List ℕ) (x : ℕ) → IsIn xs x → test x ≡ true → list_any test xs ≡ true
any_in test [] x e passes = absurd (false≢true e)
any_in test (y ∷ xs) x e passes =
    ⊎_elim (λ same. or_left (test y) (list_any test xs) (ap test (sym (eqb-true x y same)) ∙ passes)) (λ later. or_right (test y) (list_any test xs) (any_in test xs x later passes))
    (or_cases (nat_eq x y) (list_any (nat_eq x) xs) e)

module _ (ranks : List ℕ) (functions : List Function) where
  known : (fs : List Function) → list_all (λ (f : Function). is_ranked ranks functions f.prototype) fs ≡ true → (head : ℕ) → (called_by fs head ≡ []) ⊎ (is_ranked ranks functions head ≡ true)
  known [] all head = inl refl
  known (f ∷ fs) all head =
      let p = and_parts (is_ranked ranks functions f.prototype) (list_all (λ (g : Function). is_ranked ranks functions g.prototype) fs) all in
      ⊎_elim (λ found. inr (subst (λ h. is_ranked ranks functions h ≡ true) (eqb-true f.prototype head found) p.0))
      (λ other. ⊎_elim (λ none. inl (ap (λ b. if b then calls_of f else called_by fs head) other ∙ none)) inr (known fs p.1 head))
      (cases_Bool (nat_eq f.prototype head))

  pub ranked : are_ranked ranks functions ≡ true → Ranked ranks functions
  ranked all head next e =
      ⊎_elim (λ none. absurd (false≢true (sym (ap (list_any (nat_eq next)) none) ∙ e)))
      (λ at. leb-true (slice_index ranks next) (slice_index ranks head) (one_of (λ other. nat_le (slice_index ranks other) (slice_index ranks head)) (called_by functions head) next at e))
      (known functions all head)

  module _ (low : Ranked ranks functions) where
    no_higher : (from head : ℕ) → Reaches functions from head → slice_index ranks head ≤ slice_index ranks from
    no_higher from head (Reaches.calls _ _ c) = low from head (is_in (called_by functions from) head c)
    no_higher from head (Reaches.calls_on _ next _ c r) =
        let one = low from next (is_in (called_by functions from) next c) in
        let rest = no_higher next head r in
        omega (arith, one, rest)

    returns_by : (from head : ℕ) → Reaches functions from head → slice_index ranks from ≤ slice_index ranks head → may_return ranks functions from ≡ true
    returns_by from head (Reaches.calls _ _ c) high =
        any_in (λ next. nat_le (slice_index ranks from) (slice_index ranks next)) (called_by functions from) head (is_in (called_by functions from) head c) (le-leb (slice_index ranks from) (slice_index ranks head) high)
    returns_by from head (Reaches.calls_on _ next _ c r) high =
        let rest = no_higher next head r in
        any_in (λ other. nat_le (slice_index ranks from) (slice_index ranks other)) (called_by functions from) next (is_in (called_by functions from) next c)
        (le-leb (slice_index ranks from) (slice_index ranks next) (omega (arith, rest, high)))

    pub no_return : (head : ℕ) → may_return ranks functions head ≡ false → reaches functions head head ≡ false
    no_return head none = by_cases (reaches functions head head) refl
      where
        by_cases : (b : Bool) → reaches functions head head ≡ b → b ≡ false
        by_cases false e = refl
        by_cases true e = absurd (true≢false (sym (returns_by head head (reached functions (length functions) head head e) (omega arith)) ∙ none))
