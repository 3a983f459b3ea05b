-- What is computed of calls, and the closure of "calls".
use Rattle.std.proofs.Common.{◌≡◌, sym, ap, ◌∙◌, subst, refl, ℕ, zero, suc, Bool, true, false, ◌||◌, nat_eq, List, [], ◌∷◌, Contains, ⊎_elim, arith}
use Rattle.std.specs.List.{list_any}
use Rattle.std.proofs.lemmas.Bool.{eqb-true, eq-eqb, or_cases, or_left, or_right, true≢false}
use Rattle.gsl_tree.specs.declared.unit.Function.{Function}
use Rattle.gsl_link_calls.specs.Calls.{Reaches, called_by, reaches_within}

-- ---- an item that passes a test

record Found {A : Type 0} (test : A → Bool) (items : List A) : Type 0 where
  item : A
  contained : Contains items item
  passes : test item ≡ true

behind : {A : Type 0} (test : A → Bool) (first : A) (items : List A) → Found test items → Found test (first ∷ items)
behind test first items f = record { item = f.item; contained = (suc f.contained.0, omega (arith, f.contained.1), f.contained.2); passes = f.passes }

any_found : {A : Type 0} (test : A → Bool) (items : List A) → list_any test items ≡ true → Found test items
any_found test [] e = absurd (true≢false (sym e))
any_found test (first ∷ items) e =
    ⊎_elim (λ passes. record { item = first; contained = (0, omega arith, refl); passes = passes }) (λ later. behind test first items (any_found test items later))
    (or_cases (test first) (list_any test items) e)

any_from : {A : Type 0} (test : A → Bool) (items : List A) (item : A) → Contains items item → test item ≡ true → list_any test items ≡ true
any_from test [] item (k, lt, is) passes = absurd (omega (arith, lt))
any_from test (first ∷ items) item (zero, lt, is) passes = or_left (test first) (list_any test items) (ap test is ∙ passes)
any_from test (first ∷ items) item (suc k, lt, is) passes = or_right (test first) (list_any test items) (any_from test items item (k, omega (arith, lt), is) passes)

-- ---- calls

module _ (functions : List Function) where
  -- whether a function is another or reaches it by so many calls
  abbrev leads : ℕ → ℕ → ℕ → Bool
  leads most head next = nat_eq next head || reaches_within functions most next head

  directly : (from next head : ℕ) → Contains (called_by functions from) next → nat_eq next head ≡ true → Reaches functions from head
  directly from next head c e = subst (λ h. Reaches functions from h) (eqb-true next head e) (Reaches.calls from next c)

  -- what is computed is in the closure
  pub reached : (most from head : ℕ) → reaches_within functions most from head ≡ true → Reaches functions from head
  unfolding reaches_within
  reached zero from head e = absurd (true≢false (sym e))
  reached (suc most) from head e =
      let f = any_found (leads most head) (called_by functions from) e in
      ⊎_elim (directly from f.item head f.contained) (λ on. Reaches.calls_on from f.item head f.contained (reached most f.item head on))
      (or_cases (nat_eq f.item head) (reaches_within functions most f.item head) f.passes)

  -- what is in the closure is computed for some count of calls
  pub counted : (from head : ℕ) → Reaches functions from head → (most : ℕ) × (reaches_within functions most from head ≡ true)
  unfolding reaches_within
  counted from head (Reaches.calls _ _ c) = (1, any_from (leads 0 head) (called_by functions from) head c (or_left (nat_eq head head) false (eq-eqb head head refl)))
  counted from head (Reaches.calls_on _ next _ c r) =
      let p = counted next head r in
      (suc p.0, any_from (leads p.0 head) (called_by functions from) next c (or_right (nat_eq next head) (reaches_within functions p.0 next head) p.1))
