-- What is computed of calls, and the closure of "calls".
use Rattle.std.proofs.Common.{◌≡◌, ◌↔◌, ℕ, zero, suc, ◌<◌, Bool, true, false, ◌||◌, List, [], ◌∷◌, Contains, length, refl, ap, sym, ◌∙◌, subst, ⊎_elim, arith}
use Rattle.std.specs.Prelude.{nat_eq}
use Rattle.std.specs.List.{list_any}
use Rattle.std.proofs.lemmas.Bool.{eqb-true, eq-eqb, or_cases, or_left, or_right, false≢true}
use Rattle.gsl_words.specs.declared.module.Module.{Module}
use Rattle.gsl_valid.specs.Placed.{Code}
use Rattle.gsl_valid.specs.CallRules.{called_by, reaches_by, leads_to}
use Rattle.gsl_valid_calls.specs.Closure.{Reaches}
use Rattle.gsl_valid_calls.proofs.Enough.{enough}

record Found (test : ℕ → Bool) (items : List ℕ) : Type 0 where
  item : ℕ
  contained : Contains items item
  passes : test item ≡ true

behind : (test : ℕ → Bool) (first : ℕ) (items : List ℕ) → Found test items → Found test (first ∷ items)
behind test first items f = record { item = f.item; contained = (suc f.contained.0, omega (arith, f.contained.1), f.contained.2); passes = f.passes }

any_found : (test : ℕ → Bool) (items : List ℕ) → list_any test items ≡ true → Found test items
any_found test [] e = absurd (false≢true e)
any_found test (first ∷ items) e =
    ⊎_elim (λ passes. record { item = first; contained = (0, omega arith, refl); passes = passes }) (λ later. behind test first items (any_found test items later))
    (or_cases (test first) (list_any test items) e)

any_from : (test : ℕ → Bool) (items : List ℕ) (item : ℕ) → Contains items item → test item ≡ true → list_any test items ≡ true
any_from test [] item (k, lt, is) passes = absurd (omega (arith, lt))
any_from test (first ∷ items) item (zero, lt, is) passes = or_left (test first) (list_any test items) (ap test is ∙ passes)
any_from test (first ∷ items) item (suc k, lt, is) passes = or_right (test first) (list_any test items) (any_from test items item (k, omega (arith, lt), is) passes)

module _ (code : Code) where
  reached : (n from id : ℕ) → reaches_by code n from id ≡ true → Reaches code from id
  unfolding reaches_by
  reached zero from id e = subst (λ k. Reaches code from k) (eqb-true from id e) (Reaches.is from)
  reached (suc n) from id e =
      ⊎_elim (λ same. subst (λ k. Reaches code from k) (eqb-true from id same) (Reaches.is from))
      (λ way. let f = any_found (λ next. reaches_by code n next id) (called_by code from) way in Reaches.calls from f.item id f.contained (reached n f.item id f.passes))
      (or_cases (nat_eq from id) (list_any (λ next. reaches_by code n next id) (called_by code from)) e)

  counted : (from id : ℕ) → Reaches code from id → (n : ℕ) × (reaches_by code n from id ≡ true)
  unfolding reaches_by
  counted from id (Reaches.is _) = (0, eq-eqb from from refl)
  counted from id (Reaches.calls _ next _ c r) =
      let p = counted next id r in
      (suc p.0, or_right (nat_eq from id) (list_any (λ n. reaches_by code p.0 n id) (called_by code from)) (any_from (λ n. reaches_by code p.0 n id) (called_by code from) next c p.1))

pub in_the_closure : (m : Module) (from id : ℕ) → (leads_to m from id ≡ true) ↔ Reaches m.instrs from id
in_the_closure m from id =
    (λ e. reached m.instrs (length m.instrs) from id e, λ r. let p = counted m.instrs from id r in enough m.instrs id p.0 from p.1)
