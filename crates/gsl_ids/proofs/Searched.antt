-- The search over ids is that over the instructions that defined them.
use Rattle.std.proofs.Common.{◌≡◌, ℕ, Bool, true, false, cond, not, ◌&&◌, ◌||◌, eqb, List, [], ◌∷◌, ◌++◌, Option, Some, None, refl, ap, sym, ◌∙◌, ◌⊎◌, inl, inr, ◌≢◌}
use Rattle.std.specs.Prelude.{nat_le, nat_lt, nat_eq}
use Rattle.std.specs.List.{list_any}
use Rattle.std.proofs.lemmas.Bool.{cases_eq, eq-eqb, ne_eqb}
use Rattle.std.proofs.lemmas.List.Folds.{list_any-append}
use Rattle.gsl_words.specs.declared.module.Instr.{Instr}
use Rattle.gsl_valid.specs.Instruction.{read}
use Rattle.gsl_valid.specs.Ids.{defined, result, is_id}
use Rattle.gsl_valid.specs.Placed.{Code, Placed}
use Rattle.gsl_valid.specs.Search.{broken_from}
use Rattle.gsl_valid.specs.IdsDefinedOnce.{defines_once, is_new}
use Rattle.gsl_ids.specs.Once.{at_or, once_from}

abbrev pub Agree : List ℕ → Code → Type 0
Agree ids before = (id : ℕ) → list_any (nat_eq id) ids ≡ defined before id

swap : (a b : Bool) → (a || (b || false)) ≡ (b || a)
swap true true = refl
swap true false = refl
swap false true = refl
swap false false = refl

same : (a b : ℕ) → eqb a b ≡ eqb b a
same a b = by_cases (cases_eq a b)
  where
    by_cases : (a ≡ b) ⊎ (a ≢ b) → eqb a b ≡ eqb b a
    by_cases (inl e) = eq-eqb a b e ∙ sym (eq-eqb b a (sym e))
    by_cases (inr ne) = ne_eqb a b ne ∙ sym (ne_eqb b a (λ e. ne (sym e)))

module _ (bound : ℕ) where
  one_more : (ids : List ℕ) (before : Code) (i : Instr) (n : ℕ) → result (read i) ≡ Some n → Agree ids before → Agree (ids ++ n ∷ []) (i ∷ before)
  one_more ids before i n e agree x =
      list_any-append (nat_eq x) ids (n ∷ []) ∙ ap (λ b. b || (nat_eq x n || false)) (agree x) ∙ swap (defined before x) (nat_eq x n)
      ∙ ap (λ b. b || defined before x) (same x n) ∙ sym (ap (λ r. is_id x r || defined before x) e)

  no_more : (ids : List ℕ) (before : Code) (i : Instr) → result (read i) ≡ None → Agree ids before → Agree ids (i ∷ before)
  no_more ids before i e agree x = agree x ∙ sym (ap (λ r. is_id x r || defined before x) e)

  pub searched : (ids : List ℕ) (before : Code) (placed : List Placed) → Agree ids before → once_from bound ids placed ≡ broken_from (defines_once bound) before placed
  unfolding once_from
  searched ids before [] agree = refl
  searched ids before (p ∷ placed) agree = by_result (result (read p.instr)) refl (λ more behind holds. searched more behind placed holds)
    where
      by_result : (r : Option ℕ) → result (read p.instr) ≡ r →
          ((more : List ℕ) (behind : Code) → Agree more behind → once_from bound more placed ≡ broken_from (defines_once bound) behind placed) →
          at_or bound ids p.at r (λ more. once_from bound more placed)
          ≡ cond (is_new bound before r) (broken_from (defines_once bound) (p.instr ∷ before) placed) (Some p.at)
      by_result None e again = again ids (p.instr ∷ before) (no_more ids before p.instr e agree)
      by_result (Some n) e again =
          ap (λ d. cond (nat_le 1 n && nat_lt n bound && not d) (once_from bound (ids ++ n ∷ []) placed) (Some p.at)) (agree n)
          ∙ ap (λ later. cond (is_new bound before (Some n)) later (Some p.at)) (again (ids ++ n ∷ []) (p.instr ∷ before) (one_more ids before p.instr n e agree))
