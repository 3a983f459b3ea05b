-- A table of numbers by ids, as it grows by an instruction.
use Rattle.std.proofs.Common.{◌≡◌, ℕ, zero, suc, ◌+◌, ◌<◌, Bool, cond, List, [], ◌∷◌, length, drop, set, get_or, replicate, Some, None, refl, ap, sym, ◌∙◌, ◌⊎◌, inl, inr, ◌≢◌, arith}
use Rattle.std.proofs.lemmas.Bool.{cases_eq, cond-true, cond-false, eq-eqb, ne_eqb}
use Rattle.std.proofs.lemmas.List.{get_or-set_same, get_or-set_other}
use Rattle.gsl_words.specs.declared.module.Instr.{Instr}
use Rattle.gsl_valid.specs.Instruction.{read}
use Rattle.gsl_valid.specs.Placed.{Code}
use Rattle.gsl_valid.specs.Ids.{result, is_id, defines}

pub zeros : (n id : ℕ) → ◌≡◌ {A = ℕ} (get_or (replicate n 0) id 0) 0
zeros zero id = refl
zeros (suc n) zero = refl
zeros (suc n) (suc id) = zeros n id

pub one_less : (whole code : Code) (at : ℕ) (i : Instr) → drop at whole ≡ i ∷ code → drop (at + 1) whole ≡ code
one_less [] code zero i e = absurd (cc)
one_less [] code (suc at) i e = absurd (cc)
one_less (j ∷ whole) code zero i e = cc
one_less (j ∷ whole) code (suc at) i e =
    let next : suc at + 1 ≡ suc (at + 1) = omega arith in ap (λ n. drop n (j ∷ whole)) next ∙ one_less whole code at i e

module _ (rows : List ℕ) (i : Instr) (old made : ℕ → ℕ) (tells : (id : ℕ) → get_or rows id 0 ≡ old id) where
  pub none_put : result (read i) ≡ None → (id : ℕ) → get_or rows id 0 ≡ cond (defines i id) (made id) (old id)
  none_put e id = tells id ∙ sym (cond-false _ _ _ (ap (is_id id) e))

  pub one_put : (r : ℕ) → r < length rows → result (read i) ≡ Some r → (id : ℕ) → get_or (set rows r (made r)) id 0 ≡ cond (defines i id) (made id) (old id)
  one_put r room e id = by_cases (cases_eq r id)
    where
      by_cases : (r ≡ id) ⊎ (r ≢ id) → get_or (set rows r (made r)) id 0 ≡ cond (defines i id) (made id) (old id)
      by_cases (inl same) =
          ap (λ k. get_or (set rows r (made r)) k 0) (sym same) ∙ get_or-set_same rows r (made r) 0 room ∙ ap made same
          ∙ sym (cond-true _ _ _ (ap (is_id id) e ∙ eq-eqb r id same))
      by_cases (inr other) =
          get_or-set_other rows r id (made r) 0 (λ same. other (sym same)) ∙ tells id ∙ sym (cond-false _ _ _ (ap (is_id id) e ∙ ne_eqb r id other))
