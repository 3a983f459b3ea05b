-- The table of types with an array without length in them, as it grows by an instruction.
use Rattle.std.proofs.Common.{◌≡◌, ℕ, zero, suc, ◌+◌, ◌<◌, Bool, false, ◌||◌, List, [], ◌∷◌, length, drop, take, set, get_or, Some, None, refl, ap, sym, ◌∙◌, ◌⊎◌, inl, inr, ◌≢◌, arith}
use Rattle.std.specs.List.{list_any}
use Rattle.std.proofs.lemmas.Bool.{cases_eq, cond-true, cond-false, eq-eqb, ne_eqb}
use Rattle.std.proofs.lemmas.List.{get_or-set_same, get_or-set_other}
use Rattle.gsl_words.specs.declared.module.Instr.{Instr}
use Rattle.gsl_words.specs.declared.module.Module.{Module}
use Rattle.gsl_valid.specs.Instruction.{read}
use Rattle.gsl_valid.specs.Placed.{Code}
use Rattle.gsl_valid.specs.Search.{passed}
use Rattle.gsl_valid.specs.Ids.{result, is_id}
use Rattle.gsl_valid.specs.Types.{has_in, is_runtime, parts_of}
use Rattle.gsl_kinds.specs.Runtimes.{Tells, front}

taken : (before code rest : Code) (at : ℕ) (i : Instr) → drop at code ≡ i ∷ rest → passed before (take (at + 1) code) ≡ i ∷ passed before (take at code)
taken before [] rest zero i e = absurd (cc)
taken before [] rest (suc at) i e = absurd (cc)
taken before (j ∷ code) rest zero i e = let same : j ≡ i = cc in ap (λ k. k ∷ before) same
taken before (j ∷ code) rest (suc at) i e =
    let next : suc at + 1 ≡ suc (at + 1) = omega arith in ap (λ n. passed before (take n (j ∷ code))) next ∙ taken (j ∷ before) code rest at i e

pub one_more : (m : Module) (at : ℕ) (i : Instr) → drop at m.instrs ≡ i ∷ drop (at + 1) m.instrs → front m (at + 1) ≡ i ∷ front m at
one_more m at i e = taken [] m.instrs (drop (at + 1) m.instrs) at i e

module _ (m : Module) (before : Code) (i : Instr) (rows : List Bool) where
  same_any : Tells rows m before → (ids : List ℕ) → list_any (λ id. get_or rows id false) ids ≡ list_any (has_in (is_runtime m) before) ids
  same_any tells [] = refl
  same_any tells (id ∷ ids) = ap (λ b. b || list_any (λ id. get_or rows id false) ids) (tells id) ∙ ap (λ b. has_in (is_runtime m) before id || b) (same_any tells ids)

  pub none_held : result (read i) ≡ None → Tells rows m before → Tells rows m (i ∷ before)
  none_held e tells id = tells id ∙ sym (cond-false _ _ _ (ap (is_id id) e))

  pub one_held : (r : ℕ) (held : Bool) → r < length rows → result (read i) ≡ Some r →
      held ≡ (is_runtime m r || list_any (λ id. get_or rows id false) (parts_of (read i))) → Tells rows m before → Tells (set rows r held) m (i ∷ before)
  one_held r held room e is tells id = by_cases (cases_eq r id)
    where
      by_cases : (r ≡ id) ⊎ (r ≢ id) → get_or (set rows r held) id false ≡ has_in (is_runtime m) (i ∷ before) id
      by_cases (inl same) =
          ap (λ k. get_or (set rows r held) k false) (sym same) ∙ get_or-set_same rows r held false room
          ∙ is ∙ ap (λ b. is_runtime m r || b) (same_any tells (parts_of (read i)))
          ∙ ap (λ k. is_runtime m k || list_any (has_in (is_runtime m) before) (parts_of (read i))) same
          ∙ sym (cond-true _ _ _ (ap (is_id id) e ∙ eq-eqb r id same))
      by_cases (inr other) =
          get_or-set_other rows r id held false (λ same. other (sym same)) ∙ tells id ∙ sym (cond-false _ _ _ (ap (is_id id) e ∙ ne_eqb r id other))
