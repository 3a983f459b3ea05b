-- The rows of a table: what they begin with, what noting an instruction makes of them, and what they find.
use Rattle.std.proofs.Common.{◌≡◌, ℕ, zero, suc, ◌+◌, ◌-◌, ◌<◌, ◌≤◌, Bool, true, false, cond, List, [], ◌∷◌, length, drop, set, get_or, replicate, Some, None, refl, ap, sym, subst, ◌∙◌, ◌⊎◌, inl, inr, ◌≢◌, arith}
use Rattle.std.specs.Prelude.{slice_get, IsTrue, ◌&&◌, not, nat_le, nat_lt}
use Rattle.std.proofs.lemmas.Bool.{cases_eq, cond-true, cond-false, eq-eqb, ne_eqb, and_parts, ltb-true}
use Rattle.std.proofs.lemmas.List.{get_or-set_same, get_or-set_other, drop_all}
use Rattle.gsl_words.specs.declared.module.Instr.{Instr}
use Rattle.gsl_valid.specs.Instruction.{read}
use Rattle.gsl_valid.specs.Placed.{Code}
use Rattle.gsl_valid.specs.Search.{Passes}
use Rattle.gsl_valid.specs.Ids.{defines, defined, definition, result, is_id}
use Rattle.gsl_valid.specs.IdsDefinedOnce.{defines_once, is_new, ids_defined_once}
use Rattle.gsl_valid.proofs.Searching.{each_passes}
use Rattle.gsl_words.specs.declared.module.Module.{Module}
use Rattle.gsl_ids.specs.Table.{number_from, numbered, read_if, Tells}

nothing_noted : (n at : ℕ) → Tells (replicate n 0) at []
unfolding number_from
nothing_noted n at id = zeros n id
  where
    zeros : (n id : ℕ) → ◌≡◌ {A = ℕ} (get_or (replicate n 0) id 0) 0
    zeros zero id = refl
    zeros (suc n) zero = refl
    zeros (suc n) (suc id) = zeros n id

-- behind the last instruction nothing is noted
pub none_behind : (n at : ℕ) (code : Code) → length code ≤ at → Tells (replicate n 0) at (drop at code)
none_behind n at code over = subst (Tells (replicate n 0) at) (sym (drop_all at code over)) (nothing_noted n at)

module _ (at : ℕ) (i : Instr) (code : Code) where
  pub none_noted : (rows : List ℕ) → result (read i) ≡ None → Tells rows (at + 1) code → Tells rows at (i ∷ code)
  unfolding number_from
  none_noted rows e tells id = tells id ∙ sym (cond-false _ _ _ (ap (is_id id) e))

  pub one_noted : (rows : List ℕ) (r : ℕ) → r < length rows → result (read i) ≡ Some r → Tells rows (at + 1) code → Tells (set rows r (at + 1)) at (i ∷ code)
  unfolding number_from
  one_noted rows r room e tells id = by_cases (cases_eq r id)
    where
      by_cases : (r ≡ id) ⊎ (r ≢ id) → get_or (set rows r (at + 1)) id 0 ≡ number_from at (i ∷ code) id
      by_cases (inl same) =
          ap (λ k. get_or (set rows r (at + 1)) k 0) (sym same) ∙ get_or-set_same rows r (at + 1) 0 room
          ∙ sym (cond-true _ _ _ (ap (is_id id) e ∙ eq-eqb r id same))
      by_cases (inr other) =
          get_or-set_other rows r id (at + 1) 0 (λ same. other (sym same)) ∙ tells id ∙ sym (cond-false _ _ _ (ap (is_id id) e ∙ ne_eqb r id other))

-- the instruction at the front of what stands behind others
at_front : (whole code : Code) (at : ℕ) (i : Instr) → drop at whole ≡ i ∷ code → slice_get whole at ≡ Some i
at_front [] code zero i e = absurd (cc)
at_front [] code (suc at) i e = absurd (cc)
at_front (j ∷ whole) code zero i e = let same : j ≡ i = cc in ap Some same
at_front (j ∷ whole) code (suc at) i e = at_front whole code at i e

one_less : (whole code : Code) (at : ℕ) (i : Instr) → drop at whole ≡ i ∷ code → drop (at + 1) whole ≡ code
one_less [] code zero i e = absurd (cc)
one_less [] code (suc at) i e = absurd (cc)
one_less (j ∷ whole) code zero i e = cc
one_less (j ∷ whole) code (suc at) i e =
    let next : suc at + 1 ≡ suc (at + 1) = omega arith in ap (λ n. drop n (j ∷ whole)) next ∙ one_less whole code at i e

-- The number of an id gives what the id stands for.
pub found : (whole code : Code) (at id : ℕ) → drop at whole ≡ code → numbered whole (number_from at code id) ≡ definition code id
unfolding number_from
found whole [] at id e = refl
found whole (i ∷ code) at id e = by_cases (defines i id) (found whole code (at + 1) id (one_less whole code at i e))
  where
    by_cases : (b : Bool) → numbered whole (number_from (at + 1) code id) ≡ definition code id →
        numbered whole (cond b (at + 1) (number_from (at + 1) code id)) ≡ cond b (read i) (definition code id)
    by_cases true later =
        let back : at + 1 - 1 ≡ at = omega arith in
        cond-false _ _ _ (ne_eqb (at + 1) 0 (λ none. absurd (omega (arith, none))))
        ∙ ap (λ n. read_if (slice_get whole n)) back ∙ ap read_if (at_front whole code at i e)
    by_cases false later = later

-- Where ids are defined once, each is below the bound.
passes_at : (bound : ℕ) (before code rest : Code) (at : ℕ) (i : Instr) → Passes (defines_once bound) before code → drop at code ≡ i ∷ rest → (b : Code) × IsTrue (defines_once bound b i)
passes_at bound before [] rest zero i all e = absurd (cc)
passes_at bound before [] rest (suc at) i all e = absurd (cc)
passes_at bound before (j ∷ code) rest zero i all e = let same : j ≡ i = cc in (before, subst (λ k. IsTrue (defines_once bound before k)) same all.0)
passes_at bound before (j ∷ code) rest (suc at) i all e = passes_at bound (j ∷ before) code rest at i all.1 e

pub below : (m : Module) (at : ℕ) (i : Instr) (id : ℕ) → drop at m.instrs ≡ i ∷ drop (at + 1) m.instrs → result (read i) ≡ Some id → ids_defined_once m ≡ None → id < m.bound
below m at i id cut is once =
    let p = passes_at m.bound [] m.instrs (drop (at + 1) m.instrs) at i (each_passes (defines_once m.bound) m once) cut in
    let new : is_new m.bound p.0 (Some id) ≡ true = ap (is_new m.bound p.0) (sym is) ∙ p.1 in
    ltb-true id m.bound (and_parts (nat_le 1 id) (nat_lt id m.bound) (and_parts (nat_le 1 id && nat_lt id m.bound) (not (defined p.0 id)) new).0).1
