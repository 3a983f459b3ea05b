-- The table as it grows by an instruction.
use mathlib.Core.Path.{fun_ext}
use Rattle.std.proofs.Common.{◌≡◌, ℕ, zero, suc, ◌+◌, ◌<◌, List, [], ◌∷◌, ◌++◌, length, drop, take, set, get_or, replicate, Some, None, refl, ap, sym, ◌∙◌, ◌⊎◌, inl, inr, ◌≢◌, arith}
use Rattle.std.proofs.lemmas.Bool.{cases_eq, cond-true, cond-false, eq-eqb, ne_eqb}
use Rattle.std.proofs.lemmas.List.{get_or-drop, get_or-set_same, get_or-set_other, take_more}
use Rattle.gsl_words.specs.declared.module.Instr.{Instr}
use Rattle.gsl_words.specs.declared.module.Module.{Module}
use Rattle.gsl_valid.specs.Ids.{result, is_id}
use Rattle.gsl_valid.specs.Instruction.{read}
use Rattle.gsl_valid.specs.Kinds.{Shape, shape_of}
use Rattle.gsl_valid.specs.Placed.{Code}
use Rattle.gsl_valid.specs.Search.{passed}
use Rattle.gsl_valid.proofs.Searching.{passed_append}
use Rattle.gsl_kinds.specs.Runtimes.{front}
use Rattle.gsl_leaves.specs.Leaves.{ahead_as, leaves_as, leaves_in}
use Rattle.gsl_leaves.specs.Table.{Tells, told}
use Rattle.gsl_leaves.proofs.Told.{ahead_told, leaves_told}

-- one instruction more at the front of a module
pub one_more : (m : Module) (at : ℕ) (i : Instr) (rest : Code) → at < length m.instrs → drop at m.instrs ≡ i ∷ rest → front m (at + 1) ≡ i ∷ front m at
one_more m at i rest below is =
    let here : get_or m.instrs at i ≡ i = ap (λ n. get_or m.instrs n i) (omega arith) ∙ sym (get_or-drop at m.instrs 0 i) ∙ ap (λ l. get_or l 0 i) is in
    ap (passed []) (take_more m.instrs at i below ∙ ap (λ j. take at m.instrs ++ j ∷ []) here) ∙ passed_append [] (take at m.instrs) (i ∷ [])

-- rows that tell, in the place of the counts
rows_are : (m : Module) (before : Code) (rows : List ℕ) → Tells rows m before → ◌≡◌ {A = ℕ → ℕ} (λ id. get_or rows id 0) (λ id. told (leaves_in m before id))
rows_are m before rows tells = fun_ext tells

pub leaves_by_rows : (m : Module) (before : Code) (rows : List ℕ) (s : Shape) → Tells rows m before → told (leaves_as m (λ id. get_or rows id 0) s) ≡ told (leaves_as m (leaves_in m before) s)
leaves_by_rows m before rows s tells = ap (λ (f : ℕ → ℕ). told (leaves_as m f s)) (rows_are m before rows tells) ∙ leaves_told m (leaves_in m before) s

pub ahead_by_rows : (m : Module) (before : Code) (rows : List ℕ) (number : ℕ) (s : Shape) → Tells rows m before → told (ahead_as (λ id. get_or rows id 0) number s) ≡ told (ahead_as (leaves_in m before) number s)
ahead_by_rows m before rows number s tells = ap (λ (f : ℕ → ℕ). told (ahead_as f number s)) (rows_are m before rows tells) ∙ ahead_told (leaves_in m before) number s

pub nothing_noted : (m : Module) (n : ℕ) → Tells (replicate n 0) m []
unfolding told
nothing_noted m n id = zeros n id
  where
    zeros : (n id : ℕ) → ◌≡◌ {A = ℕ} (get_or (replicate n 0) id 0) 0
    zeros zero id = refl
    zeros (suc n) zero = refl
    zeros (suc n) (suc id) = zeros n id

module _ (m : Module) (before : Code) (i : Instr) (rows : List ℕ) where
  pub none_noted : result (read i) ≡ None → Tells rows m before → Tells rows m (i ∷ before)
  none_noted e tells id = tells id ∙ ap told (sym (cond-false _ _ _ (ap (is_id id) e)))

  pub one_noted : (r count : ℕ) → r < length rows → result (read i) ≡ Some r → count ≡ told (leaves_as m (λ id. get_or rows id 0) (shape_of (read i))) → Tells rows m before → Tells (set rows r count) m (i ∷ before)
  one_noted r count room e is tells id = by_cases (cases_eq r id)
    where
      by_cases : (r ≡ id) ⊎ (r ≢ id) → get_or (set rows r count) id 0 ≡ told (leaves_in m (i ∷ before) id)
      by_cases (inl same) =
          ap (λ k. get_or (set rows r count) k 0) (sym same) ∙ get_or-set_same rows r count 0 room ∙ is ∙ leaves_by_rows m before rows (shape_of (read i)) tells
          ∙ ap told (sym (cond-true _ _ _ (ap (is_id id) e ∙ eq-eqb r id same)))
      by_cases (inr other) =
          get_or-set_other rows r id count 0 (λ same. other (sym same)) ∙ tells id ∙ ap told (sym (cond-false _ _ _ (ap (is_id id) e ∙ ne_eqb r id other)))
