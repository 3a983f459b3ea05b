-- The table as it grows by an instruction.
use Rattle.std.proofs.Common.{◌≡◌, ℕ, zero, suc, ◌+◌, ◌<◌, List, [], ◌∷◌, length, drop, set, get_or, replicate, Some, None, refl, ap, sym, ◌∙◌, ◌⊎◌, inl, inr, ◌≢◌}
use Rattle.std.proofs.lemmas.Bool.{cases_eq, cond-true, cond-false, eq-eqb, ne_eqb}
use Rattle.std.proofs.lemmas.List.{get_or-set_same, get_or-set_other}
use Rattle.gsl_words.specs.declared.module.Instr.{Instr}
use Rattle.gsl_words.specs.declared.module.Module.{Module}
use Rattle.gsl_valid.specs.Ids.{result, is_id}
use Rattle.gsl_valid.specs.Instruction.{read}
use Rattle.gsl_valid.specs.Kinds.{kind}
use Rattle.gsl_valid.specs.Placed.{Code}
use Rattle.gsl_kinds.specs.Runtimes.{front}
use Rattle.gsl_leaves.specs.Table.{told}
use Rattle.gsl_leaves.proofs.Noted.{one_more}
use Rattle.gsl_frames.specs.declared.taken.Taken.{Taken}
use Rattle.gsl_frames.specs.Frames.{Tells, behind_told, place_in, taken_in, told_taken}
use Rattle.gsl_frames.specs.Taken.{in_front}
use Rattle.gsl_frames.proofs.Told.{behind_is, front_is}

pub nothing_noted : (m : Module) (n : ℕ) → Tells (replicate n 0) m []
unfolding told
nothing_noted m n id = zeros n id
  where
    zeros : (n id : ℕ) → ◌≡◌ {A = ℕ} (get_or (replicate n 0) id 0) 0
    zeros zero id = refl
    zeros (suc n) zero = refl
    zeros (suc n) (suc id) = zeros n id

module _ (m : Module) (before : Code) (i : Instr) (rows : List ℕ) where
  pub none_noted : result (read i) ≡ None → Tells rows m before → Tells rows m (i ∷ before)
  none_noted e tells id = tells id ∙ ap told (sym (cond-false _ _ _ (ap (is_id id) e)))

  pub one_noted : (r place : ℕ) (t : Taken) → r < length rows → result (read i) ≡ Some r → place ≡ in_front (kind (read i)) t → t ≡ told_taken (taken_in m before) → Tells rows m before → Tells (set rows r place) m (i ∷ before)
  one_noted r place t room e is taken tells id = by_cases (cases_eq r id)
    where
      by_cases : (r ≡ id) ⊎ (r ≢ id) → get_or (set rows r place) id 0 ≡ told (place_in m (i ∷ before) id)
      by_cases (inl same) =
          ap (λ k. get_or (set rows r place) k 0) (sym same) ∙ get_or-set_same rows r place 0 room ∙ is ∙ ap (in_front (kind (read i))) taken ∙ front_is (kind (read i)) (taken_in m before)
          ∙ ap told (sym (cond-true _ _ _ (ap (is_id id) e ∙ eq-eqb r id same)))
      by_cases (inr other) =
          get_or-set_other rows r id place 0 (λ same. other (sym same)) ∙ tells id ∙ ap told (sym (cond-false _ _ _ (ap (is_id id) e ∙ ne_eqb r id other)))

-- what is taken behind one instruction more
pub taken_more : (m : Module) (at : ℕ) (i : Instr) (rest : Code) (t next : Taken) → at < length m.instrs → drop at m.instrs ≡ i ∷ rest → t ≡ told_taken (taken_in m (front m at)) → next ≡ behind_told m (kind (read i)) t → next ≡ told_taken (taken_in m (front m (at + 1)))
taken_more m at i rest t next below here taken is =
    is ∙ ap (behind_told m (kind (read i))) taken ∙ behind_is m (kind (read i)) (taken_in m (front m at)) ∙ ap (λ c. told_taken (taken_in m c)) (sym (one_more m at i rest below here))
