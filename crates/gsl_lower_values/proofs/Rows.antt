-- Steps for items, one behind the other.
use Rattle.std.proofs.Common.{◌≡◌, refl, sym, ap, ◌∙◌, ℕ, ◌+◌, ◌≤◌, List, [], ◌∷◌, ◌++◌, length, drop, slice_get, Some, append_assoc, append-nil}
use Rattle.std.proofs.lemmas.List.{drop_all}
use Rattle.gsl_compute.proofs.Loops.{opened}
use Rattle.gsl_spv.specs.Sections.{Sections}
use Rattle.gsl_spv.specs.declared.refusal.BuildRefusal.{BuildRefusal}
use Rattle.gsl_spv.specs.declared.refusal.BuildRefusal.TheVariants.{TooManyIds, Memory}
use Rattle.gsl_lower_values.specs.Building.{Built, Made, Full, Step, behind, given, ◌>>=◌, Refuses, in_order, with_front}

module _ {A : Type 0} (step : A → Step ℕ) (items : List A) where
  abbrev then_rest : ℕ → ℕ → Step (List ℕ)
  then_rest k id = in_order step (drop (k + 1) items) >>= (λ ids. given (id ∷ ids))

  opens : (k : ℕ) (a : A) → slice_get items k ≡ Some a → (s : Sections) → in_order step (drop k items) s ≡ behind (step a s) (then_rest k)
  unfolding in_order
  opens k a at_k s = ap (λ l. in_order step l s) (opened items k a at_k)

  front_step : (front : List ℕ) (id : ℕ) (r : Built (List ℕ)) → with_front front (behind r (λ ids. given (id ∷ ids))) ≡ with_front (front ++ id ∷ []) r
  front_step front id (Made ids s) = ap (λ l. Made l s) (sym (append_assoc front (id ∷ []) ids))
  front_step front id Full = refl

  pub goes_on : (k : ℕ) (a : A) (front new : List ℕ) (id : ℕ) (before after : Sections) (whole : Built (List ℕ)) → slice_get items k ≡ Some a → step a before ≡ Made id after → new ≡ front ++ id ∷ []
      → with_front front (in_order step (drop k items) before) ≡ whole → with_front new (in_order step (drop (k + 1) items) after) ≡ whole
  goes_on k a front new id before after whole at_k is made so_far =
      ap (λ l. with_front l (in_order step (drop (k + 1) items) after)) made ∙ sym (front_step front id (in_order step (drop (k + 1) items) after))
      ∙ ap (λ r. with_front front (behind r (then_rest k))) (sym is) ∙ ap (with_front front) (sym (opens k a at_k before)) ∙ so_far

  pub stops : (k : ℕ) (a : A) (front : List ℕ) (why : BuildRefusal) (before : Sections) (whole : Built (List ℕ)) → slice_get items k ≡ Some a → Refuses why (step a before)
      → with_front front (in_order step (drop k items) before) ≡ whole → Refuses why whole
  stops k a front TooManyIds before whole at_k is so_far = sym so_far ∙ ap (with_front front) (opens k a at_k before) ∙ ap (λ r. with_front front (behind r (then_rest k))) is
  stops k a front Memory before whole at_k is so_far = tt

  pub ends : (k : ℕ) (front : List ℕ) (s : Sections) (whole : Built (List ℕ)) → length items ≤ k → with_front front (in_order step (drop k items) s) ≡ whole → whole ≡ Made front s
  unfolding in_order
  ends k front s whole past so_far = sym so_far ∙ ap (λ l. with_front front (in_order step l s)) (drop_all k items past) ∙ ap (λ l. Made l s) (append-nil front)
