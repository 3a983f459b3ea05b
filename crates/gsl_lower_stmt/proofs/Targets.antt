-- Labels of arms, and what is put for them.
use Rattle.std.proofs.Common.{◌≡◌, sym, ap, ◌∙◌, ℕ, ◌+◌, ◌≤◌, List, [], ◌∷◌, ◌++◌, length, map, drop, slice_get, Some, append_assoc, append-nil}
use Rattle.std.specs.Prelude.{true, false, if◌then◌else◌}
use Rattle.std.proofs.lemmas.List.{drop_all}
use Rattle.gsl_compute.proofs.Loops.{opened}
use Rattle.gsl_spv.specs.declared.refusal.BuildRefusal.{BuildRefusal}
use Rattle.gsl_tree.specs.declared.stmt.Arm.{Arm}
use Rattle.gsl_lower_holders.specs.Flow.{Emit, Flow, Lowered, Gives, Refuses, each, fresh, with_front}
use Rattle.gsl_lower_holders.proofs.Turns.{stopped, turned}
use Rattle.gsl_lower_stmt.specs.Coming.{default_in, words_in}
use Rattle.gsl_lower_stmt.specs.Parts.{default_of, pairs, targets}

-- ---- one for each arm

abbrev pub fresh_each : List Arm → Emit (List ℕ)
fresh_each arms = each (λ one. fresh) (map words_in arms)

module _ (arms : List Arm) where
  opens : (k : ℕ) (arm : Arm) → slice_get arms k ≡ Some arm → (flow : Flow) → fresh_each (drop k arms) flow ≡ fresh_each (arm ∷ drop (k + 1) arms) flow
  opens k arm at_k flow = ap (λ l. fresh_each l flow) (opened arms k arm at_k)

  pub labels_on : (k : ℕ) (arm : Arm) (front new : List ℕ) (id : ℕ) (before after : Flow) (whole : Lowered (List ℕ)) → slice_get arms k ≡ Some arm → fresh before ≡ Gives id after → new ≡ front ++ id ∷ []
      → with_front front (fresh_each (drop k arms) before) ≡ whole → with_front new (fresh_each (drop (k + 1) arms) after) ≡ whole
  unfolding each
  labels_on k arm front new id before after whole at_k is made so_far = turned (fresh_each (drop (k + 1) arms)) front new id after _ whole (fresh before) is made (opens k arm at_k before) so_far

  pub labels_stop : (k : ℕ) (arm : Arm) (front : List ℕ) (why : BuildRefusal) (before : Flow) (whole : Lowered (List ℕ)) → slice_get arms k ≡ Some arm → Refuses why (fresh before)
      → with_front front (fresh_each (drop k arms) before) ≡ whole → Refuses why whole
  unfolding each
  labels_stop k arm front why before whole at_k is so_far = stopped (fresh_each (drop (k + 1) arms)) front why _ whole (fresh before) is (opens k arm at_k before) so_far

  pub labels_end : (k : ℕ) (front : List ℕ) (flow : Flow) (whole : Lowered (List ℕ)) → length arms ≤ k → with_front front (fresh_each (drop k arms) flow) ≡ whole → whole ≡ Gives front flow
  unfolding each
  labels_end k front flow whole past so_far = sym so_far ∙ ap (λ l. with_front front (fresh_each l flow)) (drop_all k arms past) ∙ ap (λ l. Gives l flow) (append-nil front)

-- ---- the default

module _ (arms : List Arm) (labels : List ℕ) (end : ℕ) where
  abbrev pub default_from : ℕ → ℕ
  default_from k = default_of (map default_in (drop k arms)) (drop k labels) end

  default_opens : (k label : ℕ) (arm : Arm) → slice_get labels k ≡ Some label → slice_get arms k ≡ Some arm → default_from k ≡ (if default_in arm then label else default_from (k + 1))
  default_opens k label arm at_label at_arm =
      ap (λ l. default_of (map default_in l) (drop k labels) end) (opened arms k arm at_arm) ∙ ap (λ l. default_of (default_in arm ∷ map default_in (drop (k + 1) arms)) l end) (opened labels k label at_label)

  pub default_found : (k label : ℕ) (arm : Arm) (whole : ℕ) → slice_get labels k ≡ Some label → slice_get arms k ≡ Some arm → default_in arm ≡ true → default_from k ≡ whole → label ≡ whole
  default_found k label arm whole at_label at_arm is so_far = sym (default_opens k label arm at_label at_arm ∙ ap (λ b. if b then label else default_from (k + 1)) is) ∙ so_far

  pub default_on : (k label : ℕ) (arm : Arm) (whole : ℕ) → slice_get labels k ≡ Some label → slice_get arms k ≡ Some arm → default_in arm ≡ false → default_from k ≡ whole → default_from (k + 1) ≡ whole
  default_on k label arm whole at_label at_arm is so_far = sym (default_opens k label arm at_label at_arm ∙ ap (λ b. if b then label else default_from (k + 1)) is) ∙ so_far

  pub default_end : (k whole : ℕ) → length arms ≤ k → default_from k ≡ whole → end ≡ whole
  default_end k whole past so_far = sym (ap (λ l. default_of (map default_in l) (drop k labels) end) (drop_all k arms past)) ∙ so_far

-- ---- operands

pub pairs_on : (label : ℕ) (words : List ℕ) (k word : ℕ) (old new whole : List ℕ) → slice_get words k ≡ Some word → new ≡ old ++ word ∷ label ∷ [] → old ++ pairs label (drop k words) ≡ whole → new ++ pairs label (drop (k + 1) words) ≡ whole
pairs_on label words k word old new whole at_k is so_far =
    ap (λ l. l ++ pairs label (drop (k + 1) words)) is ∙ append_assoc old (word ∷ label ∷ []) (pairs label (drop (k + 1) words)) ∙ sym (ap (λ l. old ++ pairs label l) (opened words k word at_k)) ∙ so_far

pub pairs_end : (label : ℕ) (words : List ℕ) (k : ℕ) (front whole : List ℕ) → length words ≤ k → front ++ pairs label (drop k words) ≡ whole → front ≡ whole
pairs_end label words k front whole past so_far = sym (ap (λ l. front ++ pairs label l) (drop_all k words past) ∙ append-nil front) ∙ so_far

pub targets_on : (arms : List Arm) (labels : List ℕ) (k label : ℕ) (arm : Arm) (old new whole : List ℕ) → slice_get labels k ≡ Some label → slice_get arms k ≡ Some arm → new ≡ old ++ pairs label (words_in arm)
    → old ++ targets (map words_in (drop k arms)) (drop k labels) ≡ whole → new ++ targets (map words_in (drop (k + 1) arms)) (drop (k + 1) labels) ≡ whole
targets_on arms labels k label arm old new whole at_label at_arm is so_far =
    ap (λ l. l ++ targets (map words_in (drop (k + 1) arms)) (drop (k + 1) labels)) is ∙ append_assoc old (pairs label (words_in arm)) (targets (map words_in (drop (k + 1) arms)) (drop (k + 1) labels))
    ∙ sym (ap (λ l. old ++ targets (map words_in l) (drop k labels)) (opened arms k arm at_arm) ∙ ap (λ l. old ++ targets (words_in arm ∷ map words_in (drop (k + 1) arms)) l) (opened labels k label at_label)) ∙ so_far

pub targets_end : (arms : List Arm) (labels : List ℕ) (k : ℕ) (front whole : List ℕ) → length arms ≤ k → front ++ targets (map words_in (drop k arms)) (drop k labels) ≡ whole → front ≡ whole
targets_end arms labels k front whole past so_far = sym (ap (λ l. front ++ targets (map words_in l) (drop k labels)) (drop_all k arms past) ∙ append-nil front) ∙ so_far
