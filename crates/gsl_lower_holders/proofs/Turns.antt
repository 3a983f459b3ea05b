-- Parts of lowering for items, one behind the other.
use Rattle.std.proofs.Common.{◌≡◌, refl, sym, ap, ◌∙◌, ℕ, ◌+◌, ◌≤◌, List, [], ◌∷◌, ◌++◌, length, drop, slice_get, Option, Some, true, false, append_assoc, append-nil}
use Rattle.std.specs.Prelude.{if◌then◌else◌}
use Rattle.std.proofs.lemmas.List.{drop_all}
use Rattle.gsl_compute.proofs.Loops.{opened}
use Rattle.gsl_types.specs.declared.ty.Ty.{Ty}
use Rattle.gsl_overload.specs.Identity.{identical}
use Rattle.gsl_spv.specs.declared.refusal.BuildRefusal.{BuildRefusal}
use Rattle.gsl_spv.specs.declared.refusal.BuildRefusal.TheVariants.{TooManyIds, Memory}
use Rattle.gsl_lower_holders.specs.Flow.{Emit, Flow, Lowered, Gives, Lacks, behind, each, find_type, given, ◌>>=◌, Refuses, with_front}

-- one part, and the rest behind it
abbrev pub then_rest : {A : Type 0} → Emit (List A) → A → Emit (List A)
then_rest rest a = rest >>= (λ others. given (a ∷ others))

module _ {A : Type 0} (rest : Emit (List A)) where
  front_step : (front : List A) (a : A) (r : Lowered (List A)) → with_front front (behind r (λ others. given (a ∷ others))) ≡ with_front (front ++ a ∷ []) r
  front_step front a (Gives others flow) = ap (λ l. Gives l flow) (sym (append_assoc front (a ∷ []) others))
  front_step front a Lacks = refl

  pub turned : (front new : List A) (a : A) (flow : Flow) (one whole : Lowered (List A)) (first : Lowered A) → first ≡ Gives a flow → new ≡ front ++ a ∷ [] → one ≡ behind first (then_rest rest)
      → with_front front one ≡ whole → with_front new (rest flow) ≡ whole
  turned front new a flow one whole first is made opens so_far =
      ap (λ l. with_front l (rest flow)) made ∙ sym (front_step front a (rest flow)) ∙ ap (λ r. with_front front (behind r (then_rest rest))) (sym is) ∙ ap (with_front front) (sym opens) ∙ so_far

  pub stopped : (front : List A) (why : BuildRefusal) (one whole : Lowered (List A)) (first : Lowered A) → Refuses why first → one ≡ behind first (then_rest rest) → with_front front one ≡ whole → Refuses why whole
  stopped front TooManyIds one whole first is opens so_far = sym so_far ∙ ap (with_front front) opens ∙ ap (λ r. with_front front (behind r (then_rest rest))) is
  stopped front Memory one whole first is opens so_far = tt

module _ {A B : Type 0} (emit : A → Emit B) (items : List A) where
  opens : (k : ℕ) (a : A) → slice_get items k ≡ Some a → (flow : Flow) → each emit (drop k items) flow ≡ behind (emit a flow) (then_rest (each emit (drop (k + 1) items)))
  unfolding each
  opens k a at_k flow = ap (λ l. each emit l flow) (opened items k a at_k)

  pub goes_on : (k : ℕ) (a : A) (front new : List B) (b : B) (before after : Flow) (whole : Lowered (List B)) → slice_get items k ≡ Some a → emit a before ≡ Gives b after → new ≡ front ++ b ∷ []
      → with_front front (each emit (drop k items) before) ≡ whole → with_front new (each emit (drop (k + 1) items) after) ≡ whole
  goes_on k a front new b before after whole at_k is made so_far = turned (each emit (drop (k + 1) items)) front new b after _ whole _ is made (opens k a at_k before) so_far

  pub stops : (k : ℕ) (a : A) (front : List B) (why : BuildRefusal) (before : Flow) (whole : Lowered (List B)) → slice_get items k ≡ Some a → Refuses why (emit a before)
      → with_front front (each emit (drop k items) before) ≡ whole → Refuses why whole
  stops k a front why before whole at_k is so_far = stopped (each emit (drop (k + 1) items)) front why _ whole _ is (opens k a at_k before) so_far

  pub ends : (k : ℕ) (front : List B) (flow : Flow) (whole : Lowered (List B)) → length items ≤ k → with_front front (each emit (drop k items) flow) ≡ whole → whole ≡ Gives front flow
  unfolding each
  ends k front flow whole past so_far = sym so_far ∙ ap (λ l. with_front front (each emit l flow)) (drop_all k items past) ∙ ap (λ l. Gives l flow) (append-nil front)

-- ---- the types that are there

pub found_at : (ty : Ty) (entries : List (Ty × ℕ)) (k : ℕ) (entry : Ty × ℕ) (whole : Option ℕ) → slice_get entries k ≡ Some entry → identical ty entry.0 ≡ true → find_type ty (drop k entries) ≡ whole → Some entry.1 ≡ whole
found_at ty entries k entry whole at_k is so_far =
    sym (ap (find_type ty) (opened entries k entry at_k) ∙ ap (λ b. if b then Some entry.1 else find_type ty (drop (k + 1) entries)) is) ∙ so_far

pub not_at : (ty : Ty) (entries : List (Ty × ℕ)) (k : ℕ) (entry : Ty × ℕ) (whole : Option ℕ) → slice_get entries k ≡ Some entry → identical ty entry.0 ≡ false → find_type ty (drop k entries) ≡ whole → find_type ty (drop (k + 1) entries) ≡ whole
not_at ty entries k entry whole at_k is so_far =
    sym (ap (find_type ty) (opened entries k entry at_k) ∙ ap (λ b. if b then Some entry.1 else find_type ty (drop (k + 1) entries)) is) ∙ so_far
