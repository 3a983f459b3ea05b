-- What puts types for items, one behind the other.
use Rattle.std.proofs.Common.{◌≡◌, refl, sym, ap, subst, ◌∙◌, ℕ, ◌+◌, ◌≤◌, List, [], ◌∷◌, ◌++◌, length, drop, slice_get, Some, append_assoc, append-nil}
use Rattle.std.proofs.lemmas.List.{drop_all}
use Rattle.gsl_compute.proofs.Loops.{opened}
use Rattle.gsl_spv.specs.Sections.{Sections}
use Rattle.gsl_spv.specs.declared.refusal.BuildRefusal.{BuildRefusal}
use Rattle.gsl_spv.specs.declared.refusal.BuildRefusal.TheVariants.{TooManyIds, Memory}
use Rattle.gsl_types.specs.declared.ty.StructType.{StructType}
use Rattle.gsl_lower_values.specs.Building.{Built, Made, Full, Step, behind, given, ◌>>=◌, Refuses}
use Rattle.gsl_lower_types.specs.Known.{Known, Put, all, each, with_front}
use Rattle.gsl_lower_types.specs.Values.{struct_type, struct_types}

-- ---- ids in a row

-- an id, and the rest behind it
abbrev pub then_rest : {K : Type 0} → (K → Step (List ℕ × K)) → ℕ × K → Step (List ℕ × K)
then_rest rest r = rest r.1 >>= (λ rs. given (r.0 ∷ rs.0, rs.1))

module _ {K : Type 0} (rest : K → Step (List ℕ × K)) where
  front_step : (front : List ℕ) (id : ℕ) (r : Built (List ℕ × K)) → with_front front (behind r (λ rs. given (id ∷ rs.0, rs.1))) ≡ with_front (front ++ id ∷ []) r
  front_step front id (Made rs s) = ap (λ l. Made (l, rs.1) s) (sym (append_assoc front (id ∷ []) rs.0))
  front_step front id Full = refl

  pub turned : (front new : List ℕ) (id : ℕ) (known : K) (s : Sections) (one whole : Built (List ℕ × K)) (first : Built (ℕ × K)) → first ≡ Made (id, known) s → new ≡ front ++ id ∷ []
      → one ≡ behind first (then_rest rest) → with_front front one ≡ whole → with_front new (rest known s) ≡ whole
  turned front new id known s one whole first is made opens so_far =
      ap (λ l. with_front l (rest known s)) made ∙ sym (front_step front id (rest known s)) ∙ ap (λ r. with_front front (behind r (then_rest rest))) (sym is) ∙ ap (with_front front) (sym opens) ∙ so_far

  pub stopped : (front : List ℕ) (why : BuildRefusal) (one whole : Built (List ℕ × K)) (first : Built (ℕ × K)) → Refuses why first → one ≡ behind first (then_rest rest) → with_front front one ≡ whole → Refuses why whole
  stopped front TooManyIds one whole first is opens so_far = sym so_far ∙ ap (with_front front) opens ∙ ap (λ r. with_front front (behind r (then_rest rest))) is
  stopped front Memory one whole first is opens so_far = tt

module _ {A : Type 0} (put : A → Put ℕ) (items : List A) where
  opens : (k : ℕ) (a : A) → slice_get items k ≡ Some a → (known : Known) (s : Sections) → each put (drop k items) known s ≡ behind (put a known s) (then_rest (each put (drop (k + 1) items)))
  unfolding each
  opens k a at_k known s = ap (λ l. each put l known s) (opened items k a at_k)

  pub goes_on : (k : ℕ) (a : A) (front new : List ℕ) (id : ℕ) (before after : Known) (s t : Sections) (whole : Built (List ℕ × Known)) → slice_get items k ≡ Some a → put a before s ≡ Made (id, after) t
      → new ≡ front ++ id ∷ [] → with_front front (each put (drop k items) before s) ≡ whole → with_front new (each put (drop (k + 1) items) after t) ≡ whole
  goes_on k a front new id before after s t whole at_k is made so_far = turned (each put (drop (k + 1) items)) front new id after t _ whole _ is made (opens k a at_k before s) so_far

  pub stops : (k : ℕ) (a : A) (front : List ℕ) (why : BuildRefusal) (known : Known) (s : Sections) (whole : Built (List ℕ × Known)) → slice_get items k ≡ Some a → Refuses why (put a known s)
      → with_front front (each put (drop k items) known s) ≡ whole → Refuses why whole
  stops k a front why known s whole at_k is so_far = stopped (each put (drop (k + 1) items)) front why _ whole _ is (opens k a at_k known s) so_far

  pub ends : (k : ℕ) (front : List ℕ) (known : Known) (s : Sections) (whole : Built (List ℕ × Known)) → length items ≤ k → with_front front (each put (drop k items) known s) ≡ whole → whole ≡ Made (front, known) s
  unfolding each
  ends k front known s whole past so_far = sym so_far ∙ ap (λ l. with_front front (each put l known s)) (drop_all k items past) ∙ ap (λ l. Made (l, known) s) (append-nil front)

-- ---- types alone

-- what follows a part that gives nothing
abbrev pub next : Put (Unit {0}) → Unit {0} × Known → Step (Unit {0} × Known)
next rest r = rest r.1

module _ (rest : Put (Unit {0})) where
  pub passed : (known : Known) (s : Sections) (one whole : Built (Unit {0} × Known)) (first : Built (Unit {0} × Known)) → first ≡ Made (tt, known) s → one ≡ behind first (next rest) → one ≡ whole → rest known s ≡ whole
  passed known s one whole first is opens so_far = ap (λ r. behind r (next rest)) (sym is) ∙ sym opens ∙ so_far

  pub refused : (why : BuildRefusal) (one whole : Built (Unit {0} × Known)) (first : Built (Unit {0} × Known)) → Refuses why first → one ≡ behind first (next rest) → one ≡ whole → Refuses why whole
  refused TooManyIds one whole first is opens so_far = sym so_far ∙ opens ∙ ap (λ r. behind r (next rest)) is
  refused Memory one whole first is opens so_far = tt

module _ {A : Type 0} (put : A → Put (Unit {0})) (items : List A) where
  all_opens : (k : ℕ) (a : A) → slice_get items k ≡ Some a → (known : Known) (s : Sections) → all put (drop k items) known s ≡ behind (put a known s) (next (all put (drop (k + 1) items)))
  unfolding all
  all_opens k a at_k known s = ap (λ l. all put l known s) (opened items k a at_k)

  pub all_on : (k : ℕ) (a : A) (before after : Known) (s t : Sections) (whole : Built (Unit {0} × Known)) → slice_get items k ≡ Some a → put a before s ≡ Made (tt, after) t
      → all put (drop k items) before s ≡ whole → all put (drop (k + 1) items) after t ≡ whole
  all_on k a before after s t whole at_k is so_far = passed (all put (drop (k + 1) items)) after t _ whole _ is (all_opens k a at_k before s) so_far

  pub all_stop : (k : ℕ) (a : A) (why : BuildRefusal) (known : Known) (s : Sections) (whole : Built (Unit {0} × Known)) → slice_get items k ≡ Some a → Refuses why (put a known s)
      → all put (drop k items) known s ≡ whole → Refuses why whole
  all_stop k a why known s whole at_k is so_far = refused (all put (drop (k + 1) items)) why _ whole _ is (all_opens k a at_k known s) so_far

  pub all_end : (k : ℕ) (known : Known) (s : Sections) (whole : Built (Unit {0} × Known)) → length items ≤ k → all put (drop k items) known s ≡ whole → whole ≡ Made (tt, known) s
  unfolding all
  all_end k known s whole past so_far = sym so_far ∙ ap (λ l. all put l known s) (drop_all k items past)

-- ---- structs

module _ (structs : List StructType) where
  structs_open : (k : ℕ) (a : StructType) → slice_get structs k ≡ Some a → (known : Known) (s : Sections)
      → struct_types k (drop k structs) known s ≡ behind (struct_type k a known s) (next (struct_types (k + 1) (drop (k + 1) structs)))
  unfolding struct_types
  structs_open k a at_k known s = ap (λ l. struct_types k l known s) (opened structs k a at_k)

  pub structs_on : (k number : ℕ) (a : StructType) (before after : Known) (s t : Sections) (whole : Built (Unit {0} × Known)) → slice_get structs k ≡ Some a → number ≡ k → struct_type number a before s ≡ Made (tt, after) t
      → struct_types k (drop k structs) before s ≡ whole → struct_types (k + 1) (drop (k + 1) structs) after t ≡ whole
  structs_on k number a before after s t whole at_k same is so_far =
      passed (struct_types (k + 1) (drop (k + 1) structs)) after t _ whole _ (sym (ap (λ n. struct_type n a before s) same) ∙ is) (structs_open k a at_k before s) so_far

  pub structs_stop : (k number : ℕ) (a : StructType) (why : BuildRefusal) (known : Known) (s : Sections) (whole : Built (Unit {0} × Known)) → slice_get structs k ≡ Some a → number ≡ k
      → Refuses why (struct_type number a known s) → struct_types k (drop k structs) known s ≡ whole → Refuses why whole
  structs_stop k number a why known s whole at_k same is so_far =
      refused (struct_types (k + 1) (drop (k + 1) structs)) why _ whole _ (subst (λ n. Refuses why (struct_type n a known s)) same is) (structs_open k a at_k known s) so_far

  pub structs_end : (k : ℕ) (known : Known) (s : Sections) (whole : Built (Unit {0} × Known)) → length structs ≤ k → struct_types k (drop k structs) known s ≡ whole → whole ≡ Made (tt, known) s
  unfolding struct_types
  structs_end k known s whole past so_far = sym so_far ∙ ap (λ l. struct_types k l known s) (drop_all k structs past)
