-- Steps for leaves, one behind the other.
use Rattle.std.proofs.Common.{◌≡◌, sym, ap, ◌∙◌, ℕ, suc, ◌+◌, ◌-◌, ◌<◌, ◌≤◌, List, ◌++◌, length, drop, slice_get, Some, arith, append_assoc}
use Rattle.std.specs.List.{flat_map, range_with_len}
use Rattle.std.proofs.lemmas.List.{drop_all}
use Rattle.gsl_compute.proofs.Loops.{opened}
use Rattle.gsl_spv.specs.Sections.{Sections}
use Rattle.gsl_spv.specs.declared.refusal.BuildRefusal.{BuildRefusal}
use Rattle.gsl_spv.specs.declared.refusal.BuildRefusal.TheVariants.{TooManyIds, Memory}
use Rattle.gsl_values.specs.declared.op.BinaryOp.{BinaryOp}
use Rattle.gsl_lower_values.specs.Building.{Built, Made, Step, behind, Refuses}
use Rattle.gsl_lower_leaves.specs.Copies.{all_compared, each, one_more}
use Rattle.gsl_lower_leaves.specs.declared.leaf.Leaf.{Leaf}

module _ (step : Leaf → Step (Unit {0})) (leaves : List Leaf) where
  opens : (k : ℕ) (one : Leaf) → slice_get leaves k ≡ Some one → (s : Sections) → each step (drop k leaves) s ≡ behind (step one s) (λ done. each step (drop (k + 1) leaves))
  unfolding each
  opens k one at_k s = ap (λ l. each step l s) (opened leaves k one at_k)

  pub goes_on : (k : ℕ) (one : Leaf) (before after : Sections) (whole : Built (Unit {0})) → slice_get leaves k ≡ Some one → step one before ≡ Made tt after → each step (drop k leaves) before ≡ whole
      → each step (drop (k + 1) leaves) after ≡ whole
  goes_on k one before after whole at_k is so_far = ap (λ r. behind r (λ done. each step (drop (k + 1) leaves))) (sym is) ∙ sym (opens k one at_k before) ∙ so_far

  pub stops : (k : ℕ) (one : Leaf) (why : BuildRefusal) (before : Sections) (whole : Built (Unit {0})) → slice_get leaves k ≡ Some one → Refuses why (step one before) → each step (drop k leaves) before ≡ whole → Refuses why whole
  stops k one TooManyIds before whole at_k is so_far = sym so_far ∙ opens k one at_k before ∙ ap (λ r. behind r (λ done. each step (drop (k + 1) leaves))) is
  stops k one Memory before whole at_k is so_far = tt

  pub ends : (k : ℕ) (s : Sections) (whole : Built (Unit {0})) → length leaves ≤ k → each step (drop k leaves) s ≡ whole → whole ≡ Made tt s
  unfolding each
  ends k s whole past so_far = sym so_far ∙ ap (λ l. each step l s) (drop_all k leaves past)

module _ (which : BinaryOp) (a b : ℕ) (leaves : List Leaf) where
  opens_on : (k : ℕ) (one : Leaf) (so_far : ℕ) → slice_get leaves k ≡ Some one → (s : Sections)
      → all_compared which a b so_far (drop k leaves) s ≡ behind (one_more which a b so_far one s) (λ both. all_compared which a b both (drop (k + 1) leaves))
  unfolding all_compared
  opens_on k one so_far at_k s = ap (λ l. all_compared which a b so_far l s) (opened leaves k one at_k)

  pub compares_on : (k : ℕ) (one : Leaf) (id both : ℕ) (before after : Sections) (whole : Built ℕ) → slice_get leaves k ≡ Some one → one_more which a b id one before ≡ Made both after
      → all_compared which a b id (drop k leaves) before ≡ whole → all_compared which a b both (drop (k + 1) leaves) after ≡ whole
  compares_on k one id both before after whole at_k is so_far = ap (λ r. behind r (λ x. all_compared which a b x (drop (k + 1) leaves))) (sym is) ∙ sym (opens_on k one id at_k before) ∙ so_far

  pub compares_stop : (k : ℕ) (one : Leaf) (id : ℕ) (why : BuildRefusal) (before : Sections) (whole : Built ℕ) → slice_get leaves k ≡ Some one → Refuses why (one_more which a b id one before)
      → all_compared which a b id (drop k leaves) before ≡ whole → Refuses why whole
  compares_stop k one id TooManyIds before whole at_k is so_far = sym so_far ∙ opens_on k one id at_k before ∙ ap (λ r. behind r (λ x. all_compared which a b x (drop (k + 1) leaves))) is
  compares_stop k one id Memory before whole at_k is so_far = tt

  pub compares_end : (k : ℕ) (id : ℕ) (s : Sections) (whole : Built ℕ) → length leaves ≤ k → all_compared which a b id (drop k leaves) s ≡ whole → whole ≡ Made id s
  unfolding all_compared
  compares_end k id s whole past so_far = sym so_far ∙ ap (λ l. all_compared which a b id l s) (drop_all k leaves past)

-- what is made of numbers in a row, the next one behind those that are there
pub elements_on : (f : ℕ → List Leaf) (all new : List Leaf) (k n : ℕ) (whole : List Leaf) → k < n → new ≡ all ++ f k → all ++ flat_map f (range_with_len k (n - k)) ≡ whole → new ++ flat_map f (range_with_len (k + 1) (n - (k + 1))) ≡ whole
elements_on f all new k n whole below put so_far =
    ap (λ l. l ++ flat_map f (range_with_len (k + 1) (n - (k + 1)))) put ∙ append_assoc all (f k) (flat_map f (range_with_len (k + 1) (n - (k + 1))))
    ∙ ap (λ m. all ++ flat_map f (range_with_len k m)) (let e : suc (n - (k + 1)) ≡ n - k = omega (arith, below) in e) ∙ so_far
