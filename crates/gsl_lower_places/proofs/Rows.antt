-- Components that are stored, one behind the other.
use Rattle.std.proofs.Common.{◌≡◌, sym, ap, ◌∙◌, ℕ, suc, ◌+◌, ◌≤◌, List, ◌∷◌, length, drop, slice_get, Some, arith}
use Rattle.std.proofs.lemmas.List.{drop_all}
use Rattle.std.proofs.lemmas.Option.{slice_get_within, get_or_from_slice_get}
use Rattle.std.proofs.Math.Seq.{drop-cons}
use Rattle.gsl_spv.specs.Sections.{Sections}
use Rattle.gsl_spv.specs.declared.refusal.BuildRefusal.{BuildRefusal}
use Rattle.gsl_spv.specs.declared.refusal.BuildRefusal.TheVariants.{TooManyIds, Memory}
use Rattle.gsl_lower_values.specs.Building.{Built, Made, behind, Refuses}
use Rattle.gsl_lower_values.specs.declared.operand.Operand.{Operand}
use Rattle.gsl_lower_places.specs.Writing.{each_from, one_at}
use Rattle.gsl_lower_places.specs.declared.reached.Part.{Part}

module _ (id class : ℕ) (parts : List Part) (v : Operand) (positions : List ℕ) where
  opened : (k position : ℕ) → slice_get positions k ≡ Some position → drop k positions ≡ position ∷ drop (k + 1) positions
  opened k position is =
      drop-cons positions k position (slice_get_within positions k position is) ∙ ap (λ y. y ∷ drop (suc k) positions) (get_or_from_slice_get positions k position position is)
      ∙ ap (λ n. position ∷ drop n positions) (let e : suc k ≡ k + 1 = omega arith in e)

  opens : (k position : ℕ) → slice_get positions k ≡ Some position → (s : Sections) → each_from id class parts v k (drop k positions) s ≡ behind (one_at id class parts v k position s) (λ done. each_from id class parts v (k + 1) (drop (k + 1) positions))
  unfolding each_from
  opens k position at_k s = ap (λ l. each_from id class parts v k l s) (opened k position at_k)

  pub goes_on : (k position : ℕ) (before after : Sections) (whole : Built (Unit {0})) → slice_get positions k ≡ Some position → one_at id class parts v k position before ≡ Made tt after → each_from id class parts v k (drop k positions) before ≡ whole
      → each_from id class parts v (k + 1) (drop (k + 1) positions) after ≡ whole
  goes_on k position before after whole at_k is so_far = ap (λ r. behind r (λ done. each_from id class parts v (k + 1) (drop (k + 1) positions))) (sym is) ∙ sym (opens k position at_k before) ∙ so_far

  pub stops : (k position : ℕ) (why : BuildRefusal) (before : Sections) (whole : Built (Unit {0})) → slice_get positions k ≡ Some position → Refuses why (one_at id class parts v k position before) → each_from id class parts v k (drop k positions) before ≡ whole → Refuses why whole
  stops k position TooManyIds before whole at_k is so_far = sym so_far ∙ opens k position at_k before ∙ ap (λ r. behind r (λ done. each_from id class parts v (k + 1) (drop (k + 1) positions))) is
  stops k position Memory before whole at_k is so_far = tt

  pub ends : (k : ℕ) (s : Sections) (whole : Built (Unit {0})) → length positions ≤ k → each_from id class parts v k (drop k positions) s ≡ whole → whole ≡ Made tt s
  unfolding each_from
  ends k s whole past so_far = sym so_far ∙ ap (λ l. each_from id class parts v k l s) (drop_all k positions past)
