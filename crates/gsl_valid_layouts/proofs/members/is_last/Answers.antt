use Rattle.std.proofs.Common.{◌≡◌, ◌+◌, ◌<◌, ℕ, zero, suc, List, [], ◌∷◌, length, drop, refl, ap, ◌∙◌, sym, ◌⊎◌, inl, inr, ◌≢◌, arith}
use Rattle.std.specs.Prelude.{nat_eq}
use Rattle.std.proofs.lemmas.Bool.{cases_eq, eq-eqb, ne_eqb}
use Rattle.gsl_valid.specs.LayoutRules.{is_end}
use Rattle.gsl_valid_layouts.proofs.members.is_last.Goals as goal

same_next : (a b : ℕ) → nat_eq (suc a) (suc b) ≡ nat_eq a b
same_next a b = by_cases (cases_eq a b)
  where
    by_cases : (a ≡ b) ⊎ (a ≢ b) → nat_eq (suc a) (suc b) ≡ nat_eq a b
    by_cases (inl same) = eq-eqb (suc a) (suc b) (ap suc same) ∙ sym (eq-eqb a b same)
    by_cases (inr other) = ne_eqb (suc a) (suc b) (λ e. other (omega (arith, e))) ∙ sym (ne_eqb a b other)

at_end : (k : ℕ) (l : List ℕ) → k < length l → nat_eq (k + 1) (length l) ≡ is_end (drop (k + 1) l)
at_end k [] low = absurd (omega (arith, low))
at_end zero (x ∷ []) low = refl
at_end zero (x ∷ y ∷ l) low = ne_eqb 1 (length (x ∷ y ∷ l)) (λ e. absurd (omega (arith, e)))
at_end (suc k) (x ∷ l) low =
    let next : suc k + 1 ≡ suc (k + 1) = omega arith in
    ap (λ n. nat_eq n (length (x ∷ l))) next ∙ same_next (k + 1) (length l) ∙ at_end k l (omega (arith, low)) ∙ ap (λ n. is_end (drop n (x ∷ l))) (sym next)

pub returns : goal.returns
returns c = at_end c.args.member c.args.members.now c.requires
