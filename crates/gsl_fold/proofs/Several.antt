-- Several expressions, one behind the other.
use Rattle.std.proofs.Common.{◌≡◌, refl, sym, ap, ◌∙◌, ℕ, suc, ◌+◌, ◌≤◌, List, [], ◌∷◌, ◌++◌, length, drop, slice_get, Option, Some, None, arith, append_assoc, append-nil}
use Rattle.std.proofs.lemmas.Option.{slice_get_within, get_or_from_slice_get}
use Rattle.std.proofs.lemmas.List.{drop_all}
use Rattle.std.proofs.Math.Seq.{drop-cons}
use Rattle.gsl_values.specs.declared.value.Value.{Value}
use Rattle.gsl_tree.specs.declared.expr.Expr.{Expr}
use Rattle.gsl_tree.specs.declared.folded.Consts.{Consts}
use Rattle.gsl_tree.specs.declared.folded.Standing.{Standing}
use Rattle.gsl_tree.specs.declared.folded.Standing.TheVariants.{Settled, Open, Never}
use Rattle.gsl_tree.specs.Drawing.{given, behind, ◌>>=◌}
use Rattle.gsl_tree.specs.Constants.{worse, standing, standings, gives, gives_all}
use Rattle.gsl_fold.specs.declared.stop.Stop.{Stop}
use Rattle.gsl_fold.specs.declared.stop.Stop.TheVariants.{Strays, Memory}
use Rattle.gsl_fold.specs.Answers.{Stops, with_front}

opened : {X : Type 0} (xs : List X) (k : ℕ) (x : X) → slice_get xs k ≡ Some x → drop k xs ≡ x ∷ drop (k + 1) xs
opened xs k x is =
    drop-cons xs k x (slice_get_within xs k x is) ∙ ap (λ y. y ∷ drop (suc k) xs) (get_or_from_slice_get xs k x x is) ∙ ap (λ n. x ∷ drop n xs) (let e : suc k ≡ k + 1 = omega arith in e)

-- ---- their standings

grouped : (a b c : Standing) → worse (worse a b) c ≡ worse a (worse b c)
grouped Settled b c = refl
grouped Open Settled c = refl
grouped Open Open Settled = refl
grouped Open Open Open = refl
grouped Open Open Never = refl
grouped Open Never c = refl
grouped Never b c = refl

settled_last : (a : Standing) → worse a Settled ≡ a
settled_last Settled = refl
settled_last Open = refl
settled_last Never = refl

module _ (consts : Consts) (es : List Expr) where
  pub standing_on : (k : ℕ) (e : Expr) (worst next own : Standing) → slice_get es k ≡ Some e → own ≡ standing consts e → next ≡ worse worst own
      → worse worst (standings consts (drop k es)) ≡ standings consts es → worse next (standings consts (drop (k + 1) es)) ≡ standings consts es
  standing_on k e worst next own at_k is made so_far =
      ap (λ s. worse s (standings consts (drop (k + 1) es))) (made ∙ ap (worse worst) is) ∙ grouped worst (standing consts e) (standings consts (drop (k + 1) es))
      ∙ ap (λ l. worse worst (standings consts l)) (sym (opened es k e at_k)) ∙ so_far

  pub standing_end : (k : ℕ) (worst : Standing) → length es ≤ k → worse worst (standings consts (drop k es)) ≡ standings consts es → worst ≡ standings consts es
  standing_end k worst past so_far = sym (settled_last worst) ∙ ap (λ l. worse worst (standings consts l)) (sym (drop_all k es past)) ∙ so_far

  -- ---- what they give

  front_step : (front : List Value) (v : Value) (r : Option (List Value) × List ℕ) → with_front front (behind r (λ vs. given (v ∷ vs))) ≡ with_front (front ++ v ∷ []) r
  front_step front v (Some vs, c) = ap (λ l. (Some l, c)) (sym (append_assoc front (v ∷ []) vs))
  front_step front v (None, c) = refl

  pub value_on : (k : ℕ) (e : Expr) (front new : List Value) (before after : List ℕ) (v : Value) (whole : Option (List Value) × List ℕ) → slice_get es k ≡ Some e → gives consts e before ≡ (Some v, after)
      → new ≡ front ++ v ∷ [] → with_front front (gives_all consts (drop k es) before) ≡ whole → with_front new (gives_all consts (drop (k + 1) es) after) ≡ whole
  value_on k e front new before after v whole at_k is made so_far =
      ap (λ l. with_front l (gives_all consts (drop (k + 1) es) after)) made ∙ sym (front_step front v (gives_all consts (drop (k + 1) es) after))
      ∙ ap (λ r. with_front front (behind r (λ x. gives_all consts (drop (k + 1) es) >>= (λ vs. given (x ∷ vs))))) (sym is)
      ∙ ap (λ l. with_front front (gives_all consts l before)) (sym (opened es k e at_k)) ∙ so_far

  pub value_stops : (k : ℕ) (e : Expr) (front : List Value) (before after : List ℕ) (stop : Stop) (whole : Option (List Value) × List ℕ) → slice_get es k ≡ Some e → Stops stop after (gives consts e before)
      → with_front front (gives_all consts (drop k es) before) ≡ whole → Stops stop after whole
  value_stops k e front before after Strays whole at_k is so_far =
      sym so_far ∙ ap (λ l. with_front front (gives_all consts l before)) (opened es k e at_k)
      ∙ ap (λ r. with_front front (behind r (λ x. gives_all consts (drop (k + 1) es) >>= (λ vs. given (x ∷ vs))))) is
  value_stops k e front before after Memory whole at_k is so_far = tt

  pub values_end : (k : ℕ) (front : List Value) (left : List ℕ) (whole : Option (List Value) × List ℕ) → length es ≤ k → with_front front (gives_all consts (drop k es) left) ≡ whole → whole ≡ (Some front, left)
  values_end k front left whole past so_far =
      sym so_far ∙ ap (λ l. with_front front (gives_all consts l left)) (drop_all k es past) ∙ ap (λ l. (Some l, left)) (append-nil front)
