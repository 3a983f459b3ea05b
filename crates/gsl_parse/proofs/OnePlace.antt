-- Tokens have no more than one first bad token.
use Rattle.std.proofs.Common.{◌≡◌, refl, sym, ap, subst, ◌∙◌, append_assoc, ◌⊎◌, inl, inr, [], ◌∷◌, ◌++◌}
use Rattle.gsl_base.specs.declared.fault.Place.{Place}
use Rattle.gsl_base.specs.declared.token.Token.{Token}
use Rattle.gsl_expr.specs.Reading.{Tokens}
use Rattle.gsl_parse.specs.Judged.{Begins, FirstBad}

-- the second begins with the first
Longer : Tokens → Tokens → Type 0
Longer xs us = (more : Tokens) × us ≡ xs ++ more

further : (x u : Token) (xs us : Tokens) → x ≡ u → Longer xs us → Longer (x ∷ xs) (u ∷ us)
unfolding Longer
further x u xs us h l = (l.0, ap (λ (z : Tokens). u ∷ z) l.1 ∙ ap (λ (t : Token). t ∷ (xs ++ l.0)) (sym h))

heads : (x u : Token) (xs us : Tokens) → x ∷ xs ≡ u ∷ us → (x ≡ u) × (xs ≡ us)
heads x u xs us e = (cc, cc)

-- Of two tokens in the same list, they are one, or either stands behind the other.
apart : (xs us : Tokens) (t v : Token) (ys ws : Tokens) → xs ++ t ∷ ys ≡ us ++ v ∷ ws → (t ≡ v) ⊎ (Longer (xs ++ t ∷ []) us ⊎ Longer (us ++ v ∷ []) xs)
unfolding Longer
apart [] [] t v ys ws e = inl (heads t v ys ws e).0
apart [] (u ∷ us) t v ys ws e = inr (inl (us, ap (λ (z : Token). z ∷ us) (sym (heads t u ys (us ++ v ∷ ws) e).0)))
apart (x ∷ xs) [] t v ys ws e = inr (inr (xs, ap (λ (z : Token). z ∷ xs) (heads x v (xs ++ t ∷ ys) ws e).0))
apart (x ∷ xs) (u ∷ us) t v ys ws e = go (apart xs us t v ys ws (heads x u (xs ++ t ∷ ys) (us ++ v ∷ ws) e).1)
  where
    same : x ≡ u
    same = (heads x u (xs ++ t ∷ ys) (us ++ v ∷ ws) e).0

    go : (t ≡ v) ⊎ (Longer (xs ++ t ∷ []) us ⊎ Longer (us ++ v ∷ []) xs) → (t ≡ v) ⊎ (Longer (x ∷ (xs ++ t ∷ [])) (u ∷ us) ⊎ Longer (u ∷ (us ++ v ∷ [])) (x ∷ xs))
    go (inl h) = inl h
    go (inr (inl l)) = inr (inl (further x u (xs ++ t ∷ []) us same l))
    go (inr (inr l)) = inr (inr (further u x (us ++ v ∷ []) xs (sym same) l))

module _ {A : Type 0} (Stands : A → Tokens → Type 0) where
  shorter : (xs us : Tokens) → Longer xs us → Begins Stands us → Begins Stands xs
  unfolding Longer
  shorter xs us l b = (l.0 ++ b.0, b.1, subst (λ (z : Tokens). Stands b.1 z) (ap (λ (z : Tokens). z ++ b.0) l.1 ∙ append_assoc xs l.0 b.0) b.2)

  not_all : (ts before : Tokens) (t : Token) (behind : Tokens) → ts ≡ before ++ t ∷ behind → (Begins Stands (before ++ t ∷ []) → ⊥) → Begins Stands ts → ⊥
  unfolding Longer
  not_all ts before t behind e none b = none (shorter (before ++ t ∷ []) ts (behind, e ∙ sym (append_assoc before (t ∷ []) behind)) b)

  pub one_place : (ts : Tokens) (p q : Place) → FirstBad Stands ts p → FirstBad Stands ts q → p ≡ q
  one_place ts _ _ (FirstBad.bad_token xs t ys e b none) (FirstBad.bad_token us v ws f c nor) = go (apart xs us t v ys ws (sym e ∙ f))
    where
      go : (t ≡ v) ⊎ (Longer (xs ++ t ∷ []) us ⊎ Longer (us ++ v ∷ []) xs) → t.place ≡ v.place
      go (inl h) = ap (λ (z : Token). z.place) h
      go (inr (inl l)) = absurd (none (shorter (xs ++ t ∷ []) us l c))
      go (inr (inr l)) = absurd (nor (shorter (us ++ v ∷ []) xs l b))
  one_place ts _ _ (FirstBad.bad_token xs t ys e b none) (FirstBad.too_soon c) = absurd (not_all ts xs t ys e none c)
  one_place ts _ _ (FirstBad.too_soon b) (FirstBad.bad_token us v ws f c nor) = absurd (not_all ts us v ws f nor b)
  one_place ts _ _ (FirstBad.too_soon b) (FirstBad.too_soon c) = refl
