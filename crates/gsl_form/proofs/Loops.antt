-- What each of a list gives, item by item.
use Rattle.std.proofs.Common.{◌≡◌, ℕ, zero, suc, ◌+◌, List, [], ◌∷◌, ◌++◌, drop, slice_get, Option, Some, None, refl, ap, sym, ◌∙◌, arith, append_assoc}
use Rattle.std.specs.Option.{option_map}
use Rattle.gsl_form.specs.Reading.{◌>>=◌, each}

module _ {A B : Type 0} (of : A → Option B) where
  -- what is left gives what its first item gives, and then the others
  each_at : (xs : List A) (i : ℕ) (x : A) → slice_get xs i ≡ Some x → each of (drop i xs) ≡ (of x >>= λ y. option_map (λ ys. y ∷ ys) (each of (drop (i + 1) xs)))
  each_at [] i x is = absurd (cc)
  each_at (z ∷ xs) zero x is = let same : z ≡ x = cc in ap (λ w. of w >>= λ y. option_map (λ ys. y ∷ ys) (each of xs)) same
  each_at (z ∷ xs) (suc i) x is = each_at xs i x is ∙ ap (λ k. of x >>= λ y. option_map (λ ys. y ∷ ys) (each of (drop k (z ∷ xs)))) (let e : suc (i + 1) ≡ suc i + 1 = omega arith in e)

  map_behind : (found : Option (List B)) (done : List B) (y : B) → option_map (λ ys. done ++ ys) (option_map (λ ys. y ∷ ys) found) ≡ option_map (λ ys. (done ++ y ∷ []) ++ ys) found
  map_behind None done y = refl
  map_behind (Some ys) done y = ap Some (sym (append_assoc done (y ∷ []) ys))

  pub each_some : (xs : List A) (i : ℕ) (x : A) (y : B) (done : List B) (all : Option (List B)) → slice_get xs i ≡ Some x → of x ≡ Some y
      → option_map (λ ys. done ++ ys) (each of (drop i xs)) ≡ all → option_map (λ ys. (done ++ y ∷ []) ++ ys) (each of (drop (i + 1) xs)) ≡ all
  each_some xs i x y done all here gives so_far =
      sym (map_behind (each of (drop (i + 1) xs)) done y)
      ∙ ap (λ found. option_map (λ ys. done ++ ys) (found >>= λ z. option_map (λ ys. z ∷ ys) (each of (drop (i + 1) xs)))) (sym gives)
      ∙ ap (option_map (λ ys. done ++ ys)) (sym (each_at xs i x here)) ∙ so_far

  pub each_none : (xs : List A) (i : ℕ) (x : A) (done : List B) (all : Option (List B)) → slice_get xs i ≡ Some x → of x ≡ None
      → option_map (λ ys. done ++ ys) (each of (drop i xs)) ≡ all → None ≡ all
  each_none xs i x done all here gives so_far =
      ap (λ found. option_map (λ ys. done ++ ys) (found >>= λ z. option_map (λ ys. z ∷ ys) (each of (drop (i + 1) xs)))) (sym gives)
      ∙ ap (option_map (λ ys. done ++ ys)) (sym (each_at xs i x here)) ∙ so_far
