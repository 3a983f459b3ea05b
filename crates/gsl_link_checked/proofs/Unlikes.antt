-- Lists of items that are each unlike those before them: with one more, each by another, and those that pass a test.
use Rattle.std.proofs.Common.{◌≡◌, refl, subst, ◌⊎◌, inl, inr, Bool, true, false, cond, List, [], ◌∷◌, ◌++◌, map}
use Rattle.std.specs.Prelude.{filter}
use Rattle.std.specs.List.{AllByRecursion}
use Rattle.gsl_link_law.proofs.Members.{In, in_filter, in_parts}
use Rattle.gsl_link_alone.proofs.Unlike.{Unlike}

-- one more that is unlike all of them
pub unlike_more : {A : Type 0} (alike : A → A → Bool) (xs : List A) (x : A) → Unlike alike xs → ((y : A) → In y xs → alike x y ≡ false) → Unlike alike (xs ++ x ∷ [])
unlike_more alike [] x unlike each = ((λ y at. elim at [ ]), tt)
unlike_more alike (z ∷ xs) x unlike each = (
  (λ y at. by_part y (in_parts y xs (x ∷ []) at)),
  unlike_more alike xs x unlike.1 (λ y at. each y (inr at)),
)
  where
    by_part : (y : _) → In y xs ⊎ In y (x ∷ []) → alike y z ≡ false
    by_part y (inl at) = unlike.0 y at
    by_part y (inr (inl same)) = subst (λ w. alike w z ≡ false) same (each z (inl refl))
    by_part y (inr (inr none)) = elim none [ ]

-- those that pass a test
pub unlike_passing : {A : Type 0} (alike : A → A → Bool) (p : A → Bool) (xs : List A) → Unlike alike xs → Unlike alike (filter p xs)
unlike_passing alike p [] unlike = tt
unlike_passing alike p (x ∷ xs) unlike = by_test (p x) (unlike_passing alike p xs unlike.1)
  where
    by_test : (b : Bool) → Unlike alike (filter p xs) → Unlike alike (cond b (x ∷ filter p xs) (filter p xs))
    by_test true rest = ((λ y at. unlike.0 y (in_filter p xs y at).0), rest)
    by_test false rest = rest

-- each by another, where what is unlike stays so
module _ {A B : Type 0} (f : A → B) (P : A → Type 0) (alike : A → A → Bool) (other : B → B → Bool) (stays : (x y : A) → P x → P y → alike x y ≡ false → other (f x) (f y) ≡ false) where
  first_apart : (xs : List A) (z : A) → P z → AllByRecursion P xs → ((y : A) → In y xs → alike y z ≡ false) → (y : B) → In y (map f xs) → other y (f z) ≡ false
  first_apart [] z holds all each y at = elim at [ ]
  first_apart (x ∷ xs) z holds all each y (inl same) = subst (λ w. other w (f z) ≡ false) same (stays x z all.0 holds (each x (inl refl)))
  first_apart (x ∷ xs) z holds all each y (inr at) = first_apart xs z holds all.1 (λ w there. each w (inr there)) y at

  pub unlike_each : (xs : List A) → AllByRecursion P xs → Unlike alike xs → Unlike other (map f xs)
  unlike_each [] all unlike = tt
  unlike_each (x ∷ xs) all unlike = (first_apart xs x all.0 all.1 unlike.0, unlike_each xs all.1 unlike.1)

-- by a test that passes less
pub unlike_other : {A : Type 0} (alike other : A → A → Bool) → ((x y : A) → alike x y ≡ false → other x y ≡ false) → (xs : List A) → Unlike alike xs → Unlike other xs
unlike_other alike other less [] unlike = tt
unlike_other alike other less (x ∷ xs) unlike = ((λ y at. less y x (unlike.0 y at)), unlike_other alike other less xs unlike.1)

-- of any items
pub all_any : {A : Type 0} (xs : List A) → AllByRecursion (λ (x : A). Unit {0}) xs
all_any [] = tt
all_any (x ∷ xs) = (tt, all_any xs)
