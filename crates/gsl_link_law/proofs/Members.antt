-- What stands in a list, and among the first items of each kind.
use Rattle.std.proofs.Common.{◌≡◌, refl, sym, ap, ◌∙◌, subst, ℕ, zero, suc, ◌⊎◌, inl, inr, Bool, true, false, cond, ◌||◌, List, [], ◌∷◌, ◌++◌, map, slice_get, Some}
use Rattle.std.specs.Prelude.{filter, if◌then◌else◌}
use Rattle.std.specs.List.{AllByRecursion, list_any, position_or_len}
use Rattle.std.proofs.lemmas.Bool.{true≢false}
use Rattle.std.proofs.lemmas.List.Sums.{passes_at_first}
use Rattle.std.proofs.lemmas.Option.{none-some, same_Some, get_or_from_slice_get}
use Rattle.gsl_types.proofs.Shapes.{slice_found}
use Rattle.gsl_link_units.specs.Firsts.{firsts_behind, firsts, again_behind}
use Rattle.gsl_link_law.proofs.Putting.{first_within}

abbrev pub In : {A : Type 0} → A → List A → Type 0
In x [] = ⊥
In x (y ∷ ys) = (y ≡ x) ⊎ In x ys

module _ {A : Type 0} where
  pub in_get : (xs : List A) (k : ℕ) (x : A) → slice_get xs k ≡ Some x → In x xs
  in_get [] k x is = let never : ⊥ = none-some x is in elim never [ ]
  in_get (y ∷ xs) zero x is = inl (same_Some y x is)
  in_get (y ∷ xs) (suc k) x is = inr (in_get xs k x is)

  pub get_at : (x : A) (xs : List A) → In x xs → (k : ℕ) × (slice_get xs k ≡ Some x)
  get_at x [] is = elim is [ ]
  get_at x (y ∷ xs) (inl is) = (0, ap Some is)
  get_at x (y ∷ xs) (inr is) = let later = get_at x xs is in (suc later.0, later.1)

  pub in_front : (x : A) (xs ys : List A) → In x xs → In x (xs ++ ys)
  in_front x [] ys is = elim is [ ]
  in_front x (y ∷ xs) ys (inl is) = inl is
  in_front x (y ∷ xs) ys (inr is) = inr (in_front x xs ys is)

  pub in_behind : (x : A) (xs ys : List A) → In x ys → In x (xs ++ ys)
  in_behind x [] ys is = is
  in_behind x (y ∷ xs) ys is = inr (in_behind x xs ys is)

  pub in_parts : (x : A) (xs ys : List A) → In x (xs ++ ys) → In x xs ⊎ In x ys
  in_parts x [] ys is = inr is
  in_parts x (y ∷ xs) ys (inl is) = inl (inl is)
  in_parts x (y ∷ xs) ys (inr is) = further (in_parts x xs ys is)
    where
      further : In x xs ⊎ In x ys → In x (y ∷ xs) ⊎ In x ys
      further (inl a) = inl (inr a)
      further (inr b) = inr b

  pub all_in : (P : A → Type 0) (xs : List A) → AllByRecursion P xs → (x : A) → In x xs → P x
  all_in P [] all x is = elim is [ ]
  all_in P (y ∷ xs) all x (inl is) = subst P is all.0
  all_in P (y ∷ xs) all x (inr is) = all_in P xs all.1 x is

  pub all_from : (P : A → Type 0) (xs : List A) → ((x : A) → In x xs → P x) → AllByRecursion P xs
  all_from P [] each = tt
  all_from P (y ∷ xs) each = (each y (inl refl), all_from P xs (λ x is. each x (inr is)))

  -- ---- searches

  pub any_in : (p : A → Bool) (xs : List A) (x : A) → In x xs → p x ≡ true → list_any p xs ≡ true
  any_in p [] x is passes = elim is [ ]
  any_in p (y ∷ xs) x (inl is) passes = ap (λ b. b || list_any p xs) (ap p is ∙ passes)
  any_in p (y ∷ xs) x (inr is) passes = by_cases (p y) (any_in p xs x is passes)
    where
      by_cases : (b : Bool) → list_any p xs ≡ true → (b || list_any p xs) ≡ true
      by_cases true later = refl
      by_cases false later = later

  pub any_from : (p : A → Bool) (xs : List A) → list_any p xs ≡ true → (x : A) × In x xs × (p x ≡ true)
  any_from p [] is = let never : ⊥ = true≢false (sym is) in elim never [ ]
  any_from p (y ∷ xs) is = by_cases (any_from p xs) (p y) refl is
    where
      by_cases : (list_any p xs ≡ true → (x : A) × In x xs × (p x ≡ true)) → (b : Bool) → p y ≡ b → (b || list_any p xs) ≡ true → (x : A) × In x (y ∷ xs) × (p x ≡ true)
      by_cases next true here any = (y, inl refl, here)
      by_cases next false here any = let later = next any in (later.0, inr later.1, later.2)

  -- what a search finds
  pub found_first : (p : A → Bool) (xs : List A) → list_any p xs ≡ true → (x : A) × (slice_get xs (position_or_len p xs) ≡ Some x) × In x xs × (p x ≡ true)
  found_first p xs is =
      let within = first_within p xs is in
      let found = slice_found xs (position_or_len p xs) within in (
        found.0,
        found.1,
        in_get xs (position_or_len p xs) found.0 found.1,
        ap p (sym (get_or_from_slice_get xs (position_or_len p xs) found.0 found.0 found.1)) ∙ passes_at_first p xs found.0 within,
      )

  pub filter_none : (p : A → Bool) (xs : List A) → filter p xs ≡ [] → (x : A) → In x xs → p x ≡ false
  filter_none p [] none x is = elim is [ ]
  filter_none p (y ∷ xs) none x is = by_cases (λ e. filter_none p xs e x) (p y) refl none is
    where
      by_cases : (filter p xs ≡ [] → In x xs → p x ≡ false) → (b : Bool) → p y ≡ b → cond b (y ∷ filter p xs) (filter p xs) ≡ [] → In x (y ∷ xs) → p x ≡ false
      by_cases next true here e at = cc
      by_cases next false here e (inl at) = ap p (sym at) ∙ here
      by_cases next false here e (inr at) = next e at

  pub filter_in : (p : A → Bool) (xs : List A) (x : A) → In x xs → p x ≡ true → In x (filter p xs)
  filter_in p [] x is passes = elim is [ ]
  filter_in p (y ∷ xs) x is passes = by_cases (λ at. filter_in p xs x at passes) (p y) refl is
    where
      by_cases : (In x xs → In x (filter p xs)) → (b : Bool) → p y ≡ b → In x (y ∷ xs) → In x (cond b (y ∷ filter p xs) (filter p xs))
      by_cases next true here (inl at) = inl at
      by_cases next true here (inr at) = inr (next at)
      by_cases next false here (inl at) = let never : ⊥ = true≢false (sym passes ∙ ap p (sym at) ∙ here) in elim never [ ]
      by_cases next false here (inr at) = next at

  pub in_filter : (p : A → Bool) (xs : List A) (x : A) → In x (filter p xs) → In x xs × (p x ≡ true)
  in_filter p [] x is = elim is [ ]
  in_filter p (y ∷ xs) x is = by_cases (in_filter p xs x) (p y) refl is
    where
      by_cases : (In x (filter p xs) → In x xs × (p x ≡ true)) → (b : Bool) → p y ≡ b → In x (cond b (y ∷ filter p xs) (filter p xs)) → In x (y ∷ xs) × (p x ≡ true)
      by_cases next true here (inl at) = (inl at, ap p (sym at) ∙ here)
      by_cases next true here (inr at) = let later = next at in (inr later.0, later.1)
      by_cases next false here at = let later = next at in (inr later.0, later.1)

  -- ---- the first of each

  module _ (alike : A → A → Bool) where
    pub firsts_from : (before xs : List A) (x : A) → In x (firsts_behind alike before xs) → In x xs
    firsts_from before [] x is = elim is [ ]
    firsts_from before (y ∷ xs) x is = by_cases (firsts_from (before ++ y ∷ []) xs x) (list_any (alike y) before) is
      where
        by_cases : (In x (firsts_behind alike (before ++ y ∷ []) xs) → In x xs) → (b : Bool) → In x (if b then firsts_behind alike (before ++ y ∷ []) xs else y ∷ firsts_behind alike (before ++ y ∷ []) xs) → In x (y ∷ xs)
        by_cases next true at = inr (next at)
        by_cases next false (inl at) = inl at
        by_cases next false (inr at) = inr (next at)

    module _ (itself : (x : A) → alike x x ≡ true) (trans : (x y z : A) → alike x y ≡ true → alike y z ≡ true → alike x z ≡ true) where
      -- each item is like one of those, or one that stands before
      abbrev Has : List A → List A → A → Type 0
      Has before xs x = (list_any (alike x) (firsts_behind alike before xs) ≡ true) ⊎ (list_any (alike x) before ≡ true)

      firsts_have : (before xs : List A) (x : A) → In x xs → Has before xs x
      firsts_have before [] x is = elim is [ ]
      firsts_have before (y ∷ xs) x is = by_cases (firsts_have (before ++ y ∷ []) xs x) (list_any (alike y) before) refl is
        where
          later : List A
          later = firsts_behind alike (before ++ y ∷ []) xs

          grown : (b : Bool) → list_any (alike x) later ≡ true → list_any (alike x) (if b then later else y ∷ later) ≡ true
          grown true any = any
          grown false any = by_test (alike x y)
            where
              by_test : (c : Bool) → (c || list_any (alike x) later) ≡ true
              by_test true = refl
              by_test false = any

          like_head : (b : Bool) → list_any (alike y) before ≡ b → alike x y ≡ true → (list_any (alike x) (if b then later else y ∷ later) ≡ true) ⊎ (list_any (alike x) before ≡ true)
          like_head true any same = let z = any_from (alike y) before any in inr (any_in (alike x) before z.0 z.1 (trans x y z.0 same z.2))
          like_head false any same = inl (ap (λ c. c || list_any (alike x) later) same)

          behind : (b : Bool) → list_any (alike y) before ≡ b → list_any (alike x) (before ++ y ∷ []) ≡ true → (list_any (alike x) (if b then later else y ∷ later) ≡ true) ⊎ (list_any (alike x) before ≡ true)
          behind b here any = at (any_from (alike x) (before ++ y ∷ []) any)
            where
              place : (z : A) → alike x z ≡ true → In z before ⊎ In z (y ∷ []) → (list_any (alike x) (if b then later else y ∷ later) ≡ true) ⊎ (list_any (alike x) before ≡ true)
              place z same (inl front) = inr (any_in (alike x) before z front same)
              place z same (inr (inl last)) = like_head b here (subst (λ w. alike x w ≡ true) (sym last) same)
              place z same (inr (inr none)) = elim none [ ]

              at : (z : A) × In z (before ++ y ∷ []) × (alike x z ≡ true) → (list_any (alike x) (if b then later else y ∷ later) ≡ true) ⊎ (list_any (alike x) before ≡ true)
              at z = place z.0 z.2 (in_parts z.0 before (y ∷ []) z.1)

          by_cases : (In x xs → Has (before ++ y ∷ []) xs x) → (b : Bool) → list_any (alike y) before ≡ b → In x (y ∷ xs) → (list_any (alike x) (if b then later else y ∷ later) ≡ true) ⊎ (list_any (alike x) before ≡ true)
          by_cases next b here (inl same) = like_head b here (subst (λ w. alike w y ≡ true) same (itself y))
          by_cases next b here (inr more) = further (next more)
            where
              further : Has (before ++ y ∷ []) xs x → (list_any (alike x) (if b then later else y ∷ later) ≡ true) ⊎ (list_any (alike x) before ≡ true)
              further (inl any) = inl (grown b any)
              further (inr any) = behind b here any

      pub has_first : (xs : List A) (x : A) → In x xs → list_any (alike x) (firsts alike xs) ≡ true
      has_first xs x is = by_cases (firsts_have [] xs x is)
        where
          by_cases : Has [] xs x → list_any (alike x) (firsts alike xs) ≡ true
          by_cases (inl any) = any
          by_cases (inr any) = let never : ⊥ = true≢false (sym any) in elim never [ ]

    -- ---- items that come again

    pub none_again : (before xs : List A) → again_behind alike before xs ≡ [] → (x z : A) → In x xs → In z before → alike x z ≡ false
    none_again before [] none x z is stands = elim is [ ]
    none_again before (y ∷ xs) none x z is stands = by_cases (λ e at. none_again (before ++ y ∷ []) xs e x z at (in_front z before (y ∷ []) stands)) (list_any (alike y) before) refl none is
      where
        by_test : (b : Bool) → alike y z ≡ b → list_any (alike y) before ≡ false → alike y z ≡ false
        by_test true same any = let never : ⊥ = true≢false (sym (any_in (alike y) before z stands same) ∙ any) in elim never [ ]
        by_test false same any = same

        by_cases : (again_behind alike (before ++ y ∷ []) xs ≡ [] → In x xs → alike x z ≡ false) → (b : Bool) → list_any (alike y) before ≡ b
            → (if b then y ∷ again_behind alike (before ++ y ∷ []) xs else again_behind alike (before ++ y ∷ []) xs) ≡ [] → In x (y ∷ xs) → alike x z ≡ false
        by_cases next true here e at = cc
        by_cases next false here e (inl at) = ap (λ w. alike w z) (sym at) ∙ by_test (alike y z) refl here
        by_cases next false here e (inr at) = next e at

    later_none : (before : List A) (y : A) (xs : List A) → again_behind alike before (y ∷ xs) ≡ [] → again_behind alike (before ++ y ∷ []) xs ≡ []
    later_none before y xs none = by_cases (list_any (alike y) before) none
      where
        by_cases : (b : Bool) → (if b then y ∷ again_behind alike (before ++ y ∷ []) xs else again_behind alike (before ++ y ∷ []) xs) ≡ [] → again_behind alike (before ++ y ∷ []) xs ≡ []
        by_cases true e = cc
        by_cases false e = e

    -- two items are one, or unlike
    pub apart_behind : (before xs : List A) → again_behind alike before xs ≡ [] → (x y : A) → In x xs → In y xs → (x ≡ y) ⊎ ((alike x y ≡ false) ⊎ (alike y x ≡ false))
    apart_behind before [] none x y first second = elim first [ ]
    apart_behind before (z ∷ xs) none x y (inl first) (inl second) = inl (sym first ∙ second)
    apart_behind before (z ∷ xs) none x y (inl first) (inr second) =
        inr (inr (none_again (before ++ z ∷ []) xs (later_none before z xs none) y x second (in_behind x before (z ∷ []) (inl first))))
    apart_behind before (z ∷ xs) none x y (inr first) (inl second) =
        inr (inl (none_again (before ++ z ∷ []) xs (later_none before z xs none) x y first (in_behind y before (z ∷ []) (inl second))))
    apart_behind before (z ∷ xs) none x y (inr first) (inr second) = apart_behind (before ++ z ∷ []) xs (later_none before z xs none) x y first second

pub in_map : {A B : Type 0} (f : A → B) (xs : List A) (x : A) → In x xs → In (f x) (map f xs)
in_map f [] x is = elim is [ ]
in_map f (y ∷ xs) x (inl is) = inl (ap f is)
in_map f (y ∷ xs) x (inr is) = inr (in_map f xs x is)

pub map_in : {A B : Type 0} (f : A → B) (xs : List A) (y : B) → In y (map f xs) → (x : A) × In x xs × (f x ≡ y)
map_in f [] y is = elim is [ ]
map_in f (x ∷ xs) y (inl is) = (x, inl refl, is)
map_in f (x ∷ xs) y (inr is) = let later = map_in f xs y is in (later.0, inr later.1, later.2)
