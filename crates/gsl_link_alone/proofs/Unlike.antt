-- Items that are each unlike those before them: they are the first of each, and each has the number of its place.
use Rattle.std.proofs.Common.{◌≡◌, refl, sym, ap, ◌∙◌, subst, ℕ, zero, suc, ◌+◌, ◌<◌, ◌⊎◌, inl, inr, Bool, true, false, cond, not, ◌||◌, List, [], ◌∷◌, ◌++◌, map, slice_get, Some, arith}
use Rattle.std.specs.Prelude.{filter, if◌then◌else◌}
use Rattle.std.specs.List.{list_any, position_or_len}
use Rattle.std.proofs.lemmas.Bool.{true≢false}
use Rattle.std.proofs.lemmas.Option.{none-some, same_Some}
use Rattle.gsl_link_units.specs.Firsts.{firsts, firsts_behind, again, again_behind}
use Rattle.gsl_link.proofs.OneUnit.{firsts_all}
use Rattle.gsl_link_law.proofs.Members.{In, in_get, get_at, in_front, in_behind, in_parts, any_in, none_again}

-- each item is unlike those before it
abbrev pub Unlike : {A : Type 0} → (A → A → Bool) → List A → Type 0
Unlike alike [] = Unit {0}
Unlike alike (x ∷ xs) = ((y : _) → In y xs → alike y x ≡ false) × Unlike alike xs

pub falls : (b : Bool) → (b ≡ true → ⊥) → b ≡ false
falls true never = elim (never refl) [ ]
falls false never = refl

-- ---- searches

pub none_in : {A : Type 0} (p : A → Bool) (xs : List A) → list_any p xs ≡ false → (x : A) → In x xs → p x ≡ false
none_in p xs none x at = by_test (p x) refl
  where
    by_test : (b : Bool) → p x ≡ b → b ≡ false
    by_test true is = let never : ⊥ = true≢false (sym (any_in p xs x at is) ∙ none) in elim never [ ]
    by_test false is = refl

pub none_any : {A : Type 0} (p : A → Bool) (xs : List A) → ((x : A) → In x xs → p x ≡ false) → list_any p xs ≡ false
none_any p [] each = refl
none_any p (x ∷ xs) each = ap (λ b. b || list_any p xs) (each x (inl refl)) ∙ none_any p xs (λ y at. each y (inr at))

pub filter_all : {A : Type 0} (p : A → Bool) (xs : List A) → ((x : A) → In x xs → p x ≡ true) → filter p xs ≡ xs
filter_all p [] each = refl
filter_all p (x ∷ xs) each = ap (λ b. cond b (x ∷ filter p xs) (filter p xs)) (each x (inl refl)) ∙ ap (λ l. x ∷ l) (filter_all p xs (λ y at. each y (inr at)))

pub filter_empty : {A : Type 0} (p : A → Bool) (xs : List A) → ((x : A) → In x xs → p x ≡ false) → filter p xs ≡ []
filter_empty p [] each = refl
filter_empty p (x ∷ xs) each = ap (λ b. cond b (x ∷ filter p xs) (filter p xs)) (each x (inl refl)) ∙ filter_empty p xs (λ y at. each y (inr at))

pub map_stays : {A : Type 0} (f : A → A) (xs : List A) → ((x : A) → In x xs → f x ≡ x) → map f xs ≡ xs
map_stays f [] each = refl
map_stays f (x ∷ xs) each = ap (λ y. y ∷ map f xs) (each x (inl refl)) ∙ ap (λ l. x ∷ l) (map_stays f xs (λ y at. each y (inr at)))

module _ {A : Type 0} (alike : A → A → Bool) where
  -- ---- the first of each are unlike

  firsts_unlike : (before xs : List A) (x : A) → In x (firsts_behind alike before xs) → list_any (alike x) before ≡ false
  firsts_unlike before [] x at = elim at [ ]
  firsts_unlike before (y ∷ xs) x at = by_case (λ there. fewer (firsts_unlike (before ++ y ∷ []) xs x there)) (list_any (alike y) before) refl at
    where
      fewer : list_any (alike x) (before ++ y ∷ []) ≡ false → list_any (alike x) before ≡ false
      fewer none = none_any (alike x) before (λ z there. none_in (alike x) (before ++ y ∷ []) none z (in_front z before (y ∷ []) there))

      by_case : (In x (firsts_behind alike (before ++ y ∷ []) xs) → list_any (alike x) before ≡ false) → (b : Bool) → list_any (alike y) before ≡ b
          → In x (if b then firsts_behind alike (before ++ y ∷ []) xs else y ∷ firsts_behind alike (before ++ y ∷ []) xs) → list_any (alike x) before ≡ false
      by_case next true is there = next there
      by_case next false is (inl same) = ap (λ z. list_any (alike z) before) (sym same) ∙ is
      by_case next false is (inr there) = next there

  unlike_behind : (before xs : List A) → Unlike alike (firsts_behind alike before xs)
  unlike_behind before [] = tt
  unlike_behind before (y ∷ xs) = by_case (list_any (alike y) before) (unlike_behind (before ++ y ∷ []) xs)
    where
      by_case : (b : Bool) → Unlike alike (firsts_behind alike (before ++ y ∷ []) xs) → Unlike alike (if b then firsts_behind alike (before ++ y ∷ []) xs else y ∷ firsts_behind alike (before ++ y ∷ []) xs)
      by_case true rest = rest
      by_case false rest = (
        (λ x at. none_in (alike x) (before ++ y ∷ []) (firsts_unlike (before ++ y ∷ []) xs x at) y (in_behind y before (y ∷ []) (inl refl))),
        rest,
      )

  pub unlike_firsts : (xs : List A) → Unlike alike (firsts alike xs)
  unlike_firsts xs = unlike_behind [] xs

  -- ---- what is unlike are the first of each

  again_none : (before xs : List A) → ((x : A) → In x xs → list_any (alike x) before ≡ false) → Unlike alike xs → again_behind alike before xs ≡ []
  again_none before [] none unlike = refl
  again_none before (y ∷ xs) none unlike =
      ap (λ b. if b then y ∷ again_behind alike (before ++ y ∷ []) xs else again_behind alike (before ++ y ∷ []) xs) (none y (inl refl))
      ∙ again_none (before ++ y ∷ []) xs (λ x at. none_any (alike x) (before ++ y ∷ []) (λ z there. by_part x at z (in_parts z before (y ∷ []) there))) unlike.1
    where
      by_part : (x : A) → In x xs → (z : A) → In z before ⊎ In z (y ∷ []) → alike x z ≡ false
      by_part x at z (inl front) = none_in (alike x) before (none x (inr at)) z front
      by_part x at z (inr (inl last)) = subst (λ w. alike x w ≡ false) last (unlike.0 x at)
      by_part x at z (inr (inr more)) = elim more [ ]

  pub again_unlike : (xs : List A) → Unlike alike xs → again alike xs ≡ []
  again_unlike xs unlike = again_none [] xs (λ x at. refl) unlike

  pub firsts_stay : (xs : List A) → Unlike alike xs → firsts alike xs ≡ xs
  firsts_stay xs unlike = firsts_all alike [] xs (again_unlike xs unlike)

  unlike_from : (before xs : List A) → again_behind alike before xs ≡ [] → Unlike alike xs
  unlike_from before [] none = tt
  unlike_from before (y ∷ xs) none = by_case (list_any (alike y) before) none (unlike_from (before ++ y ∷ []) xs)
    where
      by_case : (b : Bool) → (if b then y ∷ again_behind alike (before ++ y ∷ []) xs else again_behind alike (before ++ y ∷ []) xs) ≡ [] → (again_behind alike (before ++ y ∷ []) xs ≡ [] → Unlike alike xs) → Unlike alike (y ∷ xs)
      by_case true e rest = cc
      by_case false e rest = ((λ x at. none_again alike (before ++ y ∷ []) xs e x y at (in_behind y before (y ∷ []) (inl refl))), rest e)

  pub unlike_again : (xs : List A) → again alike xs ≡ [] → Unlike alike xs
  unlike_again xs none = unlike_from [] xs none

  -- by the places
  pub unlike_places : (xs : List A) → ((a b : ℕ) (x y : A) → slice_get xs a ≡ Some x → slice_get xs b ≡ Some y → a < b → alike y x ≡ false) → Unlike alike xs
  unlike_places [] apart = tt
  unlike_places (x ∷ xs) apart = (
    (λ y at. let place = get_at y xs at in apart 0 (suc place.0) x y refl place.1 (omega arith)),
    unlike_places xs (λ a b z y at_a at_b less. apart (suc a) (suc b) z y at_a at_b (omega (arith, less))),
  )

  pub unlike_at : (xs : List A) → Unlike alike xs → (a b : ℕ) (x y : A) → slice_get xs a ≡ Some x → slice_get xs b ≡ Some y → a < b → alike y x ≡ false
  unlike_at [] unlike a b x y at_a at_b less = elim (none-some x at_a) [ ]
  unlike_at (z ∷ xs) unlike zero zero x y at_a at_b less = let never : ⊥ = omega (arith, less) in elim never [ ]
  unlike_at (z ∷ xs) unlike zero (suc b) x y at_a at_b less = subst (λ w. alike y w ≡ false) (same_Some z x at_a) (unlike.0 y (in_get xs b y at_b))
  unlike_at (z ∷ xs) unlike (suc a) zero x y at_a at_b less = let never : ⊥ = omega (arith, less) in elim never [ ]
  unlike_at (z ∷ xs) unlike (suc a) (suc b) x y at_a at_b less = unlike_at xs unlike.1 a b x y at_a at_b (omega (arith, less))

  -- an item is unlike those in front of it
  pub unlike_front : (front : List A) (x : A) (xs : List A) → Unlike alike (front ++ x ∷ xs) → (y : A) → In y front → alike x y ≡ false
  unlike_front [] x xs unlike y at = elim at [ ]
  unlike_front (z ∷ front) x xs unlike y (inl same) = subst (λ w. alike x w ≡ false) same (unlike.0 x (in_behind x front (x ∷ xs) (inl refl)))
  unlike_front (z ∷ front) x xs unlike y (inr at) = unlike_front front x xs unlike.1 y at

  -- ---- places

  pub place_of : ((x : A) → alike x x ≡ true) → (xs : List A) → Unlike alike xs → (k : ℕ) (x : A) → slice_get xs k ≡ Some x → position_or_len (alike x) xs ≡ k
  place_of itself [] unlike k x at = elim (none-some x at) [ ]
  place_of itself (y ∷ xs) unlike zero x at = ap (λ b. cond (not b) (1 + position_or_len (alike x) xs) 0) (ap (alike x) (same_Some y x at) ∙ itself x)
  place_of itself (y ∷ xs) unlike (suc k) x at =
      ap (λ b. cond (not b) (1 + position_or_len (alike x) xs) 0) (unlike.0 x (in_get xs k x at))
      ∙ (let place = place_of itself xs unlike.1 k x at in let next : 1 + position_or_len (alike x) xs ≡ suc k = omega (arith, place) in next)
