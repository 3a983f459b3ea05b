-- What the first of items in order misses, found without putting them in order.
use Rattle.std.proofs.Common.{◌≡◌, refl, sym, ap, ◌∙◌, subst, Bool, true, false, if◌then◌else◌, List, [], ◌∷◌, Option, Some, None, Ok}
use Rattle.gsl_inputs.specs.Demands.{Met, all_met, and_met}

-- the first of two, where there is one
abbrev pub or_else : {M : Type 0} → Option M → Option M → Option M
or_else None later = later
or_else (Some x) later = Some x

module _ {A : Type 0} {M : Type 0} (before : A → A → Bool) (cross : (a b c : A) → before a b ≡ true → before c b ≡ false → before a c ≡ true) (apart : (a b : A) → before a b ≡ true → before b a ≡ false)
    (miss : A → Option M) (least : Option M → Option M → Option M) (none_first : (l : Option M) → least None l ≡ l) (none_later : (x : M) → least (Some x) None ≡ Some x)
    (first_least : (a b : A) (x y : M) → miss a ≡ Some x → miss b ≡ Some y → before a b ≡ true → least (Some x) (Some y) ≡ Some x)
    (later_least : (a b : A) (x y : M) → miss a ≡ Some x → miss b ≡ Some y → before a b ≡ false → least (Some x) (Some y) ≡ Some y)
    (put : A → List A → List A) (put_none : (a : A) → put a [] ≡ a ∷ []) (put_one : (a n : A) (s : List A) → put a (n ∷ s) ≡ (if before a n then a ∷ n ∷ s else n ∷ put a s))
    (sorted : List A → List A) (sorted_none : sorted [] ≡ []) (sorted_one : (a : A) (s : List A) → sorted (a ∷ s) ≡ put a (sorted s)) where
  abbrev first_missed : List A → Option M
  first_missed [] = None
  first_missed (a ∷ s) = or_else (miss a) (first_missed s)

  abbrev pub folded : List A → Option M
  folded [] = None
  folded (a ∷ s) = least (miss a) (folded s)

  -- none of these stands before an item
  abbrev NoneBefore : A → List A → Type 0
  NoneBefore n [] = Unit {0}
  NoneBefore n (c ∷ s) = (before c n ≡ false) × NoneBefore n s

  abbrev InOrder : List A → Type 0
  InOrder [] = Unit {0}
  InOrder (n ∷ s) = NoneBefore n s × InOrder s

  put_after : (n a : A) (s : List A) → before a n ≡ false → NoneBefore n s → NoneBefore n (put a s)
  put_after n a [] is none = subst (NoneBefore n) (sym (put_none a)) (is, tt)
  put_after n a (c ∷ s) is none = subst (NoneBefore n) (sym (put_one a c s)) (by_test (before a c) (put_after n a s is none.1))
    where
      by_test : (b : Bool) → NoneBefore n (put a s) → NoneBefore n (if b then a ∷ c ∷ s else c ∷ put a s)
      by_test true later = (is, none)
      by_test false later = (none.0, later)

  passed_on : (a n : A) (s : List A) → before a n ≡ true → NoneBefore n s → NoneBefore a s
  passed_on a n [] is none = tt
  passed_on a n (c ∷ s) is none = (apart a c (cross a n c is none.0), passed_on a n s is none.1)

  put_ordered : (a : A) (s : List A) → InOrder s → InOrder (put a s)
  put_ordered a [] o = subst InOrder (sym (put_none a)) (tt, tt)
  put_ordered a (n ∷ s) o = subst InOrder (sym (put_one a n s)) (by_test (before a n) refl (put_ordered a s o.1))
    where
      by_test : (b : Bool) → before a n ≡ b → InOrder (put a s) → InOrder (if b then a ∷ n ∷ s else n ∷ put a s)
      by_test true is later = ((apart a n is, passed_on a n s is o.0), o)
      by_test false is later = (put_after n a s is o.0, later)

  found_behind : (a n : A) (s : List A) (x : M) → before a n ≡ true → NoneBefore n s → miss a ≡ Some x → least (Some x) (first_missed s) ≡ Some x
  found_behind a n [] x is none e = none_later x
  found_behind a n (c ∷ s) x is none e = by_miss (miss c) refl (found_behind a n s x is none.1 e)
    where
      by_miss : (o : Option M) → miss c ≡ o → least (Some x) (first_missed s) ≡ Some x → least (Some x) (or_else o (first_missed s)) ≡ Some x
      by_miss None f later = later
      by_miss (Some y) f later = first_least a c x y e f (cross a n c is none.0)

  front_found : (a n : A) (s : List A) (x : M) → before a n ≡ true → NoneBefore n s → miss a ≡ Some x → (p : Option M) → miss n ≡ p → least (Some x) (or_else p (first_missed s)) ≡ Some x
  front_found a n s x is none e None f = found_behind a n s x is none e
  front_found a n s x is none e (Some y) f = first_least a n x y e f is

  put_in_front : (a n : A) (s : List A) → before a n ≡ true → NoneBefore n s → (o : Option M) → miss a ≡ o → or_else o (first_missed (n ∷ s)) ≡ least o (first_missed (n ∷ s))
  put_in_front a n s is none None e = sym (none_first (first_missed (n ∷ s)))
  put_in_front a n s is none (Some x) e = sym (front_found a n s x is none e (miss n) refl)

  found_before : (a n : A) (y : M) → before a n ≡ false → miss n ≡ Some y → (o : Option M) → miss a ≡ o → Some y ≡ least o (Some y)
  found_before a n y is f None e = sym (none_first (Some y))
  found_before a n y is f (Some x) e = sym (later_least a n x y e f is)

  put_behind : (a n : A) (s : List A) → before a n ≡ false → first_missed (put a s) ≡ least (miss a) (first_missed s) → (p : Option M) → miss n ≡ p
      → or_else p (first_missed (put a s)) ≡ least (miss a) (or_else p (first_missed s))
  put_behind a n s is later None f = later
  put_behind a n s is later (Some y) f = found_before a n y is f (miss a) refl

  put_alone : (o : Option M) → or_else o None ≡ least o None
  put_alone None = sym (none_first None)
  put_alone (Some x) = sym (none_later x)

  put_missed : (a : A) (s : List A) → InOrder s → first_missed (put a s) ≡ least (miss a) (first_missed s)
  put_missed a [] o = ap first_missed (put_none a) ∙ put_alone (miss a)
  put_missed a (n ∷ s) o = ap first_missed (put_one a n s) ∙ by_test (before a n) refl (put_missed a s o.1)
    where
      by_test : (b : Bool) → before a n ≡ b → first_missed (put a s) ≡ least (miss a) (first_missed s) → first_missed (if b then a ∷ n ∷ s else n ∷ put a s) ≡ least (miss a) (first_missed (n ∷ s))
      by_test true is later = put_in_front a n s is o.0 (miss a) refl
      by_test false is later = put_behind a n s is later (miss n) refl

  all_ordered : (s : List A) → InOrder (sorted s)
  all_ordered [] = subst InOrder (sym sorted_none) tt
  all_ordered (a ∷ s) = subst InOrder (sym (sorted_one a s)) (put_ordered a (sorted s) (all_ordered s))

  sorted_missed : (s : List A) → first_missed (sorted s) ≡ folded s
  sorted_missed [] = ap first_missed sorted_none
  sorted_missed (a ∷ s) = ap first_missed (sorted_one a s) ∙ put_missed a (sorted s) (all_ordered s) ∙ ap (least (miss a)) (sorted_missed s)

  -- the demands in order are met, or the first of those that are missed is refused
  module _ (demand : A → Met) (told : Option M → Met) (is_told : (a : A) → demand a ≡ told (miss a)) (told_none : told None ≡ Ok tt) (told_one : (x : M) (later : Met) → and_met (told (Some x)) later ≡ told (Some x)) where
    met_from : (later : Met) (s : List A) → later ≡ told (first_missed s) → (o : Option M) → and_met (told o) later ≡ told (or_else o (first_missed s))
    met_from later s is None = ap (λ d. and_met d later) told_none ∙ is
    met_from later s is (Some x) = told_one x later

    all_found : (s : List A) → all_met demand s ≡ told (first_missed s)
    all_found [] = sym told_none
    all_found (a ∷ s) = ap (λ d. and_met d (all_met demand s)) (is_told a) ∙ met_from (all_met demand s) s (all_found s) (miss a)

    pub all_folded : (s : List A) → all_met demand (sorted s) ≡ told (folded s)
    all_folded s = all_found (sorted s) ∙ ap told (sorted_missed s)
