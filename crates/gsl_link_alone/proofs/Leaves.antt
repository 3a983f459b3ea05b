-- The leaves of global variables, counted at the declarations that stand for them, are no more than those counted at the first ones.
use Rattle.std.proofs.Common.{◌≡◌, refl, sym, ap, ◌∙◌, subst, ℕ, ◌+◌, ◌<◌, ◌≤◌, ◌⊎◌, inl, inr, Bool, true, false, cond, not, List, [], ◌∷◌, ◌++◌, append-nil, Option, Some, None, arith}
use Rattle.std.specs.Prelude.{filter, nat_lt, if◌then◌else◌}
use Rattle.std.specs.List.{list_any}
use Rattle.std.proofs.lemmas.Bool.{cases_lt, lt-ltb, ltb-true, true≢false}
use Rattle.gsl_base.specs.declared.fault.Place.{Place}
use Rattle.gsl_types.specs.Leaves.{told_leaves}
use Rattle.gsl_types.specs.declared.ty.StructType.{StructType}
use Rattle.gsl_tree.specs.declared.unit.GlobalVar.{GlobalVar}
use Rattle.gsl_link_units.specs.Firsts.{firsts, firsts_behind}
use Rattle.gsl_link_whole.specs.Numbers.{Sited}
use Rattle.gsl_link.specs.Rows.{most_leaves, passes_behind}
use Rattle.gsl_link_law.proofs.Members.{In, any_from, in_filter, in_parts}
use Rattle.gsl_link_alone.proofs.Unlike.{Unlike, falls, filter_empty}

abbrev pub total : {A : Type 0} → (A → ℕ) → List A → ℕ
total w [] = 0
total w (x ∷ xs) = w x + total w xs

-- ---- the row

not_passed : (b : Bool) (place : Place) (later : Option Place) → (if b then Some place else later) ≡ None → (b ≡ false) × (later ≡ None)
not_passed true place later none = cc
not_passed false place later none = (refl, none)

at_most : (most n : ℕ) → nat_lt most n ≡ false → n ≤ most
at_most most n is = by_case (cases_lt most n)
  where
    by_case : (most < n) ⊎ (n ≤ most) → n ≤ most
    by_case (inl over) = let never : ⊥ = true≢false (sym (lt-ltb most n over) ∙ is) in elim never [ ]
    by_case (inr within) = within

module _ (structs : List StructType) where
  abbrev pub leaves : GlobalVar → ℕ
  leaves g = told_leaves structs g.ty

  abbrev pub site_leaves : Sited → ℕ
  site_leaves a = told_leaves structs a.global.ty

  pub within_most : (before : ℕ) (globals : List Sited) → passes_behind structs before globals ≡ None → before ≤ most_leaves → before + total site_leaves globals ≤ most_leaves
  within_most before [] none below = omega (arith, below)
  within_most before (a ∷ globals) none below =
      let behind = before + told_leaves structs a.global.ty in
      let is = not_passed (nat_lt most_leaves behind) a.global.place (passes_behind structs behind globals) none in
      let bound = within_most behind globals is.1 (at_most most_leaves behind is.0) in
      omega (arith, bound)

  pub none_passes : (before : ℕ) (globals : List Sited) → before + total site_leaves globals ≤ most_leaves → passes_behind structs before globals ≡ None
  none_passes before [] bound = refl
  none_passes before (a ∷ globals) bound =
      ap (λ b. if b then Some a.global.place else passes_behind structs (before + told_leaves structs a.global.ty) globals)
      (falls (nat_lt most_leaves (before + told_leaves structs a.global.ty)) (λ over. let past = ltb-true most_leaves (before + told_leaves structs a.global.ty) over in omega (arith, past, bound)))
      ∙ none_passes (before + told_leaves structs a.global.ty) globals (omega (arith, bound))

-- ---- totals

module _ {A : Type 0} (w : A → ℕ) where
  pub total_append_nil : (xs : List A) → total w (xs ++ []) ≡ total w xs
  total_append_nil xs = ap (total w) (append-nil xs)

  -- the first of each are some of the items
  firsts_fewer : (alike : A → A → Bool) (before xs : List A) → total w (firsts_behind alike before xs) ≤ total w xs
  firsts_fewer alike before [] = omega arith
  firsts_fewer alike before (x ∷ xs) = by_case (list_any (alike x) before) (firsts_fewer alike (before ++ x ∷ []) xs)
    where
      by_case : (b : Bool) → total w (firsts_behind alike (before ++ x ∷ []) xs) ≤ total w xs → total w (if b then firsts_behind alike (before ++ x ∷ []) xs else x ∷ firsts_behind alike (before ++ x ∷ []) xs) ≤ w x + total w xs
      by_case true later = omega (arith, later)
      by_case false later = omega (arith, later)

  pub firsts_total : (alike : A → A → Bool) (xs : List A) → total w (firsts alike xs) ≤ total w xs
  firsts_total alike xs = firsts_fewer alike [] xs

  parted : (test : A → Bool) (xs : List A) → total w xs ≡ total w (filter test xs) + total w (filter (λ x. not (test x)) xs)
  parted test [] = refl
  parted test (x ∷ xs) = by_case (test x) (parted test xs)
    where
      by_case : (b : Bool) → total w xs ≡ total w (filter test xs) + total w (filter (λ y. not (test y)) xs)
          → w x + total w xs ≡ total w (cond b (x ∷ filter test xs) (filter test xs)) + total w (cond (not b) (x ∷ filter (λ y. not (test y)) xs) (filter (λ y. not (test y)) xs))
      by_case true later = omega (arith, later)
      by_case false later = omega (arith, later)

  -- ---- items that are each unlike, counted against a list that has one like each

  module _ (alike : A → A → Bool) (all : List A) (itself : (x : A) → alike x x ≡ true) (swap : (x y : A) → In x all → In y all → alike x y ≡ true → alike y x ≡ true)
      (chain : (x y z : A) → In x all → In y all → In z all → alike x y ≡ true → alike y z ≡ true → alike x z ≡ true) (agree : (x y : A) → In x all → In y all → alike x y ≡ true → w x ≡ w y) where
    abbrev Among : List A → Type 0
    Among xs = (x : A) → In x xs → In x all

    -- at most one is like an item
    one_alike : (f : A) → In f all → (xs : List A) → Among xs → Unlike alike xs → total w (filter (λ x. alike x f) xs) ≤ w f
    one_alike f at [] among unlike = omega arith
    one_alike f at (x ∷ xs) among unlike = by_case (alike x f) refl (one_alike f at xs (λ y there. among y (inr there)) unlike.1)
      where
        none : alike x f ≡ true → filter (λ y. alike y f) xs ≡ []
        none is = filter_empty (λ y. alike y f) xs (λ y there. falls (alike y f) (λ too.
            let both : alike y x ≡ true = chain y f x (among y (inr there)) at (among x (inl refl)) too (swap x f (among x (inl refl)) at is) in
            true≢false (sym both ∙ unlike.0 y there)))

        by_case : (b : Bool) → alike x f ≡ b → total w (filter (λ y. alike y f) xs) ≤ w f → total w (cond b (x ∷ filter (λ y. alike y f) xs) (filter (λ y. alike y f) xs)) ≤ w f
        by_case true is later =
            let rest : total w (filter (λ y. alike y f) xs) ≡ 0 = ap (total w) (none is) in
            let same = agree x f (among x (inl refl)) at is in
            omega (arith, rest, same)
        by_case false is later = later

    unlike_filter : (test : A → Bool) (xs : List A) → Unlike alike xs → Unlike alike (filter test xs)
    unlike_filter test [] unlike = tt
    unlike_filter test (x ∷ xs) unlike = by_case (test x) (unlike_filter test xs unlike.1)
      where
        by_case : (b : Bool) → Unlike alike (filter test xs) → Unlike alike (cond b (x ∷ filter test xs) (filter test xs))
        by_case true later = ((λ y at. unlike.0 y (in_filter test xs y at).0), later)
        by_case false later = later

    abbrev HasOne : List A → A → Type 0
    HasOne fs x = (f : A) × (In f fs × (alike x f ≡ true))

    pub counted : (fs xs : List A) → Among fs → Among xs → Unlike alike xs → ((x : A) → In x xs → HasOne fs x) → total w xs ≤ total w fs
    counted [] [] among too unlike has = omega arith
    counted [] (x ∷ xs) among too unlike has = elim ((has x (inl refl)).1.0) [ ]
    counted (f ∷ fs) xs among too unlike has =
        let test = λ (x : A). alike x f in
        let rest = filter (λ (x : A). not (alike x f)) xs in
        let sum = parted test xs in
        let one = one_alike f (among f (inl refl)) xs too unlike in
        let more = counted fs rest (λ x at. among x (inr at)) (λ x at. too x (in_filter (λ (y : A). not (alike y f)) xs x at).0) (unlike_filter (λ (x : A). not (alike x f)) xs unlike)
        (λ x at. let inside = in_filter (λ (y : A). not (alike y f)) xs x at in later x inside.1 (has x inside.0)) in
        omega (arith, sum, one, more)
      where
        later : (x : A) → not (alike x f) ≡ true → HasOne (f ∷ fs) x → HasOne fs x
        later x other (g, (inl same, is)) = let never : ⊥ = by_test (alike x f) other (ap (alike x) same ∙ is) in elim never [ ]
          where
            by_test : (b : Bool) → not b ≡ true → b ≡ true → ⊥
            by_test true no_one yes_one = true≢false (sym no_one)
            by_test false no_one yes_one = true≢false (sym yes_one)
        later x other (g, (inr at, is)) = (g, (at, is))

    -- ---- each has one among the first of each

    each_has : (before xs : List A) → Among before → Among xs → (x : A) → In x xs → HasOne (firsts_behind alike before xs) x ⊎ HasOne before x
    each_has before [] among too x at = elim at [ ]
    each_has before (y ∷ xs) among too x at = by_cases (each_has (before ++ y ∷ []) xs (λ z there. by_part z (in_parts z before (y ∷ []) there)) (λ z there. too z (inr there)) x) (list_any (alike y) before) refl at
      where
        rest : List A
        rest = firsts_behind alike (before ++ y ∷ []) xs

        by_part : (z : A) → In z before ⊎ In z (y ∷ []) → In z all
        by_part z (inl front) = among z front
        by_part z (inr (inl last)) = subst (λ u. In u all) last (too y (inl refl))
        by_part z (inr (inr more)) = elim more [ ]

        like_head : In x all → (b : Bool) → list_any (alike y) before ≡ b → alike x y ≡ true
            → HasOne (if b then firsts_behind alike (before ++ y ∷ []) xs else y ∷ firsts_behind alike (before ++ y ∷ []) xs) x ⊎ HasOne before x
        like_head inside true any is = let z = any_from (alike y) before any in inr (z.0, (z.1, chain x y z.0 inside (too y (inl refl)) (among z.0 z.1) is z.2))
        like_head inside false any is = inl (y, (inl refl, is))

        grown : (b : Bool) → HasOne (firsts_behind alike (before ++ y ∷ []) xs) x → HasOne (if b then firsts_behind alike (before ++ y ∷ []) xs else y ∷ firsts_behind alike (before ++ y ∷ []) xs) x
        grown true one = one
        grown false one = (one.0, (inr one.1.0, one.1.1))

        behind : In x all → (b : Bool) → list_any (alike y) before ≡ b → (z : A) → alike x z ≡ true → In z before ⊎ In z (y ∷ [])
            → HasOne (if b then firsts_behind alike (before ++ y ∷ []) xs else y ∷ firsts_behind alike (before ++ y ∷ []) xs) x ⊎ HasOne before x
        behind inside b any z is (inl front) = inr (z, (front, is))
        behind inside b any z is (inr (inl last)) = like_head inside b any (subst (λ u. alike x u ≡ true) (sym last) is)
        behind inside b any z is (inr (inr more)) = elim more [ ]

        by_cases : (In x xs → HasOne (firsts_behind alike (before ++ y ∷ []) xs) x ⊎ HasOne (before ++ y ∷ []) x) → (b : Bool) → list_any (alike y) before ≡ b → In x (y ∷ xs)
            → HasOne (if b then firsts_behind alike (before ++ y ∷ []) xs else y ∷ firsts_behind alike (before ++ y ∷ []) xs) x ⊎ HasOne before x
        by_cases next b any (inl same) = like_head (too x (inl same)) b any (subst (λ u. alike u y ≡ true) same (itself y))
        by_cases next b any (inr there) = further (next there)
          where
            further : HasOne (firsts_behind alike (before ++ y ∷ []) xs) x ⊎ HasOne (before ++ y ∷ []) x
                → HasOne (if b then firsts_behind alike (before ++ y ∷ []) xs else y ∷ firsts_behind alike (before ++ y ∷ []) xs) x ⊎ HasOne before x
            further (inl one) = inl (grown b one)
            further (inr one) = behind (too x (inr there)) b any one.0 one.1.1 (in_parts one.0 before (y ∷ []) one.1.0)

    pub has_first : (x : A) → In x all → HasOne (firsts alike all) x
    has_first x at = by_case (each_has [] all (λ y there. elim there [ ]) (λ y there. there) x at)
      where
        by_case : HasOne (firsts alike all) x ⊎ HasOne [] x → HasOne (firsts alike all) x
        by_case (inl one) = one
        by_case (inr one) = elim (one.1.0) [ ]
