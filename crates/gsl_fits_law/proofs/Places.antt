-- The first location at which an input has too few words is the same by locations in order and by each location there may be.
use Rattle.std.proofs.Common.{◌≡◌, refl, sym, ap, ◌∙◌, subst, ℕ, zero, suc, ◌+◌, ◌≤◌, ◌<◌, Bool, true, false, not, ◌&&◌, ◌||◌, ◌==◌, nat_eq, nat_lt, List, [], ◌∷◌, Some, None, Ok, Err, if◌then◌else◌, filter_map, arith}
use Rattle.std.specs.List.{AllByRecursion, cons_option, list_any}
use Rattle.std.proofs.lemmas.Bool.{eq-eqb, eqb-true, false≢true, ltb-false, ltb-true, ne_eqb}
use Rattle.gsl_base.specs.declared.input.Input.{Input}
use Rattle.gsl_base.specs.declared.input.InputRefusal.TheVariants.{NoValue}
use Rattle.gsl_types.specs.Conversions.{components}
use Rattle.gsl_tree.specs.declared.unit.Interface.{Interface}
use Rattle.gsl_inputs.specs.Demands.{Met, all_met, and_met, has_words}
use Rattle.gsl_inputs.specs.Given.{words_at}
use Rattle.gsl_meaning.specs.Fits.{is_wanting, value_met, values_from, values_met}
use Rattle.gsl_meaning.specs.Stages.{locations}
use Rattle.gsl_machine.specs.Fits.{Place, place_met, put_place, sorted_places}
use Rattle.gsl_fits_law.specs.Asking.{place_in}

-- ---- the first location from one on where something is wanting

data IsFirst (wants : ℕ → Bool) (from : ℕ) : Met → Type 0 where
  nowhere : ((l : ℕ) → from ≤ l → wants l ≡ false) → IsFirst wants from (Ok tt)
  at : (l : ℕ) → from ≤ l → wants l ≡ true → ((k : ℕ) → from ≤ k → k < l → wants k ≡ false) → IsFirst wants from (Err (NoValue l))

module _ (wants : ℕ → Bool) (from : ℕ) where
  one_at : (l k : ℕ) (b c : Bool) → nat_lt l k ≡ b → nat_lt k l ≡ c → from ≤ l → from ≤ k → wants l ≡ true → wants k ≡ true → ((j : ℕ) → from ≤ j → j < l → wants j ≡ false) → ((j : ℕ) → from ≤ j → j < k → wants j ≡ false) → l ≡ k
  one_at l k true c less more here there is also none other = absurd (false≢true (sym (other l here (ltb-true l k less)) ∙ is))
  one_at l k false true less more here there is also none other = absurd (false≢true (sym (none k there (ltb-true k l more)) ∙ also))
  one_at l k false false less more here there is also none other = let low = ltb-false l k less in let high = ltb-false k l more in omega (arith, low, high)

  one_first : (r s : Met) → IsFirst wants from r → IsFirst wants from s → r ≡ s
  one_first _ _ (IsFirst.nowhere none) (IsFirst.nowhere other) = refl
  one_first _ _ (IsFirst.nowhere none) (IsFirst.at k there is other) = absurd (false≢true (sym (none k there) ∙ is))
  one_first _ _ (IsFirst.at l here is none) (IsFirst.nowhere other) = absurd (false≢true (sym (other l here) ∙ is))
  one_first _ _ (IsFirst.at l here is none) (IsFirst.at k there also other) = ap (λ n. Err (NoValue n)) (one_at l k (nat_lt l k) (nat_lt k l) refl refl here there is also none other)

first_same : (wants other : ℕ → Bool) (from : ℕ) (r : Met) → ((l : ℕ) → wants l ≡ other l) → IsFirst wants from r → IsFirst other from r
first_same wants other from _ same (IsFirst.nowhere none) = IsFirst.nowhere (λ l here. sym (same l) ∙ none l here)
first_same wants other from _ same (IsFirst.at l here is none) = IsFirst.at l here (sym (same l) ∙ is) (λ k there less. sym (same k) ∙ none k there less)

-- a location that is not the first one stands behind it
past : (l from : ℕ) (b : Bool) → nat_eq l from ≡ false → from ≤ l → nat_lt from l ≡ b → from + 1 ≤ l
past l from true other low e = let less = ltb-true from l e in omega (arith, less)
past l from false other low e = let most = ltb-false from l e in let same : l ≡ from = omega (arith, most, low) in absurd (false≢true (sym other ∙ eq-eqb l from same))

none_at : (wants : ℕ → Bool) (from l : ℕ) (b : Bool) → nat_eq l from ≡ b → wants from ≡ false → from ≤ l → (from + 1 ≤ l → wants l ≡ false) → wants l ≡ false
none_at wants from l true e here low later = ap wants (eqb-true l from e) ∙ here
none_at wants from l false e here low later = later (past l from (nat_lt from l) e low refl)

-- it is so from one location before on, where nothing is wanting
first_before : (wants : ℕ → Bool) (from : ℕ) (r : Met) → wants from ≡ false → IsFirst wants (from + 1) r → IsFirst wants from r
first_before wants from _ here (IsFirst.nowhere none) = IsFirst.nowhere (λ l low. none_at wants from l (nat_eq l from) refl here low (none l))
first_before wants from _ here (IsFirst.at l low is none) = IsFirst.at l (omega (arith, low)) is (λ k there less. none_at wants from k (nat_eq k from) refl here there (λ more. none k more less))

module _ (input : Input) where
  -- ---- by each location

  abbrev wanted : List Interface → ℕ → Bool
  wanted interfaces l = list_any (is_wanting input l) interfaces

  value_is : (l : ℕ) (interfaces : List Interface) → value_met input l interfaces ≡ (if wanted interfaces l then Err (NoValue l) else Ok tt)
  value_is l [] = refl
  value_is l (i ∷ interfaces) = by (is_wanting input l i) (value_is l interfaces)
    where
      by : (b : Bool) → value_met input l interfaces ≡ (if wanted interfaces l then Err (NoValue l) else Ok tt)
          → (if b then Err (NoValue l) else value_met input l interfaces) ≡ (if b || wanted interfaces l then Err (NoValue l) else Ok tt)
      by true later = refl
      by false later = later

  values_first : (interfaces : List Interface) (n from : ℕ) → ((l : ℕ) → from + n ≤ l → wanted interfaces l ≡ false) → IsFirst (wanted interfaces) from (values_from interfaces input from n)
  values_first interfaces zero from beyond = IsFirst.nowhere (λ l here. beyond l (omega (arith, here)))
  values_first interfaces (suc n) from beyond =
      subst (λ r. IsFirst (wanted interfaces) from (and_met r (values_from interfaces input (from + 1) n))) (sym (value_is from interfaces))
      (by (wanted interfaces from) refl (values_first interfaces n (from + 1) (λ l far. beyond l (omega (arith, far)))))
    where
      by : (b : Bool) → wanted interfaces from ≡ b → IsFirst (wanted interfaces) (from + 1) (values_from interfaces input (from + 1) n)
          → IsFirst (wanted interfaces) from (and_met (if b then Err (NoValue from) else Ok tt) (values_from interfaces input (from + 1) n))
      by true e later = IsFirst.at from (omega arith) e (λ k here less. absurd (omega (arith, here, less)))
      by false e later = first_before (wanted interfaces) from (values_from interfaces input (from + 1) n) e later

  -- at no location behind all
  far_away : (l most : ℕ) (interfaces : List Interface) → most ≤ l → AllByRecursion (λ (i : Interface). i.location < most) interfaces → wanted interfaces l ≡ false
  far_away l most [] far all = refl
  far_away l most (i ∷ interfaces) far all = by (i.location == l) (not i.output) (not (has_words (components i.ty) (words_at input.ins l))) (ne_eqb i.location l (λ same. let low = all.0 in absurd (omega (arith, far, low, same)))) (far_away l most interfaces far all.1)
    where
      by : (b x y : Bool) → b ≡ false → wanted interfaces l ≡ false → ((x && b && y) || wanted interfaces l) ≡ false
      by true x y e later = absurd (false≢true (sym e))
      by false true y e later = later
      by false false y e later = later

  -- ---- by locations in order

  abbrev lacks : ℕ → Place → Bool
  lacks l p = p.location == l && not (has_words p.count (words_at input.ins l))

  abbrev Ascends : List Place → Type 0
  Ascends [] = Unit {0}
  Ascends (p ∷ ps) = AllByRecursion (λ (q : Place). p.location ≤ q.location) ps × Ascends ps

  none_below : (l : ℕ) (ps : List Place) (p : Place) → l < p.location → AllByRecursion (λ (q : Place). p.location ≤ q.location) ps → list_any (lacks l) ps ≡ false
  none_below l [] p low all = refl
  none_below l (q ∷ ps) p low all = by (q.location == l) (ne_eqb q.location l (λ same. let high = all.0 in absurd (omega (arith, low, high, same)))) (none_below l ps p low all.1)
    where
      by : (b : Bool) → b ≡ false → list_any (lacks l) ps ≡ false → ((b && not (has_words q.count (words_at input.ins l))) || list_any (lacks l) ps) ≡ false
      by true e later = absurd (false≢true (sym e))
      by false e later = later

  places_first : (ps : List Place) → Ascends ps → IsFirst (λ l. list_any (lacks l) ps) 0 (all_met (place_met input) ps)
  places_first [] up = IsFirst.nowhere (λ l here. refl)
  places_first (p ∷ ps) up = by (has_words p.count (words_at input.ins p.location)) refl (places_first ps up.1)
    where
      without : (l : ℕ) → has_words p.count (words_at input.ins p.location) ≡ true → list_any (lacks l) ps ≡ list_any (lacks l) (p ∷ ps)
      without l e = by_place (p.location == l) refl
        where
          by_place : (b : Bool) → (p.location == l) ≡ b → list_any (lacks l) ps ≡ ((b && not (has_words p.count (words_at input.ins l))) || list_any (lacks l) ps)
          by_place true same = ap (λ x. not x || list_any (lacks l) ps) (sym e ∙ ap (λ n. has_words p.count (words_at input.ins n)) (eqb-true p.location l same))
          by_place false same = refl

      here : has_words p.count (words_at input.ins p.location) ≡ false → list_any (lacks p.location) (p ∷ ps) ≡ true
      here e = ap (λ x. (x && not (has_words p.count (words_at input.ins p.location))) || list_any (lacks p.location) ps) (eq-eqb p.location p.location refl) ∙ ap (λ x. not x || list_any (lacks p.location) ps) e

      by : (b : Bool) → has_words p.count (words_at input.ins p.location) ≡ b → IsFirst (λ l. list_any (lacks l) ps) 0 (all_met (place_met input) ps)
          → IsFirst (λ l. list_any (lacks l) (p ∷ ps)) 0 (and_met (if b then Ok tt else Err (NoValue p.location)) (all_met (place_met input) ps))
      by true e later = first_same (λ l. list_any (lacks l) ps) (λ l. list_any (lacks l) (p ∷ ps)) 0 (all_met (place_met input) ps) (λ l. without l e) later
      by false e later = IsFirst.at p.location (omega arith) (here e) (λ k low less. none_below k (p ∷ ps) p less (omega arith, up.0))

  -- what is put in order stands in order
  put_all : (least : ℕ) (p : Place) (ps : List Place) → least ≤ p.location → AllByRecursion (λ (q : Place). least ≤ q.location) ps → AllByRecursion (λ (q : Place). least ≤ q.location) (put_place p ps)
  put_all least p [] low all = (low, tt)
  put_all least p (next ∷ ps) low all = by (nat_lt p.location next.location) (put_all least p ps low all.1)
    where
      by : (b : Bool) → AllByRecursion (λ (q : Place). least ≤ q.location) (put_place p ps) → AllByRecursion (λ (q : Place). least ≤ q.location) (if b then p ∷ next ∷ ps else next ∷ put_place p ps)
      by true later = (low, all)
      by false later = (all.0, later)

  lower : (most least : ℕ) (ps : List Place) → least ≤ most → AllByRecursion (λ (q : Place). most ≤ q.location) ps → AllByRecursion (λ (q : Place). least ≤ q.location) ps
  lower most least [] low all = tt
  lower most least (p ∷ ps) low all = (let first = all.0 in omega (arith, low, first), lower most least ps low all.1)

  put_ascends : (p : Place) (ps : List Place) → Ascends ps → Ascends (put_place p ps)
  put_ascends p [] up = (tt, tt)
  put_ascends p (next ∷ ps) up = by (nat_lt p.location next.location) refl (put_ascends p ps up.1)
    where
      by : (b : Bool) → nat_lt p.location next.location ≡ b → Ascends (put_place p ps) → Ascends (if b then p ∷ next ∷ ps else next ∷ put_place p ps)
      by true e later = let less = ltb-true p.location next.location e in let low : p.location ≤ next.location = omega (arith, less) in ((low, lower next.location p.location ps low up.0), up)
      by false e later = (put_all next.location p ps (ltb-false p.location next.location e) up.0, later)

  sorted_ascends : (ps : List Place) → Ascends (sorted_places ps)
  sorted_ascends [] = tt
  sorted_ascends (p ∷ ps) = put_ascends p (sorted_places ps) (sorted_ascends ps)

  or_turned : (a b c : Bool) → (a || (b || c)) ≡ (b || (a || c))
  or_turned true true c = refl
  or_turned true false c = refl
  or_turned false b c = refl

  any_put : (test : Place → Bool) (p : Place) (ps : List Place) → list_any test (put_place p ps) ≡ (test p || list_any test ps)
  any_put test p [] = refl
  any_put test p (next ∷ ps) = by (nat_lt p.location next.location) (any_put test p ps)
    where
      by : (b : Bool) → list_any test (put_place p ps) ≡ (test p || list_any test ps) → list_any test (if b then p ∷ next ∷ ps else next ∷ put_place p ps) ≡ (test p || (test next || list_any test ps))
      by true later = refl
      by false later = ap (λ x. test next || x) later ∙ or_turned (test next) (test p) (list_any test ps)

  any_sorted : (test : Place → Bool) (ps : List Place) → list_any test (sorted_places ps) ≡ list_any test ps
  any_sorted test [] = refl
  any_sorted test (p ∷ ps) = any_put test p (sorted_places ps) ∙ ap (λ x. test p || x) (any_sorted test ps)

  any_input : (l : ℕ) (interfaces : List Interface) → list_any (lacks l) (filter_map place_in interfaces) ≡ wanted interfaces l
  any_input l [] = refl
  any_input l (i ∷ interfaces) = by i.output (any_input l interfaces)
    where
      by : (b : Bool) → list_any (lacks l) (filter_map place_in interfaces) ≡ wanted interfaces l
          → list_any (lacks l) (cons_option (if b then None else Some (record { location = i.location; count = components i.ty })) (filter_map place_in interfaces))
          ≡ ((not b && i.location == l && not (has_words (components i.ty) (words_at input.ins l))) || wanted interfaces l)
      by true later = later
      by false later = ap (λ x. (i.location == l && not (has_words (components i.ty) (words_at input.ins l))) || x) later

  -- ---- alike

  pub places_alike : (interfaces : List Interface) → AllByRecursion (λ (i : Interface). i.location < locations) interfaces → all_met (place_met input) (sorted_places (filter_map place_in interfaces)) ≡ values_met interfaces input
  unfolding values_met
  places_alike interfaces all =
      one_first (wanted interfaces) 0 (all_met (place_met input) (sorted_places (filter_map place_in interfaces))) (values_from interfaces input 0 locations)
      (first_same (λ l. list_any (lacks l) (sorted_places (filter_map place_in interfaces))) (wanted interfaces) 0 (all_met (place_met input) (sorted_places (filter_map place_in interfaces)))
      (λ l. any_sorted (lacks l) (filter_map place_in interfaces) ∙ any_input l interfaces) (places_first (sorted_places (filter_map place_in interfaces)) (sorted_ascends (filter_map place_in interfaces))))
      (values_first interfaces locations 0 (λ l far. far_away l locations interfaces (omega (arith, far)) all))
