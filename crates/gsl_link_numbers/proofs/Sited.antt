-- Declarations of global variables at their places: no two have one place.
use Rattle.std.proofs.Common.{◌≡◌, refl, sym, ap, ◌∙◌, ℕ, ◌+◌, ◌<◌, ◌≤◌, Bool, true, false, cond, ◌&&◌, List, [], ◌∷◌, ◌++◌, arith}
use Rattle.std.specs.Prelude.{nat_eq, filter}
use Rattle.std.specs.List.{AllByRecursion, IsDistinct}
use Rattle.std.proofs.lemmas.Bool.{true≢false, false≢true, eqb-true, eq-eqb, ne_eqb}
use Rattle.std.proofs.lemmas.Map.Keys.{IsDistinct-head, IsDistinct-tail, IsDistinct-cons}
use Rattle.gsl_tree.specs.declared.unit.GlobalVar.{GlobalVar}
use Rattle.gsl_link_units.specs.Declarations.{Side}
use Rattle.gsl_link_whole.specs.Numbers.{Sited, sited_from, all_from, all_globals, same_site}
use Rattle.gsl_link_numbers.specs.declared.site.Site.{Site}
use Rattle.gsl_link_numbers.specs.Standing.{site_eq, site_at}

-- ---- items that all are so

module _ {A : Type 0} {P Q : A → Type 0} where
  pub all_as : (f : (x : A) → P x → Q x) (xs : List A) → AllByRecursion P xs → AllByRecursion Q xs
  all_as f [] all = tt
  all_as f (x ∷ xs) all = (f x all.0, all_as f xs all.1)

module _ {A : Type 0} (P : A → Type 0) where
  pub all_both : (xs ys : List A) → AllByRecursion P xs → AllByRecursion P ys → AllByRecursion P (xs ++ ys)
  all_both [] ys all more = more
  all_both (x ∷ xs) ys all more = (all.0, all_both xs ys all.1 more)

  pub all_kept : (test : A → Bool) (xs : List A) → AllByRecursion P xs → AllByRecursion P (filter test xs)
  all_kept test [] all = tt
  all_kept test (x ∷ xs) all = by_cases (test x) (all_kept test xs all.1)
    where
      by_cases : (b : Bool) → AllByRecursion P (filter test xs) → AllByRecursion P (cond b (x ∷ filter test xs) (filter test xs))
      by_cases true kept = (all.0, kept)
      by_cases false kept = kept

module _ {A : Type 0} (eq : A → A → Bool) where
  pub distinct_both : (xs ys : List A) → AllByRecursion (λ x. AllByRecursion (λ y. eq x y ≡ false) ys) xs → IsDistinct eq xs → IsDistinct eq ys → IsDistinct eq (xs ++ ys)
  distinct_both [] ys apart first second = second
  distinct_both (x ∷ xs) ys apart first second =
      IsDistinct-cons eq x (xs ++ ys) (all_both (λ y. eq x y ≡ false) xs ys (IsDistinct-head eq x xs first) apart.0) (distinct_both xs ys apart.1 (IsDistinct-tail eq x xs first) second)

  pub distinct_kept : (test : A → Bool) (xs : List A) → IsDistinct eq xs → IsDistinct eq (filter test xs)
  distinct_kept test [] distinct = distinct
  distinct_kept test (x ∷ xs) distinct = by_cases (test x) (distinct_kept test xs (IsDistinct-tail eq x xs distinct))
    where
      by_cases : (b : Bool) → IsDistinct eq (filter test xs) → IsDistinct eq (cond b (x ∷ filter test xs) (filter test xs))
      by_cases true kept = IsDistinct-cons eq x (filter test xs) (all_kept (λ y. eq x y ≡ false) test xs (IsDistinct-head eq x xs distinct)) kept
      by_cases false kept = kept

-- ---- places ascend

abbrev Behind : ℕ → ℕ → Sited → Type 0
Behind unit index s = (s.unit ≡ unit) × (index ≤ s.index)

behind : (unit index next : ℕ) (globals : List GlobalVar) → next ≤ index → AllByRecursion (Behind unit next) (sited_from unit index globals)
behind unit index next [] below = tt
behind unit index next (g ∷ globals) below = ((refl, below), behind unit (index + 1) next globals (omega (arith, below)))

abbrev From : ℕ → Sited → Type 0
From unit s = unit ≤ s.unit

later : (unit next : ℕ) (sides : List Side) → next ≤ unit → AllByRecursion (From next) (all_from unit sides)
later unit next [] below = tt
later unit next (side ∷ sides) below =
    all_both (From next) (sited_from unit 0 side.unit.globals) (all_from (unit + 1) sides)
    (all_as (λ s is. let e = is.0 in omega (arith, e, below)) (sited_from unit 0 side.unit.globals) (behind unit 0 0 side.unit.globals (omega arith)))
    (later (unit + 1) next sides (omega (arith, below)))

false_right : (b : Bool) → (b && false) ≡ false
false_right true = refl
false_right false = refl

other_index : (a s : Sited) → a.index < s.index → same_site a s ≡ false
other_index a s below = ap (λ b. nat_eq a.unit s.unit && b) (ne_eqb a.index s.index (λ e. omega (arith, e, below))) ∙ false_right (nat_eq a.unit s.unit)

other_unit : (a s : Sited) → a.unit < s.unit → same_site a s ≡ false
other_unit a s below = ap (λ b. b && nat_eq a.index s.index) (ne_eqb a.unit s.unit (λ e. omega (arith, e, below)))

distinct_from : (unit index : ℕ) (globals : List GlobalVar) → IsDistinct same_site (sited_from unit index globals)
unfolding IsDistinct
distinct_from unit index [] = tt
distinct_from unit index (g ∷ globals) = (
  all_as (λ s is. let e = is.1 in other_index (record { unit = unit; index = index; global = g }) s (omega (arith, e))) (sited_from unit (index + 1) globals) (behind unit (index + 1) (index + 1) globals (omega arith)),
  distinct_from unit (index + 1) globals,
)

distinct_all : (unit : ℕ) (sides : List Side) → IsDistinct same_site (all_from unit sides)
unfolding IsDistinct
distinct_all unit [] = tt
distinct_all unit (side ∷ sides) =
    distinct_both same_site (sited_from unit 0 side.unit.globals) (all_from (unit + 1) sides)
    (all_as (λ a is. all_as (λ s from. let e = is.0 in other_unit a s (omega (arith, e, from))) (all_from (unit + 1) sides) (later (unit + 1) (unit + 1) sides (omega arith)))
    (sited_from unit 0 side.unit.globals) (behind unit 0 0 side.unit.globals (omega arith)))
    (distinct_from unit 0 side.unit.globals) (distinct_all (unit + 1) sides)

-- no two declarations have one place
pub places_differ : (sides : List Side) → IsDistinct same_site (all_globals sides)
places_differ sides = distinct_all 0 sides

-- ---- so those of one place are one

abbrev pub Alone : Sited → Sited → Type 0
Alone a b = same_site a b ≡ true → a ≡ b

turned : (n m : ℕ) (b c : Bool) → nat_eq n m ≡ b → nat_eq m n ≡ c → b ≡ c
turned n m true true e f = refl
turned n m true false e f = absurd (true≢false (sym (eq-eqb m n (sym (eqb-true n m e))) ∙ f))
turned n m false true e f = absurd (false≢true (sym e ∙ eq-eqb n m (sym (eqb-true m n f))))
turned n m false false e f = refl

turn : (n m : ℕ) → nat_eq n m ≡ nat_eq m n
turn n m = turned n m (nat_eq n m) (nat_eq m n) refl refl

pub eq_other_way : (a b : Site) → site_eq a b ≡ site_eq b a
eq_other_way a b = ap (λ c. c && nat_eq a.index b.index) (turn a.unit b.unit) ∙ ap (λ c. nat_eq b.unit a.unit && c) (turn a.index b.index)

other_way : (a b : Sited) → same_site a b ≡ same_site b a
other_way a b = eq_other_way (site_at a.unit a.index) (site_at b.unit b.index)

alone_in : (all : List Sited) → IsDistinct same_site all → AllByRecursion (λ a. AllByRecursion (Alone a) all) all
alone_in [] distinct = tt
alone_in (x ∷ all) distinct =
    let apart = IsDistinct-head same_site x all distinct in (
      ((λ e. refl), all_as (λ y differ e. absurd (true≢false (sym e ∙ differ))) all apart),
      with_head all all apart (alone_in all (IsDistinct-tail same_site x all distinct)),
    )
  where
    with_head : (items rest : List Sited) → AllByRecursion (λ y. same_site x y ≡ false) items → AllByRecursion (λ a. AllByRecursion (Alone a) rest) items → AllByRecursion (λ a. AllByRecursion (Alone a) (x ∷ rest)) items
    with_head [] rest apart all = tt
    with_head (a ∷ items) rest apart all = (((λ e. absurd (true≢false (sym e ∙ other_way a x ∙ apart.0))), all.0), with_head items rest apart.1 all.1)

pub alone : (sides : List Side) → AllByRecursion (λ a. AllByRecursion (Alone a) (all_globals sides)) (all_globals sides)
alone sides = alone_in (all_globals sides) (places_differ sides)
