-- Where the declarations of global variables stand, and which one stands for its variable.
use Rattle.std.proofs.Common.{◌≡◌, refl, sym, ap, ◌∙◌, subst, ℕ, zero, suc, ◌+◌, ◌⊎◌, inl, inr, Bool, true, false, cond, not, ◌&&◌, ◌||◌, List, [], ◌∷◌, ◌++◌, map, slice_get, Option, Some, None, arith}
use Rattle.std.specs.Prelude.{filter, find, nat_eq, bytes_eq, is_some}
use Rattle.std.proofs.lemmas.Bool.{and_parts, and_from, true≢false, eqb-true, eq-eqb}
use Rattle.std.proofs.lemmas.Option.{none-some, same_Some}
use Rattle.gsl_tree.specs.declared.unit.GlobalVar.{GlobalVar}
use Rattle.gsl_link_units.specs.Declarations.{Side}
use Rattle.gsl_link_whole.specs.Numbers.{Sited, sited_from, all_from, all_globals, same_site, same_shared, same_variable, begins, or_else, stands_for, stands, standing, global_number}
use Rattle.gsl_link_law.proofs.Members.{In, in_front, in_behind, in_parts, filter_in, in_filter, any_in, found_first}
use Rattle.gsl_link_law.proofs.Agreed.{names_then, shared_swap}

-- ---- lists side by side

-- each item of one list has to do with the item of the other in its place
abbrev pub AllTwo : {A B : Type 0} → (A → B → Type 0) → List A → List B → Type 0
AllTwo R [] [] = Unit {0}
AllTwo R [] (y ∷ ys) = ⊥
AllTwo R (x ∷ xs) [] = ⊥
AllTwo R (x ∷ xs) (y ∷ ys) = R x y × AllTwo R xs ys

pub two_map : {A B : Type 0} (R : A → B → Type 0) (f : A → B) (xs : List A) → ((x : A) → In x xs → R x (f x)) → AllTwo R xs (map f xs)
two_map R f [] each = tt
two_map R f (x ∷ xs) each = (each x (inl refl), two_map R f xs (λ y at. each y (inr at)))

pub two_append : {A B : Type 0} (R : A → B → Type 0) (xs xs' : List A) (ys ys' : List B) → AllTwo R xs ys → AllTwo R xs' ys' → AllTwo R (xs ++ xs') (ys ++ ys')
two_append R [] xs' [] ys' all more = more
two_append R [] xs' (y ∷ ys) ys' all more = elim all [ ]
two_append R (x ∷ xs) xs' [] ys' all more = elim all [ ]
two_append R (x ∷ xs) xs' (y ∷ ys) ys' all more = (all.0, two_append R xs xs' ys ys' all.1 more)

pub two_right : {A B : Type 0} (R : A → B → Type 0) (xs : List A) (ys : List B) → AllTwo R xs ys → (k : ℕ) (x : A) → slice_get xs k ≡ Some x → (y : B) × (slice_get ys k ≡ Some y) × R x y
two_right R [] ys all k x is = elim (none-some x is) [ ]
two_right R (x ∷ xs) [] all k z is = elim all [ ]
two_right R (x ∷ xs) (y ∷ ys) all zero z is = (y, refl, subst (λ w. R w y) (same_Some x z is) all.0)
two_right R (x ∷ xs) (y ∷ ys) all (suc k) z is = two_right R xs ys all.1 k z is

pub two_left : {A B : Type 0} (R : A → B → Type 0) (xs : List A) (ys : List B) → AllTwo R xs ys → (k : ℕ) (y : B) → slice_get ys k ≡ Some y → (x : A) × (slice_get xs k ≡ Some x) × R x y
two_left R [] [] all k y is = elim (none-some y is) [ ]
two_left R [] (y ∷ ys) all k z is = elim all [ ]
two_left R (x ∷ xs) [] all k z is = elim all [ ]
two_left R (x ∷ xs) (y ∷ ys) all zero z is = (x, refl, subst (R x) (same_Some y z is) all.0)
two_left R (x ∷ xs) (y ∷ ys) all (suc k) z is = two_left R xs ys all.1 k z is

pub filter_append : {A : Type 0} (p : A → Bool) (xs ys : List A) → filter p (xs ++ ys) ≡ filter p xs ++ filter p ys
filter_append p [] ys = refl
filter_append p (x ∷ xs) ys = by_cases (p x) (filter_append p xs ys)
  where
    by_cases : (b : Bool) → filter p (xs ++ ys) ≡ filter p xs ++ filter p ys → cond b (x ∷ filter p (xs ++ ys)) (filter p (xs ++ ys)) ≡ cond b (x ∷ filter p xs) (filter p xs) ++ filter p ys
    by_cases true later = ap (λ l. x ∷ l) later
    by_cases false later = later

-- ---- searches

pub find_is : {A : Type 0} (p : A → Bool) (xs : List A) (x : A) → find p xs ≡ Some x → In x xs × (p x ≡ true)
find_is p [] x is = elim (none-some x is) [ ]
find_is p (y ∷ xs) x is = by_cases (find_is p xs x) (p y) refl is
  where
    by_cases : (find p xs ≡ Some x → In x xs × (p x ≡ true)) → (b : Bool) → p y ≡ b → cond b (Some y) (find p xs) ≡ Some x → In x (y ∷ xs) × (p x ≡ true)
    by_cases next true here e = (inl (same_Some y x e), ap p (sym (same_Some y x e)) ∙ here)
    by_cases next false here e = let later = next e in (inr later.0, later.1)

pub find_same : {A : Type 0} (p q : A → Bool) (xs : List A) → ((x : A) → In x xs → p x ≡ q x) → find p xs ≡ find q xs
find_same p q [] each = refl
find_same p q (x ∷ xs) each = ap (λ b. cond b (Some x) (find p xs)) (each x (inl refl)) ∙ ap (cond (q x) (Some x)) (find_same p q xs (λ y at. each y (inr at)))

pub finds : {A : Type 0} (p : A → Bool) (xs : List A) (x : A) → In x xs → p x ≡ true → (y : A) × (find p xs ≡ Some y)
finds p [] x at passes = elim at [ ]
finds p (y ∷ xs) x at passes = by_cases (λ more. finds p xs x more passes) (p y) refl at
  where
    by_cases : (In x xs → (z : _) × (find p xs ≡ Some z)) → (b : Bool) → p y ≡ b → In x (y ∷ xs) → (z : _) × (cond b (Some y) (find p xs) ≡ Some z)
    by_cases next true here is = (y, refl)
    by_cases next false here (inl is) = let never : ⊥ = true≢false (sym (ap p is ∙ passes) ∙ here) in elim never [ ]
    by_cases next false here (inr is) = next is

-- ---- where declarations stand

-- a declaration stands in its unit, under its number
abbrev pub IsSited : List Side → Sited → Type 0
IsSited sides a = (side : Side) × (slice_get sides a.unit ≡ Some side) × (slice_get side.unit.globals a.index ≡ Some a.global)

pub sited_at : (unit index : ℕ) (globals : List GlobalVar) (a : Sited) → In a (sited_from unit index globals) → (a.unit ≡ unit) × ((j : ℕ) × (a.index ≡ index + j) × (slice_get globals j ≡ Some a.global))
sited_at unit index [] a at = elim at [ ]
sited_at unit index (g ∷ globals) a (inl is) = (ap (λ (s : Sited). s.unit) (sym is), (0, ap (λ (s : Sited). s.index) (sym is) ∙ omega arith, ap (λ (s : Sited). Some s.global) is))
sited_at unit index (g ∷ globals) a (inr is) =
    let later = sited_at unit (index + 1) globals a is in
    (later.0, (suc later.1.0, later.1.1 ∙ omega arith, later.1.2))

pub all_at : (unit : ℕ) (sides : List Side) (a : Sited) → In a (all_from unit sides) → (j : ℕ) × (a.unit ≡ unit + j) × ((side : Side) × (slice_get sides j ≡ Some side) × (slice_get side.unit.globals a.index ≡ Some a.global))
all_at unit [] a at = elim at [ ]
all_at unit (side ∷ sides) a at = by_cases (all_at (unit + 1) sides a) (in_parts a (sited_from unit 0 side.unit.globals) (all_from (unit + 1) sides) at)
  where
    by_cases : (In a (all_from (unit + 1) sides) → (j : ℕ) × (a.unit ≡ (unit + 1) + j) × ((other : Side) × (slice_get sides j ≡ Some other) × (slice_get other.unit.globals a.index ≡ Some a.global)))
        → In a (sited_from unit 0 side.unit.globals) ⊎ In a (all_from (unit + 1) sides)
        → (j : ℕ) × (a.unit ≡ unit + j) × ((other : Side) × (slice_get (side ∷ sides) j ≡ Some other) × (slice_get other.unit.globals a.index ≡ Some a.global))
    by_cases next (inl here) =
        let is = sited_at unit 0 side.unit.globals a here in
        let same : is.1.0 ≡ a.index = sym (is.1.1 ∙ omega arith) in
        (0, is.0 ∙ omega arith, (side, refl, subst (λ k. slice_get side.unit.globals k ≡ Some a.global) same is.1.2))
    by_cases next (inr more) =
        let is = next more in
        (suc is.0, is.1 ∙ omega arith, is.2)

pub all_sited : (sides : List Side) (a : Sited) → In a (all_globals sides) → IsSited sides a
all_sited sides a at =
    let is = all_at 0 sides a at in
    let same : is.0 ≡ a.unit = sym (is.1 ∙ omega arith) in
    (is.2.0, subst (λ k. slice_get sides k ≡ Some is.2.0) same is.2.1, is.2.2)

abbrev site_of : ℕ → ℕ → GlobalVar → Sited
site_of unit index g = record { unit = unit; index = index; global = g }

pub sited_get : (unit index : ℕ) (globals : List GlobalVar) (k : ℕ) (g : GlobalVar) → slice_get globals k ≡ Some g → slice_get (sited_from unit index globals) k ≡ Some (record { unit = unit; index = index + k; global = g })
sited_get unit index [] k g is = elim (none-some g is) [ ]
sited_get unit index (h ∷ globals) zero g is = ap (λ i. Some (site_of unit i h)) (let same : index ≡ index + 0 = omega arith in same) ∙ ap (λ x. Some (site_of unit (index + 0) x)) (same_Some h g is)
sited_get unit index (h ∷ globals) (suc k) g is = sited_get unit (index + 1) globals k g is ∙ ap (λ i. Some (site_of unit i g)) (let same : (index + 1) + k ≡ index + suc k = omega arith in same)

get_in : {A : Type 0} (xs : List A) (k : ℕ) (x : A) → slice_get xs k ≡ Some x → In x xs
get_in [] k x is = elim (none-some x is) [ ]
get_in (y ∷ xs) zero x is = inl (same_Some y x is)
get_in (y ∷ xs) (suc k) x is = inr (get_in xs k x is)

in_all : (unit : ℕ) (sides : List Side) (j : ℕ) (side : Side) (k : ℕ) (g : GlobalVar) → slice_get sides j ≡ Some side → slice_get side.unit.globals k ≡ Some g
    → In (record { unit = unit + j; index = k; global = g }) (all_from unit sides)
in_all unit [] j side k g at is = elim (none-some side at) [ ]
in_all unit (s ∷ sides) zero side k g at is =
    let there = subst (λ (w : Side). slice_get w.unit.globals k ≡ Some g) (sym (same_Some s side at)) is in
    in_front (site_of (unit + 0) k g) (sited_from unit 0 s.unit.globals) (all_from (unit + 1) sides)
    (subst (λ x. In x (sited_from unit 0 s.unit.globals)) (ap (λ u. site_of u (0 + k) g) (let same : unit ≡ unit + 0 = omega arith in same) ∙ ap (λ i. site_of (unit + 0) i g) (let same : 0 + k ≡ k = omega arith in same))
    (get_in (sited_from unit 0 s.unit.globals) k (site_of unit (0 + k) g) (sited_get unit 0 s.unit.globals k g there)))
in_all unit (s ∷ sides) (suc j) side k g at is =
    in_behind (site_of (unit + suc j) k g) (sited_from unit 0 s.unit.globals) (all_from (unit + 1) sides)
    (subst (λ u. In (site_of u k g) (all_from (unit + 1) sides)) (let same : (unit + 1) + j ≡ unit + suc j = omega arith in same) (in_all (unit + 1) sides j side k g at is))

pub in_globals : (sides : List Side) (j : ℕ) (side : Side) (k : ℕ) (g : GlobalVar) → slice_get sides j ≡ Some side → slice_get side.unit.globals k ≡ Some g
    → In (record { unit = j; index = k; global = g }) (all_globals sides)
in_globals sides j side k g at is = subst (λ u. In (site_of u k g) (all_globals sides)) (let same : 0 + j ≡ j = omega arith in same) (in_all 0 sides j side k g at is)

-- ---- one variable

module _ (sides : List Side) where
  abbrev all : List Sited
  all = all_globals sides

  -- two declarations in one place are one
  pub one_site : (a b : Sited) → In a all → In b all → same_site a b ≡ true → a ≡ b
  one_site a b at_a at_b same =
      let p = and_parts (nat_eq a.unit b.unit) (nat_eq a.index b.index) same in
      let unit = eqb-true a.unit b.unit p.0 in
      let index = eqb-true a.index b.index p.1 in
      let first = all_sited sides a at_a in
      let second = all_sited sides b at_b in
      let side : first.0 ≡ second.0 = same_Some first.0 second.0 (sym first.1 ∙ ap (slice_get sides) unit ∙ second.1) in
      let global : a.global ≡ b.global = same_Some a.global b.global (sym first.2 ∙ ap (λ (s : Side). slice_get s.unit.globals a.index) side ∙ ap (slice_get second.0.unit.globals) index ∙ second.2) in
      ap (λ u. site_of u a.index a.global) unit ∙ ap (λ i. site_of b.unit i a.global) index ∙ ap (site_of b.unit b.index) global

  itself_site : (a : Sited) → same_site a a ≡ true
  itself_site a = and_from (nat_eq a.unit a.unit) (nat_eq a.index a.index) (eq-eqb a.unit a.unit refl) (eq-eqb a.index a.index refl)

  abbrev IsOne : Sited → Sited → Type 0
  IsOne a b = (a ≡ b) ⊎ (same_shared a.global b.global ≡ true)

  pub one_variable : (a b : Sited) → In a all → In b all → same_variable a b ≡ true → (a ≡ b) ⊎ (same_shared a.global b.global ≡ true)
  one_variable a b at_a at_b is = by_cases (same_site a b) refl is
    where
      by_cases : (c : Bool) → same_site a b ≡ c → (c || same_shared a.global b.global) ≡ true → (a ≡ b) ⊎ (same_shared a.global b.global ≡ true)
      by_cases true here e = inl (one_site a b at_a at_b here)
      by_cases false here e = inr e

  variable_one : (a b : Sited) → IsOne a b → same_variable a b ≡ true
  variable_one a b (inl is) = ap (λ c. c || same_shared a.global b.global) (ap (same_site a) (sym is) ∙ itself_site a)
  variable_one a b (inr is) = by_cases (same_site a b)
    where
      by_cases : (c : Bool) → (c || same_shared a.global b.global) ≡ true
      by_cases true = refl
      by_cases false = is

  one_swap : (a b : Sited) → IsOne a b → IsOne b a
  one_swap a b (inl is) = inl (sym is)
  one_swap a b (inr is) = inr (shared_swap a.global b.global is)

  shared_then : (a b c : GlobalVar) → same_shared a b ≡ true → same_shared b c ≡ true → same_shared a c ≡ true
  shared_then a b c first second =
      let p = and_parts (not a.constant && not b.constant) (bytes_eq a.name b.name) first in
      let q = and_parts (not b.constant && not c.constant) (bytes_eq b.name c.name) second in
      and_from (not a.constant && not c.constant) (bytes_eq a.name c.name)
      (and_from (not a.constant) (not c.constant) (and_parts (not a.constant) (not b.constant) p.0).0 (and_parts (not b.constant) (not c.constant) q.0).1) (names_then a.name b.name c.name p.1 q.1)

  one_then : (a b c : Sited) → IsOne a b → IsOne b c → IsOne a c
  one_then a b c (inl is) second = subst (λ x. IsOne x c) (sym is) second
  one_then a b c (inr is) (inl also) = inr (subst (λ (x : Sited). same_shared a.global x.global ≡ true) also is)
  one_then a b c (inr is) (inr also) = inr (shared_then a.global b.global c.global is also)

  iff_same : (b c : Bool) → (b ≡ true → c ≡ true) → (c ≡ true → b ≡ true) → b ≡ c
  iff_same true c to from = sym (to refl)
  iff_same false true to from = from refl
  iff_same false false to from = refl

  -- what is one with a declaration is one with another of its variable
  same_tests : (a b x : Sited) → In a all → In b all → In x all → IsOne a b → same_variable b x ≡ same_variable a x
  same_tests a b x at_a at_b at_x one =
      iff_same (same_variable b x) (same_variable a x)
      (λ is. variable_one a x (one_then a b x one (one_variable b x at_b at_x is)))
      (λ is. variable_one b x (one_then b a x (one_swap a b one) (one_variable a x at_a at_x is)))

  -- ---- the declaration that stands for a variable

  module _ (a : Sited) (at_a : In a all) where
    chosen : (first second : Option Sited) → find (same_variable a) all ≡ first → find (begins a) all ≡ second → In (or_else (or_else a first) second) all × IsOne a (or_else (or_else a first) second)
    chosen None None one two = (at_a, inl refl)
    chosen (Some b) None one two = let is = find_is (same_variable a) all b one in (is.0, one_variable a b at_a is.0 is.1)
    chosen None (Some c) one two = let is = find_is (begins a) all c two in (is.0, one_variable a c at_a is.0 (and_parts (same_variable a c) (is_some c.global.init) is.1).0)
    chosen (Some b) (Some c) one two = let is = find_is (begins a) all c two in (is.0, one_variable a c at_a is.0 (and_parts (same_variable a c) (is_some c.global.init) is.1).0)

    pub stands_in : In (stands_for all a) all × ((a ≡ stands_for all a) ⊎ (same_shared a.global (stands_for all a).global ≡ true))
    stands_in = chosen (find (same_variable a) all) (find (begins a) all) refl refl

    -- it stands for itself
    again_same : (c : Sited) → In c all → IsOne a c → stands_for all c ≡ stands_for all a
    again_same c at_c one =
        let first = find_same (same_variable c) (same_variable a) all (λ x at. same_tests a c x at_a at_c at one) in
        let second = find_same (begins c) (begins a) all (λ x at. ap (λ b. b && is_some x.global.init) (same_tests a c x at_a at_c at one)) in
        let there = finds (same_variable a) all a at_a (variable_one a a (inl refl)) in
        ap (λ o. or_else (or_else c o) (find (begins c) all)) first ∙ ap (or_else (or_else c (find (same_variable a) all))) second
        ∙ ap (λ o. or_else (or_else c o) (find (begins a) all)) there.1 ∙ ap (λ o. or_else (or_else a o) (find (begins a) all)) (sym there.1)

    stands_itself : stands all (stands_for all a) ≡ true
    stands_itself =
        let is = stands_in in
        ap (λ b. same_site b (stands_for all a)) (again_same (stands_for all a) is.0 is.1) ∙ itself_site (stands_for all a)

    -- the new number of a declaration is that of the one that stands for it
    pub stands_at : (c : Sited) × (slice_get (standing sides) (global_number sides a) ≡ Some c) × (In c all × ((a ≡ c) ⊎ (same_shared a.global c.global ≡ true)))
    stands_at =
        let is = stands_in in
        let chosen_one = stands_for all a in
        let among = filter_in (stands all) all chosen_one is.0 stands_itself in
        let found = found_first (same_site chosen_one) (standing sides) (any_in (same_site chosen_one) (standing sides) chosen_one among (itself_site chosen_one)) in
        let inside = (in_filter (stands all) all found.0 found.2).0 in
        let same = one_site chosen_one found.0 is.0 inside found.3 in
        (found.0, found.1, (inside, subst (λ (x : Sited). (a ≡ x) ⊎ (same_shared a.global x.global ≡ true)) same is.1))
