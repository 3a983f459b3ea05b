-- Global variables count once, at their first declarations.
use Rattle.std.proofs.Common.{◌≡◌, refl, sym, ap, subst, ◌∙◌, ℕ, ◌+◌, ◌≤◌, min, arith, Bool, true, false, not, ◌&&◌, ◌||◌, List, [], ◌∷◌, ◌++◌, append_assoc, append-nil}
use Rattle.std.specs.Prelude.{nat_lt, bytes_eq, map, Some, if◌then◌else◌}
use Rattle.std.proofs.lemmas.Bool.{ltb-true, ltb-false, lt-ltb}
use Rattle.gsl_types.specs.declared.ty.StructType.{StructType}
use Rattle.gsl_types.specs.Leaves.{told_leaves}
use Rattle.std.specs.List.{list_any, AllByRecursion, IsDistinct}
use Rattle.std.specs.Cmp.Lexicographic.{bytes_decides}
use Rattle.std.proofs.lemmas.List.Folds.{list_any-append}
use Rattle.std.proofs.lemmas.Map.Keys.{IsDistinct-head, IsDistinct-tail}
use Rattle.indexmap.specs.IndexSet.{insert_key}
use Rattle.gsl_tree.specs.declared.unit.GlobalVar.{GlobalVar}
use Rattle.gsl_link_units.specs.Declarations.{Side}
use Rattle.gsl_link_units.specs.Firsts.{firsts, firsts_behind}
use Rattle.gsl_link_whole.specs.Numbers.{Sited, sited_from, all_from, all_globals, same_site, same_shared, same_variable}
use Rattle.gsl_link_numbers.proofs.Sited.{places_differ, eq_other_way}
use Rattle.gsl_link_numbers.specs.Standing.{site_at}
use Rattle.gsl_link.specs.declared.slots.Counted.{Counted}
use Rattle.gsl_weights.specs.Telling.{up_to}
use Rattle.gsl_link.specs.Rows.{most_leaves, passes_behind}
use Rattle.gsl_link.specs.Sides.{with_name, names_behind, counts, counted_of, with_counted, counted_behind, counted_all, first_beyond}
use Rattle.gsl_link.proofs.Undefined.{any_put, or_false}

same_words : (k l : List ℕ) → bytes_eq k l ≡ true → k ≡ l
same_words k l = (bytes_decides k l).0

-- the names of the shared variables among those before
abbrev Seen : List (List ℕ) → List Sited → Type 0
Seen names before = (name : List ℕ) → list_any (bytes_eq name) names ≡ list_any (λ (b : Sited). not b.global.constant && bytes_eq name b.global.name) before

seen_more : (names : List (List ℕ)) (before : List Sited) (x : Sited) → Seen names before → Seen (with_name names x.global) (before ++ x ∷ [])
seen_more names before x seen name = by_cases x.global.constant refl ∙ sym (list_any-append shared before (x ∷ []))
  where
    shared : Sited → Bool
    shared b = not b.global.constant && bytes_eq name b.global.name

    by_cases : (c : Bool) → x.global.constant ≡ c
        → list_any (bytes_eq name) (if c then names else insert_key bytes_eq names x.global.name) ≡ (list_any shared before || (shared x || false))
    by_cases true is =
        seen name ∙ sym (or_false (list_any shared before))
        ∙ ap (λ b. list_any shared before || b) (sym (or_false (shared x) ∙ ap (λ c. not c && bytes_eq name x.global.name) is))
    by_cases false is =
        any_put bytes_eq same_words names x.global.name name ∙ ap (λ b. b || bytes_eq name x.global.name) (seen name)
        ∙ ap (λ b. list_any shared before || b) (sym (or_false (shared x) ∙ ap (λ c. not c && bytes_eq name x.global.name) is))

-- one that has its own place is like those before where it is shared and its name is among theirs
alike_before : (x : Sited) (before : List Sited) → AllByRecursion (λ b. same_site x b ≡ false) before
    → list_any (same_variable x) before ≡ (not x.global.constant && list_any (λ (b : Sited). not b.global.constant && bytes_eq x.global.name b.global.name) before)
alike_before x [] apart = by_cases x.global.constant
  where
    by_cases : (c : Bool) → false ≡ (not c && false)
    by_cases true = refl
    by_cases false = refl
alike_before x (b ∷ before) apart =
    ap (λ s. (s || same_shared x.global b.global) || list_any (same_variable x) before) apart.0
    ∙ ap (λ l. same_shared x.global b.global || l) (alike_before x before apart.1)
    ∙ by_cases x.global.constant (not b.global.constant) (bytes_eq x.global.name b.global.name) (list_any (λ (a : Sited). not a.global.constant && bytes_eq x.global.name a.global.name) before)
  where
    by_cases : (c d e l : Bool) → (((not c && d) && e) || (not c && l)) ≡ (not c && ((d && e) || l))
    by_cases true d e l = refl
    by_cases false d e l = refl

-- a place differs from those before it
apart_before : (before : List Sited) (x : Sited) (xs : List Sited) → IsDistinct same_site (before ++ x ∷ xs) → AllByRecursion (λ b. same_site x b ≡ false) before
apart_before [] x xs distinct = tt
apart_before (b ∷ before) x xs distinct = (
  eq_other_way (site_at x.unit x.index) (site_at b.unit b.index) ∙ apart_later before (IsDistinct-head same_site b (before ++ x ∷ xs) distinct),
  apart_before before x xs (IsDistinct-tail same_site b (before ++ x ∷ xs) distinct),
)
  where
    apart_later : (ks : List Sited) → AllByRecursion (λ y. same_site b y ≡ false) (ks ++ x ∷ xs) → same_site b x ≡ false
    apart_later [] all = all.0
    apart_later (k ∷ ks) all = apart_later ks all.1

-- ---- one list of variables

abbrev names_each : List (List ℕ) → List Sited → List (List ℕ)
names_each names [] = names
names_each names (x ∷ xs) = names_each (with_name names x.global) xs

module _ (structs : List StructType) where
  abbrev counted : List Sited → List Counted
  counted xs = map (λ (s : Sited). counted_of structs s.global) xs

  abbrev counted_each : List (List ℕ) → List Counted → List Sited → List Counted
  counted_each names all [] = all
  counted_each names all (x ∷ xs) = counted_each (with_name names x.global) (with_counted structs names all x.global) xs

  each_both : (names : List (List ℕ)) (all : List Counted) (xs ys : List Sited) → counted_each names all (xs ++ ys) ≡ counted_each (names_each names xs) (counted_each names all xs) ys
  each_both names all [] ys = refl
  each_both names all (x ∷ xs) ys = each_both (with_name names x.global) (with_counted structs names all x.global) xs ys

  names_from : (names : List (List ℕ)) (unit index : ℕ) (globals : List GlobalVar) → names_behind names globals ≡ names_each names (sited_from unit index globals)
  names_from names unit index [] = refl
  names_from names unit index (g ∷ globals) = names_from (with_name names g) unit (index + 1) globals

  counted_from : (names : List (List ℕ)) (all : List Counted) (unit index : ℕ) (globals : List GlobalVar)
      → counted_behind structs names all globals ≡ counted_each names all (sited_from unit index globals)
  counted_from names all unit index [] = refl
  counted_from names all unit index (g ∷ globals) = counted_from (with_name names g) (with_counted structs names all g) unit (index + 1) globals

  all_from_is : (names : List (List ℕ)) (all : List Counted) (unit : ℕ) (sides : List Side) → counted_all structs names all sides ≡ counted_each names all (all_from unit sides)
  all_from_is names all unit [] = refl
  all_from_is names all unit (side ∷ sides) =
      all_from_is (names_behind names side.unit.globals) (counted_behind structs names all side.unit.globals) (unit + 1) sides
      ∙ ap (λ l. counted_each l (counted_behind structs names all side.unit.globals) (all_from (unit + 1) sides)) (names_from names unit 0 side.unit.globals)
      ∙ ap (λ l. counted_each (names_each names (sited_from unit 0 side.unit.globals)) l (all_from (unit + 1) sides)) (counted_from names all unit 0 side.unit.globals)
      ∙ sym (each_both names all (sited_from unit 0 side.unit.globals) (all_from (unit + 1) sides))

  -- ---- the first of each

  counts_is : (names : List (List ℕ)) (before : List Sited) (x : Sited) → Seen names before → AllByRecursion (λ b. same_site x b ≡ false) before
      → counts names x.global ≡ not (list_any (same_variable x) before)
  counts_is names before x seen apart =
      by_cases x.global.constant (list_any (bytes_eq x.global.name) names)
      ∙ ap (λ b. not (not x.global.constant && b)) (seen x.global.name) ∙ ap not (sym (alike_before x before apart))
    where
      by_cases : (c d : Bool) → (c || not d) ≡ not (not c && d)
      by_cases true d = refl
      by_cases false d = refl

  firsts_from : (names : List (List ℕ)) (all : List Counted) (before xs : List Sited) → Seen names before → IsDistinct same_site (before ++ xs)
      → counted_each names all xs ≡ all ++ counted (firsts_behind same_variable before xs)
  firsts_from names all before [] seen distinct = sym (append-nil all)
  firsts_from names all before (x ∷ xs) seen distinct =
      ap (λ b. counted_each (with_name names x.global) (if b then all ++ counted_of structs x.global ∷ [] else all) xs) (counts_is names before x seen (apart_before before x xs distinct))
      ∙ by_cases (list_any (same_variable x) before)
      (λ l. firsts_from (with_name names x.global) l (before ++ x ∷ []) xs (seen_more names before x seen) (subst (IsDistinct same_site) (sym (append_assoc before (x ∷ []) xs)) distinct))
    where
      later : List Sited
      later = firsts_behind same_variable (before ++ x ∷ []) xs

      by_cases : (b : Bool) → ((l : List Counted) → counted_each (with_name names x.global) l xs ≡ l ++ counted later)
          → counted_each (with_name names x.global) (if not b then all ++ counted_of structs x.global ∷ [] else all) xs ≡ all ++ counted (if b then later else x ∷ later)
      by_cases true is = is all
      by_cases false is = is (all ++ counted_of structs x.global ∷ []) ∙ append_assoc all (counted_of structs x.global ∷ []) (counted later)

  counted_are : (sides : List Side) → counted_all structs [] [] sides ≡ counted (firsts same_variable (all_globals sides))
  counted_are sides = all_from_is [] [] 0 sides ∙ firsts_from [] [] [] (all_globals sides) (λ name. refl) (places_differ sides)

  -- ---- sums

  told_sum : (n t : ℕ) → n ≤ 65536 → (b : Bool) → nat_lt most_leaves (n + min t 1048576) ≡ b → nat_lt most_leaves (n + t) ≡ b
  told_sum n t low true e = lt-ltb most_leaves (n + t) (let h = ltb-true most_leaves (n + min t 1048576) e in omega (arith, h))
  told_sum n t low false e = no (nat_lt most_leaves (n + t)) refl
    where
      no : (c : Bool) → nat_lt most_leaves (n + t) ≡ c → c ≡ false
      no false f = refl
      no true f = absurd (let h = ltb-true most_leaves (n + t) f in let g = ltb-false most_leaves (n + min t 1048576) e in omega (arith, h, g, low))

  told_least : (n t : ℕ) → nat_lt most_leaves (n + min t 1048576) ≡ false → n + min t 1048576 ≡ n + t
  told_least n t e = let g = ltb-false most_leaves (n + min t 1048576) e in omega (arith, g)

  beyond_is : (n : ℕ) (xs : List Sited) → n ≤ 65536 → first_beyond n (counted xs) ≡ passes_behind structs n xs
  beyond_is n [] low = refl
  beyond_is n (x ∷ xs) low =
      by_cases (nat_lt most_leaves (n + up_to t)) refl (λ m below. beyond_is m xs below)
    where
      t : ℕ
      t = told_leaves structs x.global.ty

      by_cases : (b : Bool) → nat_lt most_leaves (n + up_to t) ≡ b → ((m : ℕ) → m ≤ 65536 → first_beyond m (counted xs) ≡ passes_behind structs m xs)
          → (if b then Some x.global.place else first_beyond (n + up_to t) (counted xs))
          ≡ (if nat_lt most_leaves (n + t) then Some x.global.place else passes_behind structs (n + t) xs)
      by_cases true e later = ap (λ c. if c then Some x.global.place else passes_behind structs (n + t) xs) (sym (told_sum n t low true e))
      by_cases false e later =
          later (n + up_to t) (let g = ltb-false most_leaves (n + min t 1048576) e in omega (arith, g))
          ∙ ap (λ m. passes_behind structs m xs) (told_least n t e)
          ∙ ap (λ c. if c then Some x.global.place else passes_behind structs (n + t) xs) (sym (told_sum n t low false e))

  pub large_are : (sides : List Side) → first_beyond 0 (counted_all structs [] [] sides) ≡ passes_behind structs 0 (firsts same_variable (all_globals sides))
  large_are sides = ap (first_beyond 0) (counted_are sides) ∙ beyond_is 0 (firsts same_variable (all_globals sides)) (omega arith)
