-- What stands for variables, and the numbers of these, are those of the definition.
use Rattle.std.proofs.Common.{◌≡◌, refl, sym, ap, ◌∙◌, subst, ℕ, ◌+◌, Bool, true, false, cond, not, ◌||◌, List, [], ◌∷◌, ◌++◌, append_assoc, append-nil}
use Rattle.std.specs.Prelude.{map, filter, if◌then◌else◌}
use Rattle.std.specs.List.{list_any, position_or_len, AllByRecursion, IsDistinct}
use Rattle.std.proofs.lemmas.List.{map-append}
use Rattle.std.proofs.lemmas.Map.Keys.{IsDistinct-head, IsDistinct-tail, IsDistinct-cons}
use Rattle.indexmap.specs.IndexSet.{insert_all}
use Rattle.gsl_tree.specs.declared.unit.GlobalVar.{GlobalVar}
use Rattle.gsl_link_units.specs.Declarations.{Side}
use Rattle.gsl_link_whole.specs.Numbers.{Sited, sited_from, all_from, all_globals, same_site, stands_for, stands, standing, global_number}
use Rattle.gsl_link_numbers.specs.declared.site.Site.{Site}
use Rattle.gsl_link_numbers.specs.Standing.{Spots, site_eq, site_at, stands_there, noted_all, standing_from, standing_all, places_behind}
use Rattle.gsl_link_numbers.proofs.Sited.{distinct_kept, places_differ, eq_other_way}
use Rattle.gsl_link_numbers.proofs.Chosen.{Stands, all_stand, site}

-- ---- a set of items that differ

module _ {A : Type 0} (eq : A → A → Bool) (symm : (a b : A) → eq a b ≡ eq b a) where
  apart_later : (a x : A) (ks xs : List A) → AllByRecursion (λ y. eq a y ≡ false) (ks ++ x ∷ xs) → eq a x ≡ false
  apart_later a x [] xs apart = apart.0
  apart_later a x (k ∷ ks) xs apart = apart_later a x ks xs apart.1

  absent : (ks xs : List A) (x : A) → IsDistinct eq (ks ++ x ∷ xs) → list_any (eq x) ks ≡ false
  absent [] xs x distinct = refl
  absent (k ∷ ks) xs x distinct =
      ap (λ b. b || list_any (eq x) ks) (symm x k ∙ apart_later k x ks xs (IsDistinct-head eq k (ks ++ x ∷ xs) distinct))
      ∙ absent ks xs x (IsDistinct-tail eq k (ks ++ x ∷ xs) distinct)

  pub put_all : (ks xs : List A) → IsDistinct eq (ks ++ xs) → insert_all eq ks xs ≡ ks ++ xs
  put_all ks [] distinct = sym (append-nil ks)
  put_all ks (x ∷ xs) distinct =
      let moved : (ks ++ x ∷ []) ++ xs ≡ ks ++ x ∷ xs = append_assoc ks (x ∷ []) xs in
      ap (λ b. insert_all eq (cond b ks (ks ++ x ∷ [])) xs) (absent ks xs x distinct)
      ∙ put_all (ks ++ x ∷ []) xs (subst (IsDistinct eq) (sym moved) distinct) ∙ moved

-- ---- sites

abbrev sites_of : List Sited → List Site
sites_of xs = map site xs

no_sites : IsDistinct site_eq []
unfolding IsDistinct
no_sites = tt

distinct_sites : (xs : List Sited) → IsDistinct same_site xs → IsDistinct site_eq (sites_of xs)
distinct_sites [] distinct = no_sites
distinct_sites (x ∷ xs) distinct =
    IsDistinct-cons site_eq (site x) (sites_of xs) (apart xs (IsDistinct-head same_site x xs distinct)) (distinct_sites xs (IsDistinct-tail same_site x xs distinct))
  where
    apart : (ys : List Sited) → AllByRecursion (λ y. same_site x y ≡ false) ys → AllByRecursion (λ y. site_eq (site x) y ≡ false) (sites_of ys)
    apart [] all = tt
    apart (y ∷ ys) all = (all.0, apart ys all.1)

place_of_site : (a : Sited) (xs : List Sited) → position_or_len (site_eq (site a)) (sites_of xs) ≡ position_or_len (same_site a) xs
place_of_site a [] = refl
place_of_site a (x ∷ xs) = ap (λ n. cond (not (same_site a x)) (1 + n) 0) (place_of_site a xs)

-- ---- of all units

module _ (sides : List Side) where
  abbrev spots : Spots
  spots = noted_all [] 0 sides

  abbrev kept : List Sited → List Sited
  kept xs = filter (stands (all_globals sides)) xs

  pub stand_there : (a : Sited) → Stands sides a → stands (all_globals sides) a ≡ stands_there spots a.unit a.index a.global
  stand_there a is = ap (λ s. site_eq s (site a)) is

  from_is : (unit index : ℕ) (globals : List GlobalVar) → AllByRecursion (Stands sides) (sited_from unit index globals)
      → standing_from spots unit index globals ≡ sites_of (kept (sited_from unit index globals))
  from_is unit index [] all = refl
  from_is unit index (g ∷ globals) all =
      by_cases (stands (all_globals sides) a) (stand_there a all.0) (from_is unit (index + 1) globals all.1)
    where
      a : Sited
      a = record { unit = unit; index = index; global = g }

      by_cases : (b : Bool) → b ≡ stands_there spots unit index g
          → standing_from spots unit (index + 1) globals ≡ sites_of (kept (sited_from unit (index + 1) globals))
          → (if stands_there spots unit index g then site_at unit index ∷ standing_from spots unit (index + 1) globals else standing_from spots unit (index + 1) globals)
          ≡ sites_of (cond b (a ∷ kept (sited_from unit (index + 1) globals)) (kept (sited_from unit (index + 1) globals)))
      by_cases true is later = ap (λ b. if b then site_at unit index ∷ standing_from spots unit (index + 1) globals else standing_from spots unit (index + 1) globals) (sym is) ∙ ap (λ l. site_at unit index ∷ l) later
      by_cases false is later = ap (λ b. if b then site_at unit index ∷ standing_from spots unit (index + 1) globals else standing_from spots unit (index + 1) globals) (sym is) ∙ later

  pub all_first : (P : Sited → Type 0) (xs ys : List Sited) → AllByRecursion P (xs ++ ys) → AllByRecursion P xs
  all_first P [] ys all = tt
  all_first P (x ∷ xs) ys all = (all.0, all_first P xs ys all.1)

  pub all_second : (P : Sited → Type 0) (xs ys : List Sited) → AllByRecursion P (xs ++ ys) → AllByRecursion P ys
  all_second P [] ys all = all
  all_second P (x ∷ xs) ys all = all_second P xs ys all.1

  kept_both : (xs ys : List Sited) → kept (xs ++ ys) ≡ kept xs ++ kept ys
  kept_both [] ys = refl
  kept_both (x ∷ xs) ys = by_cases (stands (all_globals sides) x) (kept_both xs ys)
    where
      by_cases : (b : Bool) → kept (xs ++ ys) ≡ kept xs ++ kept ys → cond b (x ∷ kept (xs ++ ys)) (kept (xs ++ ys)) ≡ cond b (x ∷ kept xs) (kept xs) ++ kept ys
      by_cases true e = ap (λ l. x ∷ l) e
      by_cases false e = e

  all_from_is : (unit : ℕ) (rest : List Side) → AllByRecursion (Stands sides) (all_from unit rest) → standing_all spots unit rest ≡ sites_of (kept (all_from unit rest))
  all_from_is unit [] all = refl
  all_from_is unit (side ∷ rest) all =
      ap (λ l. l ++ standing_all spots (unit + 1) rest) (from_is unit 0 side.unit.globals (all_first (Stands sides) here later all))
      ∙ ap (λ l. sites_of (kept here) ++ l) (all_from_is (unit + 1) rest (all_second (Stands sides) here later all))
      ∙ sym (map-append site (kept here) (kept later)) ∙ ap sites_of (sym (kept_both here later))
    where
      here : List Sited
      here = sited_from unit 0 side.unit.globals

      later : List Sited
      later = all_from (unit + 1) rest

  -- the set of the declarations that stand for variables
  pub set_is : insert_all site_eq [] (standing_all spots 0 sides) ≡ sites_of (standing sides)
  set_is =
      ap (insert_all site_eq []) (all_from_is 0 sides (all_stand sides))
      ∙ put_all site_eq eq_other_way [] (sites_of (standing sides)) (distinct_sites (standing sides) (distinct_kept same_site (stands (all_globals sides)) (all_globals sides) (places_differ sides)))

  -- the numbers of a unit's variables
  pub places_are : (before : List ℕ) (unit index : ℕ) (globals : List GlobalVar) → AllByRecursion (Stands sides) (sited_from unit index globals)
      → places_behind before spots (sites_of (standing sides)) unit index globals ≡ before ++ map (global_number sides) (sited_from unit index globals)
  places_are before unit index [] all = sym (append-nil before)
  places_are before unit index (g ∷ globals) all =
      ap (λ s. places_behind (before ++ position_or_len (site_eq s) (sites_of (standing sides)) ∷ []) spots (sites_of (standing sides)) unit (index + 1) globals) (sym all.0)
      ∙ ap (λ n. places_behind (before ++ n ∷ []) spots (sites_of (standing sides)) unit (index + 1) globals) (place_of_site (stands_for (all_globals sides) a) (standing sides))
      ∙ places_are (before ++ global_number sides a ∷ []) unit (index + 1) globals all.1
      ∙ append_assoc before (global_number sides a ∷ []) (map (global_number sides) (sited_from unit (index + 1) globals))
    where
      a : Sited
      a = record { unit = unit; index = index; global = g }
