-- Global variables of one unit, each of its own: each declaration stands for its variable.
use Rattle.std.proofs.Common.{◌≡◌, refl, sym, ap, ◌∙◌, subst, ℕ, suc, ◌+◌, ◌<◌, ◌≤◌, ◌⊎◌, inl, inr, Bool, true, false, ◌&&◌, List, [], ◌∷◌, map, length, append-nil, slice_get, Option, Some, None, arith}
use Rattle.std.specs.Prelude.{find, nat_eq, is_some}
use Rattle.std.specs.List.{position_or_len}
use Rattle.std.proofs.lemmas.Bool.{and_parts, and_from, cases_lt, eq-eqb, eqb-true, true≢false}
use Rattle.gsl_tree.specs.declared.unit.GlobalVar.{GlobalVar}
use Rattle.gsl_link_units.specs.Declarations.{Side}
use Rattle.gsl_link_whole.specs.Numbers.{Sited, sited_from, all_globals, same_site, same_shared, same_variable, begins, or_else, stands_for, stands, standing, global_number}
use Rattle.gsl_link_law.proofs.Agreed.{shared_swap}
use Rattle.gsl_link_law.proofs.Members.{In, in_get}
use Rattle.gsl_link_law.proofs.Sites.{find_is, sited_at, one_site, one_variable}
use Rattle.gsl_link_alone.specs.Alone.{InRow}
use Rattle.gsl_link_alone.proofs.Rows.{row_mapped}
use Rattle.gsl_link_alone.proofs.Unlike.{Unlike, filter_all, place_of, unlike_at}

pub map_sited : {A : Type 0} (f : GlobalVar → A) (unit index : ℕ) (globals : List GlobalVar) → map (λ (a : Sited). f a.global) (sited_from unit index globals) ≡ map f globals
map_sited f unit index [] = refl
map_sited f unit index (g ∷ globals) = ap (λ l. f g ∷ l) (map_sited f unit (index + 1) globals)

sited_length : (unit index : ℕ) (globals : List GlobalVar) → length (sited_from unit index globals) ≡ length globals
sited_length unit index [] = refl
sited_length unit index (g ∷ globals) = ap suc (sited_length unit (index + 1) globals)

pub itself_site : (a : Sited) → same_site a a ≡ true
itself_site a = and_from (nat_eq a.unit a.unit) (nat_eq a.index a.index) (eq-eqb a.unit a.unit refl) (eq-eqb a.index a.index refl)

-- no two stand in one place
sites_unlike : (unit index : ℕ) (globals : List GlobalVar) → Unlike same_site (sited_from unit index globals)
sites_unlike unit index [] = tt
sites_unlike unit index (g ∷ globals) = (
  (λ b at.
      let place = (sited_at unit (index + 1) globals b at).1.1 in
      by_test b (sited_at unit (index + 1) globals b at).1.0 place (nat_eq b.index index) refl),
  sites_unlike unit (index + 1) globals,
)
  where
    by_test : (b : Sited) (j : ℕ) → b.index ≡ (index + 1) + j → (c : Bool) → nat_eq b.index index ≡ c → (nat_eq b.unit unit && nat_eq b.index index) ≡ false
    by_test b j place true is = let same = eqb-true b.index index is in let never : ⊥ = omega (arith, place, same) in elim never [ ]
    by_test b j place false is = ap (λ c. nat_eq b.unit unit && c) is ∙ and_false (nat_eq b.unit unit)
      where
        and_false : (c : Bool) → (c && false) ≡ false
        and_false true = refl
        and_false false = refl

module _ (side : Side) (unlike : Unlike same_shared side.unit.globals) where
  abbrev all : List Sited
  all = all_globals (side ∷ [])

  abbrev sited : List Sited
  sited = sited_from 0 0 side.unit.globals

  pub all_is : all_globals (side ∷ []) ≡ sited_from 0 0 side.unit.globals
  all_is = append-nil sited

  -- two declarations of one variable are one
  one_alone : (a b : Sited) → In a all → In b all → same_variable a b ≡ true → a ≡ b
  one_alone a b at_a at_b is = by_case (one_variable (side ∷ []) a b at_a at_b is)
    where
      by_case : (a ≡ b) ⊎ (same_shared a.global b.global ≡ true) → a ≡ b
      by_case (inl same) = same
      by_case (inr shared) =
          let first = sited_at 0 0 side.unit.globals a (subst (In a) all_is at_a) in
          let second = sited_at 0 0 side.unit.globals b (subst (In b) all_is at_b) in
          by_order first.1.0 second.1.0 first.1.2 second.1.2 (first.0 ∙ sym second.0) first.1.1 second.1.1 (cases_lt first.1.0 second.1.0)
        where
          no : {X : Type 0} → false ≡ true → X
          no is = let never : ⊥ = true≢false (sym is) in elim never [ ]

          by_order : (j k : ℕ) → slice_get side.unit.globals j ≡ Some a.global → slice_get side.unit.globals k ≡ Some b.global → a.unit ≡ b.unit → a.index ≡ 0 + j → b.index ≡ 0 + k → (j < k) ⊎ (k ≤ j) → a ≡ b
          by_order j k first second unit p q (inl less) = no (sym (unlike_at same_shared side.unit.globals unlike j k a.global b.global first second less) ∙ shared_swap a.global b.global shared)
          by_order j k first second unit p q (inr above) = elim (cases_lt k j) as (λ _. a ≡ b) [
            | inl less ↦ no (sym (unlike_at same_shared side.unit.globals unlike k j b.global a.global second first less) ∙ shared)
            | inr below ↦ one_site (side ∷ []) a b at_a at_b (and_from (nat_eq a.unit b.unit) (nat_eq a.index b.index) (eq-eqb a.unit b.unit unit) (eq-eqb a.index b.index (let same : a.index ≡ b.index = omega (arith, p, q, above, below) in same)))
          ]

  -- each stands for itself
  stands_self : (a : Sited) → In a all → stands_for all a ≡ a
  stands_self a at =
      ap (λ b. or_else b (find (begins a) all)) (chosen (find (same_variable a) all) (λ b is. let found = find_is (same_variable a) all b is in one_alone a b at found.0 found.1))
      ∙ chosen (find (begins a) all) (λ b is. let found = find_is (begins a) all b is in one_alone a b at found.0 (and_parts (same_variable a b) (is_some b.global.init) found.1).0)
    where
      chosen : (o : Option Sited) → ((b : Sited) → o ≡ Some b → a ≡ b) → or_else a o ≡ a
      chosen None same = refl
      chosen (Some b) same = sym (same b refl)

  pub each_stands : (a : Sited) → In a all → stands all a ≡ true
  each_stands a at = ap (λ b. same_site b a) (stands_self a at) ∙ itself_site a

  pub standing_alone : standing (side ∷ []) ≡ sited_from 0 0 side.unit.globals
  standing_alone = filter_all (stands all) all each_stands ∙ all_is

  -- and has the number of its place
  number_alone : (k : ℕ) (a : Sited) → slice_get sited k ≡ Some a → global_number (side ∷ []) a ≡ k
  number_alone k a at =
      let inside = subst (In a) (sym all_is) (in_get sited k a at) in
      ap (λ b. position_or_len (same_site b) (standing (side ∷ []))) (stands_self a inside) ∙ ap (position_or_len (same_site a)) standing_alone ∙ place_of same_site itself_site sited (sites_unlike 0 0 side.unit.globals) k a at

  pub globals_row : InRow (map (global_number (side ∷ [])) (sited_from 0 0 side.unit.globals)) (length side.unit.globals)
  globals_row = subst (InRow (map (global_number (side ∷ [])) sited)) (sited_length 0 0 side.unit.globals) (row_mapped (global_number (side ∷ [])) sited number_alone)
