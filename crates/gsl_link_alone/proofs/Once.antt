-- What units make together has each thing once.
use Rattle.std.proofs.Common.{◌≡◌, refl, sym, ap, ◌∙◌, subst, ℕ, ◌<◌, ◌⊎◌, inl, inr, Bool, true, false, not, ◌&&◌, ◌||◌, List, slice_get, Some, arith}
use Rattle.std.specs.Prelude.{bytes_eq, find, flat_map, is_some}
use Rattle.std.proofs.lemmas.Bool.{and_parts, and_from}
use Rattle.gsl_base.specs.declared.stage.Stage.{Stage}
use Rattle.gsl_tree.specs.declared.unit.GlobalVar.{GlobalVar}
use Rattle.gsl_tree.specs.declared.unit.TypedUnit.{TypedUnit}
use Rattle.gsl_link_units.specs.Agreement.{same_function}
use Rattle.gsl_link_units.specs.Declarations.{Side, sides_of}
use Rattle.gsl_link_units.specs.Structs.{same_struct, joined_structs}
use Rattle.gsl_link_whole.specs.Numbers.{Sited, all_globals, begins, declared_blocks, joined_blocks, joined_heads, joined_interfaces, or_else, same_block, same_interface, same_shared, same_site, same_variable, standing, stands, stands_for}
use Rattle.gsl_link_whole.specs.Whole.{joined_globals, whole}
use Rattle.gsl_link_law.proofs.Agreed.{names_then, shared_swap}
use Rattle.gsl_link_law.proofs.Ascending.{IsBefore, standing_before}
use Rattle.gsl_link_law.proofs.Members.{In, in_filter, in_get}
use Rattle.gsl_link_law.proofs.Sites.{find_same, finds, one_site, one_variable, stands_in, two_left}
use Rattle.gsl_link_law.proofs.Spelled.{joined_apart}
use Rattle.gsl_link_law.proofs.Variables.{IsNew, globals_stand}
use Rattle.gsl_link_alone.specs.Alone.{StandsOnce}
use Rattle.gsl_link_alone.proofs.Sited.{itself_site}
use Rattle.gsl_link_alone.proofs.Sorted.{order_unlike}
use Rattle.gsl_link_alone.proofs.Unlike.{again_unlike, falls, unlike_firsts, unlike_places}

-- ---- one variable

iff_same : (b c : Bool) → (b ≡ true → c ≡ true) → (c ≡ true → b ≡ true) → b ≡ c
iff_same true c to from = sym (to refl)
iff_same false true to from = from refl
iff_same false false to from = refl

or_second : (b c : Bool) → c ≡ true → (b || c) ≡ true
or_second true c is = refl
or_second false c is = is

shared_then : (a b c : GlobalVar) → same_shared a b ≡ true → same_shared b c ≡ true → same_shared a c ≡ true
shared_then a b c first second =
    let p = and_parts (not a.constant && not b.constant) (bytes_eq a.name b.name) first in
    let q = and_parts (not b.constant && not c.constant) (bytes_eq b.name c.name) second in
    and_from (not a.constant && not c.constant) (bytes_eq a.name c.name)
    (and_from (not a.constant) (not c.constant) (and_parts (not a.constant) (not b.constant) p.0).0 (and_parts (not b.constant) (not c.constant) q.0).1) (names_then a.name b.name c.name p.1 q.1)

pub variable_itself : (a : Sited) → same_variable a a ≡ true
variable_itself a = ap (λ b. b || same_shared a.global a.global) (itself_site a)

module _ (sides : List Side) where
  abbrev all : List Sited
  all = all_globals sides

  pub variable_swap : (a b : Sited) → In a all → In b all → same_variable a b ≡ true → same_variable b a ≡ true
  variable_swap a b at_a at_b is = by_case (one_variable sides a b at_a at_b is)
    where
      by_case : (a ≡ b) ⊎ (same_shared a.global b.global ≡ true) → same_variable b a ≡ true
      by_case (inl same) = subst (λ x. same_variable x a ≡ true) same (variable_itself a)
      by_case (inr shared) = or_second (same_site b a) (same_shared b.global a.global) (shared_swap a.global b.global shared)

  pub variable_then : (a b c : Sited) → In a all → In b all → In c all → same_variable a b ≡ true → same_variable b c ≡ true → same_variable a c ≡ true
  variable_then a b c at_a at_b at_c first second = by_case (one_variable sides a b at_a at_b first) (one_variable sides b c at_b at_c second)
    where
      by_case : (a ≡ b) ⊎ (same_shared a.global b.global ≡ true) → (b ≡ c) ⊎ (same_shared b.global c.global ≡ true) → same_variable a c ≡ true
      by_case (inl same) other = subst (λ x. same_variable x c ≡ true) (sym same) second
      by_case (inr shared) (inl same) = subst (λ x. same_variable a x ≡ true) same first
      by_case (inr shared) (inr also) = or_second (same_site a c) (same_shared a.global c.global) (shared_then a.global b.global c.global shared also)

  -- two declarations of one variable that stand for it are one
  pub one_standing : (c d : Sited) → In c all → In d all → stands all c ≡ true → stands all d ≡ true → same_variable c d ≡ true → c ≡ d
  one_standing c d at_c at_d first second one =
      let alike = λ (x : Sited) (at : In x all). iff_same (same_variable c x) (same_variable d x) (variable_then d c x at_d at_c at (variable_swap c d at_c at_d one)) (variable_then c d x at_c at_d at one) in
      let found = find_same (same_variable c) (same_variable d) all alike in
      let begun = find_same (begins c) (begins d) all (λ x at. ap (λ b. b && is_some x.global.init) (alike x at)) in
      let there = finds (same_variable d) all d at_d (variable_itself d) in
      let same : stands_for all c ≡ stands_for all d =
      ap (λ o. or_else (or_else c o) (find (begins c) all)) (found ∙ there.1) ∙ ap (or_else there.0) begun ∙ sym (ap (λ o. or_else (or_else d o) (find (begins d) all)) there.1) in
      sym (one_site sides (stands_for all c) c (stands_in sides c at_c).0 at_c first) ∙ same ∙ one_site sides (stands_for all d) d (stands_in sides d at_d).0 at_d second

  never_before : (c d : Sited) → d ≡ c → IsBefore c d → ⊥
  never_before c d same (inl less) = let unit = ap (λ (s : Sited). s.unit) same in omega (arith, unit, less)
  never_before c d same (inr (unit, less)) = let index = ap (λ (s : Sited). s.index) same in omega (arith, index, less)

  -- of two declarations that stand for variables, at two places, the later is not of the variable of the first
  pub standing_apart : (a b : ℕ) (c d : Sited) → slice_get (standing sides) a ≡ Some c → slice_get (standing sides) b ≡ Some d → a < b → same_variable d c ≡ false
  standing_apart a b c d at_c at_d less = falls (same_variable d c) (λ one.
      let first = in_filter (stands all) all c (in_get (standing sides) a c at_c) in
      let second = in_filter (stands all) all d (in_get (standing sides) b d at_d) in
      never_before c d (one_standing d c second.0 first.0 second.1 first.1 one) (standing_before sides a b c d at_c at_d less))

  globals_apart : (a b : ℕ) (g h : GlobalVar) → slice_get (joined_globals sides) a ≡ Some g → slice_get (joined_globals sides) b ≡ Some h → a < b → same_shared h g ≡ false
  globals_apart a b g h at_g at_h less =
      let first = two_left (IsNew sides) (standing sides) (joined_globals sides) (globals_stand sides) a g at_g in
      let second = two_left (IsNew sides) (standing sides) (joined_globals sides) (globals_stand sides) b h at_h in
      falls (same_shared h g) (λ shared.
      let old : same_shared second.0.global first.0.global ≡ true = subst (λ (x : GlobalVar). same_shared x first.0.global ≡ true) second.2.1.1 (subst (λ (x : GlobalVar). same_shared h x ≡ true) first.2.1.1 shared) in
      false_not (or_second (same_site second.0 first.0) (same_shared second.0.global first.0.global) old) (standing_apart a b first.0 second.0 first.1 second.1 less))
    where
      false_not : {c : Bool} → c ≡ true → c ≡ false → ⊥
      false_not is other = cc

-- what units make together has each thing once
pub joined_once : (stage : Stage) (units : List TypedUnit) → StandsOnce (whole stage units)
joined_once stage units =
    let sides = sides_of units in
    record {
      structs = again_unlike same_struct (joined_structs units) (unlike_places same_struct (joined_structs units) (joined_apart units));
      globals = again_unlike same_shared (joined_globals sides) (unlike_places same_shared (joined_globals sides) (globals_apart sides));
      blocks = again_unlike same_block (joined_blocks sides) (order_unlike (declared_blocks sides) (unlike_firsts same_block (flat_map (λ (side : Side). side.unit.blocks) sides)));
      interfaces = again_unlike same_interface (joined_interfaces sides) (unlike_firsts same_interface (flat_map (λ (side : Side). side.unit.interfaces) sides));
      heads = again_unlike same_function (joined_heads sides) (unlike_firsts same_function (flat_map (λ (side : Side). side.unit.prototypes) sides));
      main = refl;
    }
