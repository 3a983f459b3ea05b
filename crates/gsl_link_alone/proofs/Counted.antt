-- The global variables of the program have no more leaves than those of the units.
use Rattle.std.proofs.Common.{◌≡◌, refl, ap, ◌∙◌, ℕ, ◌+◌, ◌≤◌, ◌⊎◌, inl, inr, true, not, ◌&&◌, List, [], ◌∷◌, None, arith}
use Rattle.std.specs.Prelude.{bytes_eq}
use Rattle.std.specs.List.{AllByRecursion}
use Rattle.std.proofs.lemmas.Bool.{and_parts}
use Rattle.gsl_types.specs.declared.ty.StructType.{StructType}
use Rattle.gsl_tree.specs.declared.unit.GlobalVar.{GlobalVar}
use Rattle.gsl_link_units.specs.Declarations.{Side, is_shared}
use Rattle.gsl_link_units.specs.Firsts.{firsts}
use Rattle.gsl_link_whole.specs.Numbers.{Sited, all_globals, same_shared, same_variable, sited_from, standing, stands}
use Rattle.gsl_link_whole.specs.Whole.{joined_globals}
use Rattle.gsl_link.specs.Rows.{passes_behind}
use Rattle.gsl_link.specs.Units.{IsNamedOnce}
use Rattle.gsl_link_law.proofs.Agreed.{Across, variables_alike}
use Rattle.gsl_link_law.proofs.Members.{In, filter_in, firsts_from, in_filter, in_get}
use Rattle.gsl_link_law.proofs.Sites.{AllTwo, all_sited, one_variable}
use Rattle.gsl_link_law.proofs.Variables.{IsNew, globals_stand}
use Rattle.gsl_link_alone.proofs.Leaves.{counted, firsts_total, has_first, leaves, none_passes, site_leaves, total, total_append_nil, within_most}
use Rattle.gsl_link_alone.proofs.Once.{standing_apart, variable_itself, variable_swap, variable_then}
use Rattle.gsl_link_alone.proofs.Unlike.{unlike_places}

module _ (structs : List StructType) (sides : List Side) (once : AllByRecursion IsNamedOnce sides) (across : Across structs sides) where
  abbrev all : List Sited
  all = all_globals sides

  -- declarations of one variable have one type
  type_same : (a b : Sited) → In a all → In b all → same_variable a b ≡ true → site_leaves structs a ≡ site_leaves structs b
  type_same a b at_a at_b is = by_case (one_variable sides a b at_a at_b is)
    where
      by_case : (a ≡ b) ⊎ (same_shared a.global b.global ≡ true) → site_leaves structs a ≡ site_leaves structs b
      by_case (inl same) = ap (site_leaves structs) same
      by_case (inr shared) =
          let p = and_parts (not a.global.constant) (not b.global.constant) (and_parts (not a.global.constant && not b.global.constant) (bytes_eq a.global.name b.global.name) shared).0 in
          let first = all_sited sides a at_a in
          let second = all_sited sides b at_b in
          let alike = variables_alike structs sides once across first.0 second.0 (in_get sides a.unit first.0 first.1) (in_get sides b.unit second.0 second.1) a.global b.global
          (filter_in is_shared first.0.unit.globals a.global (in_get first.0.unit.globals a.index a.global first.2) p.0) (filter_in is_shared second.0.unit.globals b.global (in_get second.0.unit.globals b.index b.global second.2) p.1) shared in
          ap (λ t. leaves structs (record a.global { ty = t })) alike

  standing_total : total (site_leaves structs) (standing sides) ≤ total (site_leaves structs) (firsts same_variable all)
  standing_total =
      counted (site_leaves structs) same_variable all variable_itself (variable_swap sides) (variable_then sides) type_same (firsts same_variable all) (standing sides)
      (firsts_from same_variable [] all) (λ x at. (in_filter (stands all) all x at).0) (unlike_places same_variable (standing sides) (standing_apart sides))
      (λ x at. has_first (site_leaves structs) same_variable all variable_itself (variable_swap sides) (variable_then sides) type_same x (in_filter (stands all) all x at).0)

  joined_total : (cs : List Sited) (gs : List GlobalVar) → AllTwo (IsNew sides) cs gs → total (leaves structs) gs ≡ total (site_leaves structs) cs
  joined_total [] [] two = refl
  joined_total [] (g ∷ gs) two = elim two [ ]
  joined_total (c ∷ cs) [] two = elim two [ ]
  joined_total (c ∷ cs) (g ∷ gs) two = ap (λ h. leaves structs h + total (leaves structs) gs) two.0.1.1 ∙ ap (λ k. site_leaves structs c + k) (joined_total cs gs two.1)

  sited_total : (unit index : ℕ) (gs : List GlobalVar) → total (site_leaves structs) (sited_from unit index gs) ≡ total (leaves structs) gs
  sited_total unit index [] = refl
  sited_total unit index (g ∷ gs) = ap (λ k. leaves structs g + k) (sited_total unit (index + 1) gs)

  -- the program, as one unit, has none too many
  pub globals_fit : passes_behind structs 0 (firsts same_variable all) ≡ None → (side : Side) → side.unit.globals ≡ joined_globals sides → passes_behind structs 0 (firsts same_variable (all_globals (side ∷ []))) ≡ None
  globals_fit none side is =
      let many = within_most structs 0 (firsts same_variable all) none (omega arith) in
      let few = firsts_total (site_leaves structs) same_variable (all_globals (side ∷ [])) in
      let flat : total (site_leaves structs) (all_globals (side ∷ [])) ≡ total (site_leaves structs) (standing sides) =
      total_append_nil (site_leaves structs) (sited_from 0 0 side.unit.globals) ∙ sited_total 0 0 side.unit.globals ∙ ap (total (leaves structs)) is ∙ joined_total (standing sides) (joined_globals sides) (globals_stand sides) in
      let stand = standing_total in
      none_passes structs 0 (firsts same_variable (all_globals (side ∷ []))) (omega (arith, many, few, flat, stand))
