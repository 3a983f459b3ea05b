-- Every call in the program that units make together is a call in one of them, by the new numbers.
use Rattle.std.proofs.Common.{◌≡◌, refl, sym, ap, ◌∙◌, subst, ℕ, zero, suc, ◌+◌, ◌⊎◌, inl, inr, List, [], ◌∷◌, ◌++◌, map, append-nil, slice_get, Option, Some, None, arith}
use Rattle.std.specs.Prelude.{flat_map}
use Rattle.std.specs.List.{AllByRecursion}
use Rattle.std.proofs.lemmas.List.{map-append}
use Rattle.std.proofs.lemmas.Option.{same_Some}
use Rattle.gsl_base.specs.declared.stage.Stage.{Stage}
use Rattle.gsl_tree.specs.declared.expr.Expr.{Expr}
use Rattle.gsl_tree.specs.declared.program.Program.{Program}
use Rattle.gsl_tree.specs.declared.unit.Function.{Function}
use Rattle.gsl_tree.specs.declared.unit.GlobalVar.{GlobalVar}
use Rattle.gsl_tree.specs.declared.unit.TypedUnit.{TypedUnit}
use Rattle.gsl_tree.specs.Trees.{or_nothing}
use Rattle.gsl_tree.specs.Expressions.{IsExpr}
use Rattle.gsl_tree.specs.WellTyped.{Lists, IsFunction, IsInit, IsProgram, IsUnit, around_body, around_init, program_lists, unit_lists}
use Rattle.gsl_link_units.specs.Declarations.{Side, retyped_global, sides_of}
use Rattle.gsl_link_whole.specs.Numbers.{Numbering, Sited, all_globals, numbering, standing, stands}
use Rattle.gsl_link_whole.specs.Renumbering.{renumbered_function, renumbered_global}
use Rattle.gsl_link_whole.specs.Whole.{from_each, functions_of, joined_functions, joined_globals, whole}
use Rattle.gsl_link_calls.specs.declared.call.Call.{Call}
use Rattle.gsl_link_calls.specs.Calls.{all_calls, function_calls, global_calls, renumbered_call, renumbered_calls, unit_calls}
use Rattle.gsl_link_law.proofs.Joining.{in_flat, mapped_from}
use Rattle.gsl_link_law.proofs.Linked.{side_is}
use Rattle.gsl_link_law.proofs.Members.{In, all_from, all_in, get_at, in_behind, in_filter, in_front, in_get, in_map, in_parts, map_in}
use Rattle.gsl_link_law.proofs.Sites.{all_sited, two_left}
use Rattle.gsl_link_law.proofs.Variables.{IsNew, globals_stand}
use Rattle.gsl_link_alone.specs.Alone.{StandsOnce}
use Rattle.gsl_link_alone.proofs.Calls as calls
use Rattle.gsl_link_alone.proofs.Wholes.{functions_own, globals_own, own, side}

-- ---- lists

flat_from : {S A : Type 0} (part : S → List A) (xs : List S) (y : A) → In y (flat_map part xs) → (x : S) × (In x xs × In y (part x))
flat_from part [] y at = elim at [ ]
flat_from part (x ∷ xs) y at = by_case (flat_from part xs y) (in_parts y (part x) (flat_map part xs) at)
  where
    by_case : (In y (flat_map part xs) → (z : _) × (In z xs × In y (part z))) → In y (part x) ⊎ In y (flat_map part xs) → (z : _) × (In z (x ∷ xs) × In y (part z))
    by_case next (inl here) = (x, (inl refl, here))
    by_case next (inr more) = let later = next more in (later.0, (inr later.1.0, later.1.1))

each_from : {A : Type 0} (part : ℕ → Side → List A) (unit : ℕ) (sides : List Side) (x : A) → In x (from_each part unit sides) → (j : ℕ) × ((side : Side) × ((slice_get sides j ≡ Some side) × In x (part (unit + j) side)))
each_from part unit [] x at = elim at [ ]
each_from part unit (side ∷ sides) x at = by_case (each_from part (unit + 1) sides x) (in_parts x (part unit side) (from_each part (unit + 1) sides) at)
  where
    by_case : (In x (from_each part (unit + 1) sides) → (j : ℕ) × ((s : Side) × ((slice_get sides j ≡ Some s) × In x (part ((unit + 1) + j) s)))) → In x (part unit side) ⊎ In x (from_each part (unit + 1) sides)
        → (j : ℕ) × ((s : Side) × ((slice_get (side ∷ sides) j ≡ Some s) × In x (part (unit + j) s)))
    by_case next (inl here) = (0, (side, (refl, subst (λ u. In x (part u side)) (let same : unit ≡ unit + 0 = omega arith in same) here)))
    by_case next (inr more) =
        let later = next more in
        (suc later.0, (later.1.0, (later.1.1.0, subst (λ u. In x (part u later.1.0)) (let same : (unit + 1) + later.0 ≡ unit + suc later.0 = omega arith in same) later.1.1.1)))

in_each : {A : Type 0} (part : ℕ → Side → List A) (unit : ℕ) (sides : List Side) (j : ℕ) (side : Side) (x : A) → slice_get sides j ≡ Some side → In x (part (unit + j) side) → In x (from_each part unit sides)
in_each part unit [] j side x at is = cc
in_each part unit (s ∷ sides) zero side x at is =
    in_front x (part unit s) (from_each part (unit + 1) sides) (subst (λ u. In x (part u s)) (let same : unit + 0 ≡ unit = omega arith in same) (subst (λ t. In x (part (unit + 0) t)) (sym (same_Some s side at)) is))
in_each part unit (s ∷ sides) (suc j) side x at is =
    in_behind x (part unit s) (from_each part (unit + 1) sides) (in_each part (unit + 1) sides j side x at (subst (λ u. In x (part u side)) (let same : unit + suc j ≡ (unit + 1) + j = omega arith in same) is))

-- ---- the calls of a program

abbrev pub program_calls : Program → List Call
program_calls p = flat_map global_calls p.globals ++ flat_map function_calls p.functions

init_typed : (lists : Lists) (number : ℕ) (g : GlobalVar) (init : Option Expr) → IsInit lists number g init → AllByRecursion (IsExpr (around_init lists)) (or_nothing init)
init_typed lists number g None is = tt
init_typed lists number g (Some e) is = (is.1, tt)

module _ (lists : Lists) (n : Numbering) where
  function_new : (f : Function) → IsFunction lists f → function_calls (renumbered_function n f) ≡ map (renumbered_call n.heads) (function_calls f)
  function_new f is = calls.function_new n (around_body lists is.prototype.params f.locals) is.prototype.result f is.body

  global_new : (number : ℕ) (g : GlobalVar) → IsInit lists number g g.init → global_calls (renumbered_global n g) ≡ map (renumbered_call n.heads) (global_calls g)
  global_new number g is = calls.global_new n (around_init lists) g (init_typed lists number g g.init is)

-- ---- of one unit

module _ (p : Program) (is : IsProgram p) (once : StandsOnce p) where
  abbrev n : Numbering
  n = own p is once

  abbrev call : Call → Call
  call = renumbered_call n.heads

  functions_calls : map call (flat_map function_calls p.functions) ≡ flat_map function_calls p.functions
  functions_calls =
      let new = renumbered_function n in
      let each = λ (f : Function) (at : In f p.functions). function_new (program_lists p) n f (all_in (IsFunction (program_lists p)) p.functions is.typed.functions f at) in
      sym (calls.flat_new n function_calls new p.functions (all_from (λ (f : Function). function_calls (new f) ≡ map call (function_calls f)) p.functions each)) ∙ ap (flat_map function_calls) (functions_own p is once)

  globals_calls : map call (flat_map global_calls p.globals) ≡ flat_map global_calls p.globals
  globals_calls =
      let new = renumbered_global n in
      let each = λ (g : GlobalVar) (at : In g p.globals). let place = get_at g p.globals at in global_new (program_lists p) n place.0 g (is.typed.globals place.0 g place.1).init in
      sym (calls.flat_new n global_calls new p.globals (all_from (λ (g : GlobalVar). global_calls (new g) ≡ map call (global_calls g)) p.globals each)) ∙ ap (flat_map global_calls) (globals_own p is once)

  -- the calls of the program as one unit are its own
  pub calls_alone : all_calls (side p is once ∷ []) ≡ program_calls p
  calls_alone =
      append-nil (map call (program_calls p)) ∙ map-append call (flat_map global_calls p.globals) (flat_map function_calls p.functions)
      ∙ ap (λ l. l ++ map call (flat_map function_calls p.functions)) globals_calls ∙ ap (λ l. flat_map global_calls p.globals ++ l) functions_calls

-- ---- of many

module _ (stage : Stage) (units : List TypedUnit) (typed : AllByRecursion (IsUnit stage) units) where
  abbrev sides : List Side
  sides = sides_of units

  -- a call in a unit
  of_unit : (j : ℕ) (s : Side) → slice_get sides j ≡ Some s → (c : Call) → In c (map (renumbered_call (numbering sides j s).heads) (unit_calls s)) → In c (all_calls sides)
  of_unit j s at c there = in_each (renumbered_calls sides) 0 sides j s c at (subst (λ u. In c (renumbered_calls sides u s)) (let same : j ≡ 0 + j = omega arith in same) there)

  of_functions : (j : ℕ) (s : Side) → slice_get sides j ≡ Some s → (f : Function) → In f (functions_of sides j s) → (c : Call) → In c (function_calls f) → In c (all_calls sides)
  of_functions j s at f there c inside =
      let of = side_is stage units typed j s at in
      let new = numbering sides j s in
      let found = map_in (renumbered_function new) s.unit.functions f there in
      let old : In found.0 of.unit.functions = subst (λ (t : Side). In found.0 t.unit.functions) of.is found.1 in
      let fine = all_in (IsFunction (unit_lists stage of.unit)) of.unit.functions of.typed.typed.functions found.0 old in
      let here : In c (map (renumbered_call new.heads) (function_calls found.0)) = subst (In c) (function_new (unit_lists stage of.unit) new found.0 fine) (subst (λ g. In c (function_calls g)) (sym found.2) inside) in
      let back = map_in (renumbered_call new.heads) (function_calls found.0) c here in
      let among = in_behind back.0 (flat_map global_calls s.unit.globals) (flat_map function_calls s.unit.functions) (in_flat function_calls s.unit.functions found.0 back.0 found.1 back.1) in
      of_unit j s at c (subst (λ x. In x (map (renumbered_call new.heads) (unit_calls s))) back.2 (in_map (renumbered_call new.heads) (unit_calls s) back.0 among))

  of_globals : (c0 : Sited) (s : Side) → slice_get sides c0.unit ≡ Some s → slice_get s.unit.globals c0.index ≡ Some c0.global → (c : Call) → In c (global_calls (renumbered_global (numbering sides c0.unit s) c0.global)) → In c (all_calls sides)
  of_globals c0 s at there c inside =
      let of = side_is stage units typed c0.unit s at in
      let new = numbering sides c0.unit s in
      let found = mapped_from (retyped_global of.numbers) of.unit.globals c0.index c0.global (subst (λ (t : Side). slice_get t.unit.globals c0.index ≡ Some c0.global) of.is there) in
      let fine = (of.typed.typed.globals c0.index found.0 found.1.0).init in
      let here : In c (map (renumbered_call new.heads) (global_calls found.0)) = subst (In c) (global_new (unit_lists stage of.unit) new c0.index found.0 fine) (subst (λ g. In c (global_calls (renumbered_global new g))) (sym found.1.1) inside) in
      let back = map_in (renumbered_call new.heads) (global_calls found.0) c here in
      let mine : In back.0 (global_calls c0.global) = subst (λ g. In back.0 (global_calls g)) found.1.1 back.1 in
      let among = in_front back.0 (flat_map global_calls s.unit.globals) (flat_map function_calls s.unit.functions) (in_flat global_calls s.unit.globals c0.global back.0 (in_get s.unit.globals c0.index c0.global there) mine) in
      of_unit c0.unit s at c (subst (λ x. In x (map (renumbered_call new.heads) (unit_calls s))) back.2 (in_map (renumbered_call new.heads) (unit_calls s) back.0 among))

  -- each call in the program is one in a unit
  pub calls_from : (c : Call) → In c (program_calls (whole stage units)) → In c (all_calls sides)
  calls_from c at = by_part (in_parts c (flat_map global_calls (joined_globals sides)) (flat_map function_calls (joined_functions sides)) at)
    where
      by_part : In c (flat_map global_calls (joined_globals sides)) ⊎ In c (flat_map function_calls (joined_functions sides)) → In c (all_calls sides)
      by_part (inl there) =
          let found = flat_from global_calls (joined_globals sides) c there in
          let place = get_at found.0 (joined_globals sides) found.1.0 in
          let two = two_left (IsNew sides) (standing sides) (joined_globals sides) (globals_stand sides) place.0 found.0 place.1 in
          let source = all_sited sides two.0 (in_filter (stands (all_globals sides)) (all_globals sides) two.0 (in_get (standing sides) place.0 two.0 two.1)).0 in
          let same : two.2.0 ≡ source.0 = same_Some two.2.0 source.0 (sym two.2.1.0 ∙ source.1) in
          of_globals two.0 two.2.0 two.2.1.0 (subst (λ (s : Side). slice_get s.unit.globals two.0.index ≡ Some two.0.global) (sym same) source.2) c (subst (λ g. In c (global_calls g)) two.2.1.1 found.1.1)
      by_part (inr there) =
          let found = flat_from function_calls (joined_functions sides) c there in
          let from = each_from (functions_of sides) 0 sides found.0 found.1.0 in
          of_functions from.0 from.1.0 from.1.1.0 found.0 (subst (λ u. In found.0 (functions_of sides u from.1.0)) (let same : 0 + from.0 ≡ from.0 = omega arith in same) from.1.1.1) c found.1.1
