-- The global variables of the joined list are those of the declarations that stand for them, and each declaration's variable stands there.
use Rattle.std.proofs.Common.{◌≡◌, refl, sym, ap, ◌∙◌, subst, ℕ, suc, ◌+◌, ◌<◌, ◌⊎◌, inl, inr, Bool, true, false, not, ◌&&◌, List, [], ◌∷◌, map, length, slice_get, Option, Some, arith}
use Rattle.std.specs.Prelude.{filter, bytes_eq}
use Rattle.std.specs.List.{AllByRecursion}
use Rattle.std.proofs.lemmas.Bool.{and_parts, true≢false}
use Rattle.std.proofs.lemmas.List.{length-map}
use Rattle.std.proofs.lemmas.Option.{slice_get_within, get_or_from_slice_get}
use Rattle.gsl_types.specs.declared.ty.StructType.{StructType}
use Rattle.gsl_tree.specs.Around.{known_value}
use Rattle.gsl_tree.specs.declared.unit.GlobalVar.{GlobalVar}
use Rattle.gsl_values.specs.declared.value.Value.{Value}
use Rattle.gsl_link_units.specs.Types.{new_number}
use Rattle.gsl_link_units.specs.Declarations.{Side, is_shared}
use Rattle.gsl_link_whole.specs.Numbers.{Sited, sited_from, all_from, all_globals, same_shared, stands, standing, global_number, numbering}
use Rattle.gsl_link_whole.specs.Renumbering.{renumbered_global}
use Rattle.gsl_link_whole.specs.Whole.{globals_of, from_each, joined_globals}
use Rattle.gsl_link.specs.Units.{IsNamedOnce}
use Rattle.gsl_link_law.proofs.Exprs.{at_mapped}
use Rattle.gsl_link_law.proofs.Members.{In, in_get, filter_in, in_filter}
use Rattle.gsl_link_law.proofs.Agreed.{Across, variables_alike}
use Rattle.gsl_link_law.proofs.Sites.{AllTwo, two_map, two_append, two_right, filter_append, sited_at, sited_get, all_sited, in_globals, stands_at}

-- a variable of the joined list, and the declaration that stands for it
abbrev pub IsNew : List Side → Sited → GlobalVar → Type 0
IsNew sides c h = (side : Side) × ((slice_get sides c.unit ≡ Some side) × (h ≡ renumbered_global (numbering sides c.unit side) c.global))

module _ (sides : List Side) where
  abbrev stand : Sited → Bool
  stand = stands (all_globals sides)

  two_from : (unit : ℕ) (rest : List Side) → ((j : ℕ) (side : Side) → slice_get rest j ≡ Some side → slice_get sides (unit + j) ≡ Some side)
      → AllTwo (IsNew sides) (filter stand (all_from unit rest)) (from_each (globals_of sides) unit rest)
  two_from unit [] there = tt
  two_from unit (side ∷ rest) there =
      subst (λ l. AllTwo (IsNew sides) l (from_each (globals_of sides) unit (side ∷ rest))) (sym (filter_append stand (sited_from unit 0 side.unit.globals) (all_from (unit + 1) rest)))
      (two_append (IsNew sides) (filter stand (sited_from unit 0 side.unit.globals)) (filter stand (all_from (unit + 1) rest)) (globals_of sides unit side) (from_each (globals_of sides) (unit + 1) rest)
      (two_map (IsNew sides) (λ (a : Sited). renumbered_global (numbering sides unit side) a.global) (filter stand (sited_from unit 0 side.unit.globals))
      (λ a at.
      let is = sited_at unit 0 side.unit.globals a (in_filter stand (sited_from unit 0 side.unit.globals) a at).0 in
      let here : unit + 0 ≡ a.unit = (let same : unit + 0 ≡ unit = omega arith in same) ∙ sym is.0 in
      (side, (subst (λ u. slice_get sides u ≡ Some side) here (there 0 side refl), ap (λ u. renumbered_global (numbering sides u side) a.global) (sym is.0)))))
      (two_from (unit + 1) rest (λ j other at. subst (λ u. slice_get sides u ≡ Some other) (let same : unit + suc j ≡ (unit + 1) + j = omega arith in same) (there (suc j) other at))))

  -- the joined list is that of the declarations that stand for their variables
  pub globals_stand : AllTwo (IsNew sides) (standing sides) (joined_globals sides)
  globals_stand = two_from 0 sides (λ j side at. subst (λ u. slice_get sides u ≡ Some side) (let same : j ≡ 0 + j = omega arith in same) at)

-- a variable of the type of another, `const` where that is, and then of its value
pub record IsLike (old new : GlobalVar) : Type 0 where
  pub type : new.ty ≡ old.ty
  pub constant : new.constant ≡ old.constant
  pub known : known_value new.constant new.value ≡ known_value old.constant old.value

module _ (structs : List StructType) (sides : List Side) (once : AllByRecursion IsNamedOnce sides) (across : Across structs sides) where
  not_const : (b : Bool) → not b ≡ true → b ≡ false
  not_const true is = sym is
  not_const false is = refl

  unknown : (b : Bool) (v w : Option Value) → b ≡ false → known_value b v ≡ known_value false w
  unknown b v w is = ap (λ c. known_value c v) is

  shared_like : (side other : Side) → In side sides → In other sides → (g h : GlobalVar) → In g side.unit.globals → In h other.unit.globals → same_shared g h ≡ true → IsLike g h
  shared_like side other at_side at_other g h at_g at_h is =
      let p = and_parts (not g.constant) (not h.constant) (and_parts (not g.constant && not h.constant) (bytes_eq g.name h.name) is).0 in
      let first = not_const g.constant p.0 in
      let second = not_const h.constant p.1 in
      record {
        type = sym (variables_alike structs sides once across side other at_side at_other g h (filter_in is_shared side.unit.globals g at_g p.0) (filter_in is_shared other.unit.globals h at_h p.1) is);
        constant = second ∙ sym first;
        known = unknown h.constant h.value g.value second ∙ ap (λ c. known_value c g.value) (sym first);
      }

  -- each variable of a unit stands in the joined list under its new number
  pub variable_stands : (j : ℕ) (side : Side) → slice_get sides j ≡ Some side → (k : ℕ) (g : GlobalVar) → slice_get side.unit.globals k ≡ Some g
      → (k < length (map (global_number sides) (sited_from j 0 side.unit.globals))) × (new : GlobalVar)
      × (slice_get (joined_globals sides) (new_number (map (global_number sides) (sited_from j 0 side.unit.globals)) k) ≡ Some new) × IsLike g new
  variable_stands j side at k g there =
      let a : Sited = record { unit = j; index = k; global = g } in
      let all = sited_from j 0 side.unit.globals in
      let here : slice_get all k ≡ Some a = sited_get j 0 side.unit.globals k g there ∙ ap (λ i. Some (record { unit = j; index = i; global = g })) (let same : 0 + k ≡ k = omega arith in same) in
      let inside = in_globals sides j side k g at there in
      let found = stands_at sides a inside in
      let new = two_right (IsNew sides) (standing sides) (joined_globals sides) (globals_stand sides) (global_number sides a) found.0 found.1 in
      let is = new.2.1.1 in
      let below = slice_get_within all k a here in (
        subst (λ n. k < n) (sym (length-map all (global_number sides))) below,
        new.0,
        ap (slice_get (joined_globals sides)) (get_or_from_slice_get (map (global_number sides) all) k (global_number sides a) 0 (at_mapped (global_number sides) all k a here)) ∙ new.1,
        subst (IsLike g) (sym is) (by_cases found.0 (numbering sides found.0.unit new.2.0) found.2.0 found.2.1),
      )
    where
      by_cases : (c : Sited) (n : _) → In c (all_globals sides) → (record { unit = j; index = k; global = g } ≡ c) ⊎ (same_shared g c.global ≡ true) → IsLike g (renumbered_global n c.global)
      by_cases c n within (inl same) = record {
        type = ap (λ (s : Sited). s.global.ty) (sym same);
        constant = ap (λ (s : Sited). s.global.constant) (sym same);
        known = ap (λ (s : Sited). known_value s.global.constant s.global.value) (sym same);
      }
      by_cases c n within (inr is) =
          let source = all_sited sides c within in
          let like = shared_like side source.0 (in_get sides j side at) (in_get sides c.unit source.0 source.1) g c.global (in_get side.unit.globals k g there) (in_get source.0.unit.globals c.index c.global source.2) is in
          record { type = like.type; constant = like.constant; known = like.known }

-- a `const` variable stands for itself
pub const_stands : (sides : List Side) (j : ℕ) (side : Side) → slice_get sides j ≡ Some side → (k : ℕ) (g : GlobalVar) → slice_get side.unit.globals k ≡ Some g → g.constant ≡ true
    → slice_get (standing sides) (new_number (map (global_number sides) (sited_from j 0 side.unit.globals)) k) ≡ Some (record { unit = j; index = k; global = g })
const_stands sides j side at k g there const =
    let a : Sited = record { unit = j; index = k; global = g } in
    let all = sited_from j 0 side.unit.globals in
    let here : slice_get all k ≡ Some a = sited_get j 0 side.unit.globals k g there ∙ ap (λ i. Some (record { unit = j; index = i; global = g })) (let same : 0 + k ≡ k = omega arith in same) in
    let found = stands_at sides a (in_globals sides j side k g at there) in
    ap (slice_get (standing sides)) (get_or_from_slice_get (map (global_number sides) all) k (global_number sides a) 0 (at_mapped (global_number sides) all k a here))
    ∙ found.1 ∙ ap Some (sym (by_cases found.0 found.2.1))
  where
    never_shared : (b : Bool) (h : GlobalVar) → b ≡ true → ((not b && not h.constant) && bytes_eq g.name h.name) ≡ true → ⊥
    never_shared true h e is = true≢false (sym is)
    never_shared false h e is = true≢false (sym e)

    by_cases : (c : Sited) → (record { unit = j; index = k; global = g } ≡ c) ⊎ (same_shared g c.global ≡ true) → record { unit = j; index = k; global = g } ≡ c
    by_cases c (inl same) = same
    by_cases c (inr is) = let never : ⊥ = never_shared g.constant c.global const is in elim never [ ]
