-- The global variables of the program are well typed.
use Rattle.std.proofs.Common.{◌≡◌, refl, sym, ap, ◌∙◌, subst, ℕ, zero, suc, ◌<◌, ◌≤◌, ◌⊎◌, inl, inr, Bool, true, false, List, [], ◌∷◌, map, take, length, slice_get, Option, Some, None, arith}
use Rattle.std.specs.Prelude.{option_map}
use Rattle.std.specs.List.{AllByRecursion}
use Rattle.std.proofs.lemmas.Bool.{cases_lt}
use Rattle.std.proofs.lemmas.List.{get_or-map}
use Rattle.std.proofs.lemmas.Option.{none-some, same_Some}
use Rattle.gsl_base.specs.declared.stage.Stage.{Stage}
use Rattle.gsl_types.specs.declared.ty.StructType.{StructType}
use Rattle.gsl_types.specs.declared.ty.Ty.{Ty}
use Rattle.gsl_types.specs.declared.ty.Ty.TheVariants as ty
use Rattle.gsl_values.specs.declared.value.Value.{Value}
use Rattle.gsl_tree.specs.declared.expr.Expr.{Expr}
use Rattle.gsl_tree.specs.declared.expr.ExprKind.{ExprKind}
use Rattle.gsl_tree.specs.declared.expr.ExprKind.TheOpen.{ExprKind-F}
use Rattle.gsl_tree.specs.declared.folded.Folded.{Folded}
use Rattle.gsl_tree.specs.declared.folded.Folded.TheVariants.{Known, NotConstant}
use Rattle.gsl_tree.specs.declared.folded.Consts.{Consts}
use Rattle.gsl_tree.specs.declared.unit.GlobalVar.{GlobalVar}
use Rattle.gsl_tree.specs.declared.unit.TypedUnit.{TypedUnit}
use Rattle.gsl_tree.specs.Around.{Around, consts_of, known_value}
use Rattle.gsl_tree.specs.Constants.{constant_of, known_at}
use Rattle.gsl_tree.specs.Trees.{type_of, form_of, parts_of, Throughout}
use Rattle.gsl_tree.specs.Expressions.{IsExpr, IsNode, HasType}
use Rattle.gsl_tree.specs.Statements.{most_deep}
use Rattle.gsl_tree.specs.WellTyped.{Lists, unit_lists, program_lists, around_init, IsInit, IsGlobal, IsUnit}
use Rattle.gsl_link_units.specs.Types.{new_number, retyped}
use Rattle.gsl_link_units.specs.Structs.{joined_structs}
use Rattle.gsl_link_units.specs.Declarations.{Side, side_of, sides_of, retyped_global}
use Rattle.gsl_link_whole.specs.Numbers.{Numbering, Sited, numbering, all_globals, standing, stands}
use Rattle.gsl_link_whole.specs.Renumbering.{renumbered_expr, renumbered_global}
use Rattle.gsl_link_whole.specs.Whole.{joined_globals, whole}
use Rattle.gsl_check_law.proofs.Constants.{LeafKnown, stays_known}
use Rattle.gsl_link_law.specs.Placed.{IsPlaced}
use Rattle.gsl_link_law.specs.Renumbered.{IsRenumbered, HasTypes}
use Rattle.gsl_link_law.proofs.Agreed.{Across, across_from}
use Rattle.gsl_link_law.proofs.Ascending.{IsBefore, standing_before}
use Rattle.gsl_link_law.proofs.Constant.{KnownAlike, constant_same}
use Rattle.gsl_link_law.proofs.Exprs.{at_mapped, all_of_parts, read_new}
use Rattle.gsl_link_law.proofs.Forms.{new_type}
use Rattle.gsl_link_law.proofs.Joining.{mapped_from}
use Rattle.gsl_link_law.proofs.Linked.{AreAgreed, side_is, renumbered, has_types, variable_new}
use Rattle.gsl_link_law.proofs.Members.{In, in_get, in_filter}
use Rattle.gsl_link_law.proofs.Nodes.{expr_new}
use Rattle.gsl_link_law.proofs.Sites.{two_left, all_sited}
use Rattle.gsl_link_law.proofs.Stmts.{depth_new}
use Rattle.gsl_link_law.proofs.Variables.{IsNew, globals_stand, variable_stands, const_stands}

-- ---- what is known of variables up to a number

no_value : {X : Type 0} (v : Value) → ◌≡◌ {A = Folded} NotConstant (Known v) → X
no_value v is = let never : ⊥ = cc in elim never [ ]

taken_known : (number : ℕ) (gs : List GlobalVar) (k : ℕ) (v : Value) → known_at (consts_of (take number gs)).globals k ≡ Known v
    → (k < number) × ((g : GlobalVar) × ((slice_get gs k ≡ Some g) × (known_value g.constant g.value ≡ Known v)))
taken_known zero gs k v is = no_value v is
taken_known (suc number) [] k v is = no_value v is
taken_known (suc number) (g ∷ gs) zero v is = (omega arith, (g, (refl, is)))
taken_known (suc number) (g ∷ gs) (suc k) v is =
    let later = taken_known number gs k v is in
    let below = later.0 in
    (omega (arith, below), later.1)

known_taken : (number : ℕ) (gs : List GlobalVar) (k : ℕ) (g : GlobalVar) → slice_get gs k ≡ Some g → k < number → known_at (consts_of (take number gs)).globals k ≡ known_value g.constant g.value
known_taken zero gs k g at below = let never : ⊥ = omega (arith, below) in elim never [ ]
known_taken (suc number) [] k g at below = elim (none-some g at) [ ]
known_taken (suc number) (h ∷ gs) zero g at below = ap (λ (x : GlobalVar). known_value x.constant x.value) (same_Some h g at)
known_taken (suc number) (h ∷ gs) (suc k) g at below = known_taken number gs k g at (omega (arith, below))

known_const : (b : Bool) (o : Option Value) (v : Value) → known_value b o ≡ Known v → b ≡ true
known_const true o v is = refl
known_const false o v is = no_value v is

-- what is known of a unit's variables where this is known of those of the new numbers
abbrev pulled : Numbering → Consts → Consts
pulled n consts = record { locals = consts.locals; globals = map (known_at consts.globals) n.globals }

pulled_at : (n : Numbering) (consts : Consts) (k : ℕ) → k < length n.globals → known_at consts.globals (new_number n.globals k) ≡ known_at (pulled n consts).globals k
pulled_at n consts k below = sym (get_or-map (known_at consts.globals) n.globals k 0 NotConstant below)

-- ---- initialisers

module _ (around : Around) where
  parts_all : (e : Expr) → IsExpr around e → AllByRecursion (IsExpr around) (parts_of (form_of e))
  parts_all _ (Throughout.whole e node parts) = all_of_parts around (parts_of (form_of e)) parts

  type_here : (e : Expr) → IsExpr around e → HasType around (form_of e) (type_of e)
  type_here _ (Throughout.whole e node parts) = node.type

-- where what is known of a unit's variables is known of them by the new numbers, a constant expression keeps its value
module _ (n : Numbering) (few many : Around) (is : IsRenumbered n few many) (c d : Consts) (none : (k : ℕ) (v : Value) → known_at c.locals k ≡ Known v → ⊥)
    (too : (k : ℕ) (v : Value) → known_at c.globals k ≡ Known v → known_at d.globals (new_number n.globals k) ≡ Known v) where
  leaf : (form : ExprKind-F ExprKind Expr) (t : Ty) → HasType few form t → LeafKnown c (pulled n d) form
  leaf (ExprKind-F.Local k) t has = λ v known. let never : ⊥ = none k v known in elim never [ ]
  leaf (ExprKind-F.Global k) t has = λ v known. sym (pulled_at n d k (is.globals k has.0 has.1).0) ∙ too k v known
  leaf _ t has = tt

  alike : (form : ExprKind-F ExprKind Expr) (t : Ty) → HasType few form t → KnownAlike n d (pulled n d) form
  alike (ExprKind-F.Local k) t has = refl
  alike (ExprKind-F.Global k) t has = pulled_at n d k (is.globals k has.0 has.1).0
  alike _ t has = tt

  value_new : (e : Expr) → IsExpr few e → (v : Value) → constant_of c e ≡ Known v → constant_of d (renumbered_expr n e) ≡ Known v
  value_new e typed v known =
      constant_same n d (pulled n d) (IsNode few) (λ x node. alike (form_of x) (type_of x) node.type) e typed
      ∙ stays_known c (pulled n d) (IsExpr few) (parts_all few) (λ x fine. leaf (form_of x) (type_of x) (type_here few x fine)) e typed v known

module _ (stage : Stage) (units : List TypedUnit) (facts : AreAgreed stage units) where
  abbrev sides : List Side
  sides = sides_of units

  abbrev joined : List StructType
  joined = joined_structs units

  abbrev program : Lists
  program = program_lists (whole stage units)

  across : Across joined sides
  across = across_from joined sides facts.agreed

  module _ (j : ℕ) (numbers : List ℕ) (unit : TypedUnit) (at : slice_get sides j ≡ Some (side_of numbers unit)) (placed : IsPlaced joined numbers unit) (typed : IsUnit stage unit) (member : In unit units)
      (number place : ℕ) (g : GlobalVar) (there : slice_get unit.globals number ≡ Some g)
      (stood : slice_get (standing sides) place ≡ Some (record { unit = j; index = number; global = retyped_global numbers g })) where
    abbrev n : Numbering
    n = numbering sides j (side_of numbers unit)

    abbrev few : Around
    few = around_init (unit_lists stage unit)

    abbrev many : Around
    many = around_init program

    around : IsRenumbered n few many
    around = renumbered stage units facts j numbers unit at placed typed member [] []

    types : HasTypes few
    types = has_types stage units facts j numbers unit at placed typed member [] [] tt tt

    -- a constant before the variable stands before it in the program
    before : (k : ℕ) (h : GlobalVar) → slice_get unit.globals k ≡ Some h → h.constant ≡ true → k < number → new_number n.globals k < place
    before k h found const less = by_order (cases_lt (new_number n.globals k) place)
      where
        spot : ℕ
        spot = new_number n.globals k

        stands_there : slice_get (standing sides) spot ≡ Some (record { unit = j; index = k; global = retyped_global numbers h })
        stands_there = const_stands sides j (side_of numbers unit) at k (retyped_global numbers h) (at_mapped (retyped_global numbers) unit.globals k h found) const

        mine : Sited
        mine = record { unit = j; index = number; global = retyped_global numbers g }

        other : Sited
        other = record { unit = j; index = k; global = retyped_global numbers h }

        wrong : (a b : Sited) → a.unit ≡ b.unit → b.index < a.index → IsBefore a b → ⊥
        wrong a b same below (inl less_unit) = let never : ⊥ = omega (arith, same, less_unit) in never
        wrong a b same below (inr order) = let lower = order.1 in let never : ⊥ = omega (arith, below, lower) in never

        by_order : (spot < place) ⊎ (place ≤ spot) → new_number n.globals k < place
        by_order (inl lower) = lower
        by_order (inr above) = elim (cases_lt place spot) as (λ _. new_number n.globals k < place) [
          | inl further ↦ elim (wrong mine other refl less (standing_before sides place spot mine other stood stands_there further)) [ ]
          | inr also ↦
              let same : spot ≡ place = omega (arith, above, also) in
              let one : other ≡ mine = same_Some other mine (sym stands_there ∙ ap (slice_get (standing sides)) same ∙ stood) in
              let index = ap (λ (a : Sited). a.index) one in
              let never : ⊥ = omega (arith, index, less) in elim never [ ]
        ]

    known_too : (k : ℕ) (v : Value) → known_at (consts_of (take number unit.globals)).globals k ≡ Known v → known_at (consts_of (take place program.globals)).globals (new_number n.globals k) ≡ Known v
    known_too k v known =
        let found = taken_known number unit.globals k v known in
        let h = found.1.0 in
        let const = known_const h.constant h.value v found.1.1.1 in
        let new = variable_stands joined sides facts.named across j (side_of numbers unit) at k (retyped_global numbers h) (at_mapped (retyped_global numbers) unit.globals k h found.1.1.0) in
        known_taken place program.globals (new_number n.globals k) new.1 new.2 (before k h found.1.1.0 const found.0) ∙ new.3.known ∙ found.1.1.1

    init_new : (init : Option Expr) → IsInit (unit_lists stage unit) number g init → IsInit program place (renumbered_global n (retyped_global numbers g)) (option_map (renumbered_expr n) init)
    init_new None is = is
    init_new (Some e) is = (
      is.0,
      expr_new n few many around types e is.1,
      read_new n few many around types e is.1 is.2,
      new_type n e ∙ ap (retyped numbers) is.3,
      subst (λ d. d ≤ most_deep) (sym (depth_new n few many around types ty.Void e is.1)) is.4,
      value_new n few many around (consts_of (take number unit.globals)) (consts_of (take place program.globals)) (λ k v known. no_value v known) known_too e is.1 is.0 is.5,
      is.6,
    )

    global_new : IsGlobal program place (renumbered_global n (retyped_global numbers g))
    global_new =
        let is = typed.typed.globals number g there in
        record { name = is.name; type = variable_new stage units facts j numbers unit at placed typed member g.ty is.type; init = init_new g.init is.init }

  -- the global variables of the program are well typed
  pub globals_typed : (place : ℕ) (h : GlobalVar) → slice_get program.globals place ≡ Some h → IsGlobal program place h
  globals_typed place h at =
      let two = two_left (IsNew sides) (standing sides) (joined_globals sides) (globals_stand sides) place h at in
      let c = two.0 in
      let within = (in_filter (stands (all_globals sides)) (all_globals sides) c (in_get (standing sides) place c two.1)).0 in
      let source = all_sited sides c within in
      by_side c two.1 two.2.0 two.2.1.0 two.2.1.1 source.0 source.1 source.2
    where
      by_side : (c : Sited) → slice_get (standing sides) place ≡ Some c → (side : Side) → slice_get sides c.unit ≡ Some side → h ≡ renumbered_global (numbering sides c.unit side) c.global
          → (source : Side) → slice_get sides c.unit ≡ Some source → slice_get source.unit.globals c.index ≡ Some c.global → IsGlobal program place h
      by_side c stood side at_side is source at_source there =
          let same : source ≡ side = same_Some source side (sym at_source ∙ at_side) in
          let of = side_is stage units facts.typed c.unit side at_side in
          let here = subst (λ (s : Side). slice_get s.unit.globals c.index ≡ Some c.global) (same ∙ of.is) there in
          let found = mapped_from (retyped_global of.numbers) of.unit.globals c.index c.global here in
          let global = found.1.1 in
          subst (IsGlobal program place) (sym (is ∙ ap (λ s. renumbered_global (numbering sides c.unit s) c.global) of.is ∙ ap (renumbered_global (numbering sides c.unit (side_of of.numbers of.unit))) (sym global)))
          (global_new c.unit of.numbers of.unit (at_side ∙ ap Some of.is) of.placed of.typed of.member c.index place found.0 found.1.0
          (stood ∙ ap (λ g. Some (record { unit = c.unit; index = c.index; global = g })) (sym global)))
