-- Blocks, inputs, outputs and heads of functions of a unit are well typed by the joined structs, and so are those of the program.
use Rattle.std.proofs.Common.{◌≡◌, refl, sym, ap, ◌∙◌, subst, ℕ, ◌<◌, ◌≤◌, inl, inr, Bool, true, false, ◌&&◌, List, [], ◌∷◌, map, length, slice_get, Some, None, arith}
use Rattle.std.specs.List.{AllByRecursion}
use Rattle.std.proofs.lemmas.List.{length-map}
use Rattle.gsl_base.specs.declared.stage.Stage.{Stage}
use Rattle.gsl_types.specs.Known.{IsSound}
use Rattle.gsl_types.specs.Structs.{numbered, members_meaning}
use Rattle.gsl_types.specs.declared.ty.Direction.{Direction}
use Rattle.gsl_types.specs.declared.ty.Member.{Member}
use Rattle.gsl_types.specs.declared.ty.StructType.{StructType}
use Rattle.gsl_types.specs.declared.ty.Ty.{Ty}
use Rattle.gsl_types.specs.declared.ty.Ty.TheOpen.{Ty-F}
use Rattle.gsl_types.specs.declared.ty.Ty.TheViews.{out-Ty}
use Rattle.gsl_layout.specs.Extents.{extent, most_bytes}
use Rattle.gsl_layout.specs.Layout.{need}
use Rattle.gsl_layout.specs.Measures.{measuring, grouped}
use Rattle.gsl_layout.specs.Placings.{placed, first_misplaced}
use Rattle.gsl_layout.specs.declared.placing.Placing.{Placing}
use Rattle.gsl_tree.specs.declared.unit.Block.{Block}
use Rattle.gsl_tree.specs.declared.unit.BlockKind.{BlockKind}
use Rattle.gsl_tree.specs.declared.unit.BlockMember.{BlockMember}
use Rattle.gsl_tree.specs.declared.unit.Interface.{Interface}
use Rattle.gsl_tree.specs.declared.unit.Prototype.{Prototype}
use Rattle.gsl_tree.specs.declared.unit.TypedUnit.{TypedUnit}
use Rattle.gsl_tree.specs.Around.{is_buffer}
use Rattle.gsl_tree.specs.Laying.{rule_of, members_of, placings_of}
use Rattle.gsl_tree.specs.Weights.{height_meaning, most_high}
use Rattle.gsl_tree.specs.Expressions.{most_parts}
use Rattle.gsl_tree.specs.WellTyped.{is_member_kind, IsVariableType, IsResult, IsBlockMember, AreBlockMembers, IsBlock, IsInterface, IsPrototype, IsUnit}
use Rattle.gsl_link_units.specs.Types.{retyped}
use Rattle.gsl_link_units.specs.Structs.{joined_structs, retyped_member}
use Rattle.gsl_link_units.specs.Declarations.{Side, side_of, sides_of, retyped_block, retyped_block_member, retyped_interface, retyped_prototype, retyped_param}
use Rattle.gsl_link_whole.specs.Numbers.{joined_blocks, joined_interfaces, joined_heads}
use Rattle.gsl_link_law.specs.Placed.{IsPlaced}
use Rattle.gsl_link_law.proofs.Agreed.{Across, across_from}
use Rattle.gsl_link_law.proofs.Blocked.{unit_block}
use Rattle.gsl_link_law.proofs.Retyped.{plain_stays}
use Rattle.gsl_link_law.proofs.Joining.{blocks_from, interfaces_from, heads_from}
use Rattle.gsl_link_law.proofs.Layered.{new_layer, out_retyped, new_shape, new_void}
use Rattle.gsl_link_law.proofs.Linked.{AreAgreed, side_is, structs_known, variable_new}
use Rattle.gsl_link_law.proofs.Meant.{struct_means, type_means, number_within}
use Rattle.gsl_link_law.proofs.Members.{In, get_at, all_in, all_from, map_in}
use Rattle.gsl_link_law.proofs.Retyped.{retyped_sound, retyped_members_agree}

module _ (stage : Stage) (units : List TypedUnit) (facts : AreAgreed stage units) where
  abbrev sides : List Side
  sides = sides_of units

  abbrev joined : List StructType
  joined = joined_structs units

  module _ (j : ℕ) (numbers : List ℕ) (unit : TypedUnit) (at : slice_get sides j ≡ Some (side_of numbers unit)) (placing : IsPlaced joined numbers unit) (typed : IsUnit stage unit) (member : In unit units) where
    whole : length numbers ≤ length unit.structs
    whole = let count = placing.count in omega (arith, count)

    abbrev Sound : Ty → Type 0
    Sound t = IsSound (length unit.structs) t

    counted : (t : Ty) → Sound t → IsSound (length numbers) t
    counted t is = subst (λ k. IsSound k t) (sym placing.count) is

    sound_new : (t : Ty) → Sound t → IsSound (length joined) (retyped numbers t)
    sound_new t is = retyped_sound numbers (length numbers) (length joined) (number_within unit.structs joined numbers whole placing.placed) t (counted t is)

    variable : (t : Ty) → IsVariableType unit.structs t → IsVariableType joined (retyped numbers t)
    variable t is = variable_new stage units facts j numbers unit at placing typed member t is

    -- ---- inputs and outputs

    interface_new : (i : Interface) → IsInterface stage unit.structs i → IsInterface stage joined (retyped_interface numbers i)
    interface_new i is = record {
      name = is.name;
      known = sound_new i.ty is.known;
      type = (is.type.0, new_shape numbers i.ty ∙ is.type.1, is.type.2);
      location = is.location;
      flat = is.flat;
    }

    pub unit_interface : (y : Interface) → In y (map (retyped_interface numbers) unit.interfaces) → IsInterface stage joined y
    unit_interface y is =
        let found = map_in (retyped_interface numbers) unit.interfaces y is in
        subst (IsInterface stage joined) found.2 (interface_new found.0 (all_in (IsInterface stage unit.structs) unit.interfaces typed.typed.interfaces found.0 found.1))

    -- ---- heads

    result_new : (t : Ty) → IsResult unit.structs t → IsResult joined (retyped numbers t)
    result_new t (inl is) = inl (ap (retyped numbers) is ∙ new_void numbers)
    result_new t (inr is) = inr (variable t is)

    params_new : (params : List (Direction × Ty)) → AllByRecursion (λ (param : Direction × Ty). IsVariableType unit.structs param.1) params
        → AllByRecursion (λ (param : Direction × Ty). IsVariableType joined param.1) (map (retyped_param numbers) params)
    params_new [] all = tt
    params_new (param ∷ params) all = (variable param.1 all.0, params_new params all.1)

    head_new : (p : Prototype) → IsPrototype unit.structs p → IsPrototype joined (retyped_prototype numbers p)
    head_new p is = record {
      name = is.name;
      result = result_new p.result is.result;
      params = params_new p.params is.params;
      count = subst (λ k. k ≤ 255) (sym (length-map p.params (retyped_param numbers))) is.count;
    }

    pub unit_head : (y : Prototype) → In y (map (retyped_prototype numbers) unit.prototypes) → IsPrototype joined y
    unit_head y is =
        let found = map_in (retyped_prototype numbers) unit.prototypes y is in
        subst (IsPrototype joined) found.2 (head_new found.0 (all_in (IsPrototype unit.structs) unit.prototypes typed.typed.prototypes found.0 found.1))

  -- ---- of the program

  across : Across joined sides
  across = across_from joined sides facts.agreed

  pub blocks_typed : AllByRecursion (IsBlock joined) (joined_blocks sides)
  blocks_typed = all_from (IsBlock joined) (joined_blocks sides) (λ y is.
      let source = blocks_from joined sides facts.named across y is in
      let place = get_at source.0 sides source.1.0 in
      let of = side_is stage units facts.typed place.0 source.0 place.1 in
      unit_block stage units facts.typed of.numbers of.unit of.placed of.typed y (subst (λ (s : Side). In y s.unit.blocks) of.is source.1.1))

  pub interfaces_typed : AllByRecursion (IsInterface stage joined) (joined_interfaces sides)
  interfaces_typed = all_from (IsInterface stage joined) (joined_interfaces sides) (λ y is.
      let source = interfaces_from joined sides facts.named across y is in
      let place = get_at source.0 sides source.1.0 in
      let of = side_is stage units facts.typed place.0 source.0 place.1 in
      unit_interface place.0 of.numbers of.unit (place.1 ∙ ap Some of.is) of.placed of.typed of.member y (subst (λ (s : Side). In y s.unit.interfaces) of.is source.1.1))

  pub heads_typed : AllByRecursion (IsPrototype joined) (joined_heads sides)
  heads_typed = all_from (IsPrototype joined) (joined_heads sides) (λ y is.
      let source = heads_from joined sides facts.named across y is in
      let place = get_at source.0 sides source.1.0 in
      let of = side_is stage units facts.typed place.0 source.0 place.1 in
      unit_head place.0 of.numbers of.unit (place.1 ∙ ap Some of.is) of.placed of.typed of.member y (subst (λ (s : Side). In y s.unit.prototypes) of.is source.1.1))
