-- The blocks of units are well typed by the joined structs.
use Rattle.std.proofs.Common.{◌≡◌, refl, sym, ap, ◌∙◌, subst, ℕ, ◌<◌, ◌≤◌, Bool, ◌&&◌, List, [], ◌∷◌, map, length, None, arith}
use Rattle.std.specs.Prelude.{true, false, Some}
use Rattle.std.specs.List.{AllByRecursion}
use Rattle.std.proofs.lemmas.List.{length-map}
use Rattle.gsl_base.specs.declared.stage.Stage.{Stage}
use Rattle.gsl_types.specs.Known.{IsSound, AreStructs}
use Rattle.gsl_types.specs.Structs.{numbered, members_meaning}
use Rattle.gsl_types.specs.declared.ty.Member.{Member}
use Rattle.gsl_types.specs.declared.ty.StructType.{StructType}
use Rattle.gsl_types.specs.declared.ty.Ty.{Ty}
use Rattle.gsl_types.specs.declared.ty.Ty.TheOpen.{Ty-F}
use Rattle.gsl_types.specs.declared.ty.Ty.TheViews.{out-Ty}
use Rattle.gsl_layout.specs.Extents.{extent, most_bytes}
use Rattle.gsl_layout.specs.Layout.{need}
use Rattle.gsl_layout.specs.Measures.{measuring, grouped}
use Rattle.gsl_layout.specs.Placings.{placed, first_misplaced}
use Rattle.gsl_layout.specs.declared.placing.Placing.{Placing}
use Rattle.gsl_tree.specs.declared.unit.Block.{Block}
use Rattle.gsl_tree.specs.declared.unit.BlockKind.{BlockKind}
use Rattle.gsl_tree.specs.declared.unit.BlockMember.{BlockMember}
use Rattle.gsl_tree.specs.declared.unit.TypedUnit.{TypedUnit}
use Rattle.gsl_tree.specs.Around.{is_buffer}
use Rattle.gsl_tree.specs.Laying.{rule_of, members_of, placings_of}
use Rattle.gsl_tree.specs.Weights.{height_meaning, most_high}
use Rattle.gsl_tree.specs.Expressions.{most_parts}
use Rattle.gsl_tree.specs.WellTyped.{is_member_kind, IsBlockMember, AreBlockMembers, IsBlock, IsUnit}
use Rattle.gsl_link_units.specs.Types.{retyped}
use Rattle.gsl_link_units.specs.Structs.{joined_structs, retyped_member}
use Rattle.gsl_link_units.specs.Declarations.{Side, sides_of, retyped_block, retyped_block_member}
use Rattle.gsl_link_law.specs.Placed.{IsPlaced}
use Rattle.gsl_link_law.proofs.Retyped.{plain_stays}
use Rattle.gsl_link_law.proofs.Layered.{new_layer, out_retyped}
use Rattle.gsl_link_law.proofs.Linked.{side_is}
use Rattle.gsl_link_law.proofs.Meant.{struct_means, type_means, number_within}
use Rattle.gsl_link_law.proofs.Members.{In, get_at, all_in, all_from, map_in}
use Rattle.gsl_link_law.proofs.Retyped.{retyped_sound, retyped_members_agree}
use Rattle.gsl_link_law.proofs.Structs.{joined_structs_are}
use Rattle.gsl_link_law.proofs.Typed.{known_units}

-- ---- kinds of members

module _ (numbers : List ℕ) where
  kind_same : (last : Bool) (x : Ty-F Ty) → is_member_kind last (new_layer numbers x) ≡ is_member_kind last x
  kind_same last Ty-F.Void = refl
  kind_same last (Ty-F.One s) = refl
  kind_same last (Ty-F.Vector s n) = refl
  kind_same last (Ty-F.Array e n) = plain_stays numbers e
  kind_same last (Ty-F.Runtime e) = ap (λ b. last && b) (plain_stays numbers e)
  kind_same last (Ty-F.Struct k) = refl

  members_new : (members : List BlockMember) → members_of (map (retyped_block_member numbers) members) ≡ map (retyped_member numbers) (members_of members)
  members_new [] = refl
  members_new (m ∷ members) = ap (λ l. retyped_member numbers (record { name = m.name; ty = m.ty }) ∷ l) (members_new members)

  placings_new : (members : List BlockMember) → placings_of (map (retyped_block_member numbers) members) ≡ placings_of members
  placings_new [] = refl
  placings_new (m ∷ members) = ap (λ l. record { offset = m.offset; align = m.align } ∷ l) (placings_new members)

module _ (stage : Stage) (units : List TypedUnit) (all_typed : AllByRecursion (IsUnit stage) units) where
  abbrev sides : List Side
  sides = sides_of units

  abbrev joined : List StructType
  joined = joined_structs units

  structs_are : AreStructs joined
  structs_are = joined_structs_are units (known_units stage units all_typed)

  module _ (numbers : List ℕ) (unit : TypedUnit) (placing : IsPlaced joined numbers unit) (typed : IsUnit stage unit) where
    whole : length numbers ≤ length unit.structs
    whole = let count = placing.count in omega (arith, count)

    abbrev Sound : Ty → Type 0
    Sound t = IsSound (length unit.structs) t

    counted : (t : Ty) → Sound t → IsSound (length numbers) t
    counted t is = subst (λ k. IsSound k t) (sym placing.count) is

    sound_new : (t : Ty) → Sound t → IsSound (length joined) (retyped numbers t)
    sound_new t is = retyped_sound numbers (length numbers) (length joined) (number_within unit.structs joined numbers whole placing.placed) t (counted t is)

    member_new : (kind : BlockKind) (last : Bool) (m : BlockMember) → IsBlockMember unit.structs kind last m → IsBlockMember joined kind last (retyped_block_member numbers m)
    member_new kind last m is = record {
      name = is.name;
      known = sound_new m.ty is.known;
      low = subst (λ h. h ≤ most_high) (type_means height_meaning unit.structs joined numbers whole typed.typed.structs structs_are placing.placed m.ty (counted m.ty is.known)) is.low;
      type = ap (is_member_kind (last && is_buffer kind)) (out_retyped numbers m.ty) ∙ kind_same numbers (last && is_buffer kind) (out-Ty m.ty) ∙ is.type;
      qualifiers = is.qualifiers;
    }

    block_members : (kind : BlockKind) (members : List BlockMember) → AreBlockMembers unit.structs kind members → AreBlockMembers joined kind (map (retyped_block_member numbers) members)
    block_members kind [] all = tt
    block_members kind (m ∷ []) all = member_new kind true m all
    block_members kind (m ∷ next ∷ members) all = (member_new kind false m all.0, block_members kind (next ∷ members) all.1)

    members_sound : (kind : BlockKind) (members : List BlockMember) → AreBlockMembers unit.structs kind members → AllByRecursion (λ (m : Member). IsSound (length numbers) m.ty) (members_of members)
    members_sound kind [] all = tt
    members_sound kind (m ∷ []) all = (counted m.ty all.known, tt)
    members_sound kind (m ∷ next ∷ members) all = (counted m.ty all.0.known, members_sound kind (next ∷ members) all.1)

    laid_alike : (rule : ℕ → ℕ) (members : List BlockMember) → AllByRecursion (λ (m : Member). IsSound (length numbers) m.ty) (members_of members)
        → members_meaning (measuring rule) unit.structs (members_of members) ≡ members_meaning (measuring rule) joined (members_of (map (retyped_block_member numbers) members))
    laid_alike rule members all =
        retyped_members_agree (measuring rule) numbers (length numbers) (numbered (measuring rule) unit.structs) (numbered (measuring rule) joined)
        (struct_means (measuring rule) unit.structs joined numbers whole typed.typed.structs structs_are placing.placed) (members_of members) all
        ∙ ap (members_meaning (measuring rule) joined) (sym (members_new numbers members))

    block_new : (block : Block) → IsBlock unit.structs block → IsBlock joined (retyped_block numbers block)
    block_new block is =
        let rule = rule_of block.std140 in
        let alike = laid_alike rule block.members (members_sound block.kind block.members is.members) in
        let placings = sym (placings_new numbers block.members) in
        let meant = members_meaning (measuring rule) joined (members_of (map (retyped_block_member numbers) block.members)) in
        record {
          name = is.name;
          instance = is.instance;
          set = is.set;
          binding = is.binding;
          some = subst (λ k. 0 < k) (sym (length-map block.members (retyped_block_member numbers))) is.some;
          count = subst (λ k. k ≤ most_parts) (sym (length-map block.members (retyped_block_member numbers))) is.count;
          members = block_members block.kind block.members is.members;
          layout = is.layout;
          laid = record {
            placed = subst (λ (ps : List Placing). first_misplaced [] 0 (placed ps meant) ≡ None) placings (subst (λ (ms : List _). first_misplaced [] 0 (placed (placings_of block.members) ms) ≡ None) alike is.laid.placed);
            small = subst (λ (ps : List Placing). extent (grouped rule (placed ps meant)) ≤ most_bytes) placings (subst (λ (ms : List _). extent (grouped rule (placed (placings_of block.members) ms)) ≤ most_bytes) alike is.laid.small);
            need = subst (λ (ps : List Placing). block.need ≡ need (grouped rule (placed ps meant)).laid) placings (subst (λ (ms : List _). block.need ≡ need (grouped rule (placed (placings_of block.members) ms)).laid) alike is.laid.need);
          };
        }

    pub unit_block : (y : Block) → In y (map (retyped_block numbers) unit.blocks) → IsBlock joined y
    unit_block y is =
        let found = map_in (retyped_block numbers) unit.blocks y is in
        subst (IsBlock joined) found.2 (block_new found.0 (all_in (IsBlock unit.structs) unit.blocks typed.typed.blocks found.0 found.1))

  -- the blocks of each side
  pub sides_blocks : AllByRecursion (λ (s : Side). AllByRecursion (IsBlock joined) s.unit.blocks) sides
  sides_blocks = all_from (λ (s : Side). AllByRecursion (IsBlock joined) s.unit.blocks) sides (λ s inside.
      let place = get_at s sides inside in
      let of = side_is stage units all_typed place.0 s place.1 in
      all_from (IsBlock joined) s.unit.blocks (λ y is. unit_block of.numbers of.unit of.placed of.typed y (subst (λ (t : Side). In y t.unit.blocks) of.is is)))
