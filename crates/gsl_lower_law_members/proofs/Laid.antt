-- Parts of what lies by a layout, by their types.
use Rattle.std.proofs.Common.{◌≡◌, refl, sym, ap, ◌∙◌, subst, inl, inr, ℕ, zero, suc, ◌+◌, ◌*◌, ◌<◌, ◌≤◌, Bool, List, [], ◌∷◌, ◌++◌, get_or, Option, Some, None, arith}
use Rattle.std.specs.Prelude.{drop, slice_get}
use Rattle.gsl_layout.specs.Layout.{Array, Group, Layout, Leaf, Parts, Runtime, array, members_of as parts_of, part_at, offset_at}
use Rattle.gsl_layout.specs.Measures.{group_size, measure, measuring, stride_of}
use Rattle.gsl_layout.specs.Placings.{Placed, end_of, free, offset_behind, parts_behind, placed}
use Rattle.gsl_layout.specs.declared.placing.Placing.{Placing}
use Rattle.gsl_types.specs.Known.{AreStructs}
use Rattle.gsl_types.specs.Structs.{Meaning, layer, members_over, numbered, over}
use Rattle.gsl_types.specs.declared.ty.Member.{Member}
use Rattle.gsl_types.specs.declared.ty.StructType.{StructType}
use Rattle.gsl_types.specs.declared.ty.Ty.{Ty}
use Rattle.gsl_types.specs.declared.ty.Ty.TheFolds.{fold-roll-Ty, map-Ty}
use Rattle.gsl_types.specs.declared.ty.Ty.TheOpen.{Ty-F}
use Rattle.gsl_types.specs.declared.ty.Ty.TheVariants as ty
use Rattle.gsl_types.specs.declared.ty.Ty.TheVariants.{rolls-Struct}
use Rattle.gsl_types.specs.declared.ty.Ty.TheViews.{out-Ty, roll-Ty, roll-out-Ty}
use Rattle.gsl_types.proofs.Structs.{numbered_is}
use Rattle.gsl_tree.specs.Expressions.{HasPartType, element_kind, element_of}
use Rattle.gsl_tree.specs.Laying.{layout_of, members_of, placings_of, rule_of}
use Rattle.gsl_tree.specs.Operations.{length_kind, length_of}
use Rattle.gsl_tree.specs.Shapes.{Shape, shape_kind, shape_of}
use Rattle.gsl_tree.specs.declared.unit.Block.{Block}
use Rattle.gsl_tree.specs.declared.unit.BlockMember.{BlockMember}
use Rattle.gsl_typed_law.specs.Parts.{IsPart}
use Rattle.gsl_views.specs.Paths.{Leads, here, member, element, open_element}
use Rattle.gsl_views.specs.Viewed.{IsArray, elements}
use Rattle.gsl_lower_law_members.specs.Parts.{IsRow, laid_as}
use Rattle.gsl_lower_law_members.specs.Parts.IsRow.{counted, endless}

-- what is measured of a type
abbrev carrier : {A : Type 0} → Meaning A → Type 0
carrier {A} meaning = A

abbrev Measure : Type 0
Measure = carrier (measuring (λ align. align))

-- ---- one path behind another

pub leads_further : (size : ℕ) (l part inner : Layout) (at q r : ℕ) (path more : List ℕ) → Leads size l at path part q → Leads size part q more inner r → Leads size l at (path ++ more) inner r
leads_further size l part inner at q r path more here next = next
leads_further size l part inner at q r path more (member {i = i} {o = o} {m = first} {path = rest} is_part is_offset leads) next = member is_part is_offset (leads_further size first part inner (at + o) q r rest more leads next)
leads_further size l part inner at q r path more (element {stride = stride} {i = i} {e = e} {path = rest} below leads) next = element below (leads_further size e part inner (at + stride * i) q r rest more leads next)
leads_further size l part inner at q r path more (open_element {stride = stride} {i = i} {e = e} {path = rest} below leads) next = open_element below (leads_further size e part inner (at + stride * i) q r rest more leads next)

-- ---- members

-- A member of a number is there, and lies by this layout.
abbrev pub IsMember : Parts → ℕ → Layout → Type 0
IsMember parts number l = (offset : ℕ) × (part_at parts number ≡ Some l) × (offset_at parts number ≡ Some offset)

module _ (m : Meaning Measure) (known : ℕ → Measure) where
  abbrev over_all : List Member → List (List ℕ × Measure)
  over_all members = members_over m known members

  member_at : (members : List Member) (number : ℕ) (one : Member) (before : List Placed) (placings : List Placing) → slice_get members number ≡ Some one → IsMember (parts_behind before (placed placings (over_all members))) number (over m known one.ty).laid
  member_at [] number one before placings e = absurd cc
  member_at (first ∷ members) zero one before placings e = (offset_behind (end_of before) (get_or placings 0 free, over m known first.ty), ap (λ (x : Member). Some (over m known x.ty).laid) (some_member e), refl)
    where
      some_member : {a b : Member} → Some a ≡ Some b → a ≡ b
      some_member e = cc
  member_at (first ∷ members) (suc number) one before placings e = member_at members number one ((get_or placings 0 free, over m known first.ty) ∷ before) (drop 1 placings) e

module _ (structs : List StructType) (size : ℕ) where
  pub block_member_at : (block : Block) (number : ℕ) (one : BlockMember) → slice_get block.members number ≡ Some one → IsMember (parts_of (layout_of structs block)) number (laid_as block.std140 structs one.ty)
  block_member_at block number one e = member_at (measuring (rule_of block.std140)) (numbered (measuring (rule_of block.std140)) structs) (members_of block.members) number (record { name = one.name; ty = one.ty }) [] (placings_of block.members) (by block.members number e)
    where
      by : (members : List BlockMember) (number : ℕ) → slice_get members number ≡ Some one → slice_get (members_of members) number ≡ Some (record { name = one.name; ty = one.ty })
      by [] number e = absurd cc
      by (first ∷ members) zero e = ap (λ (x : BlockMember). Some (record { name = x.name; ty = x.ty })) (some_member e)
        where
          some_member : {a b : BlockMember} → Some a ≡ Some b → a ≡ b
          some_member e = cc
      by (first ∷ members) (suc number) e = by members number e

  pub block_member_laid : (block : Block) (number : ℕ) (one : BlockMember) → slice_get block.members number ≡ Some one → (offset : ℕ) × Leads size (layout_of structs block) 0 (number ∷ []) (laid_as block.std140 structs one.ty) offset
  block_member_laid block number one e = let there = block_member_at block number one e in (0 + there.0, member there.1 there.2 here)

  module _ (std140 : Bool) where
    abbrev measures : Meaning Measure
    measures = measuring (rule_of std140)

    layer_is : (x : Ty-F Ty) → measure (rule_of std140) structs (roll-Ty x) ≡ layer measures (numbered measures structs) (map-Ty _ _ (measure (rule_of std140) structs) x)
    layer_is x = fold-roll-Ty Measure (layer measures (numbered measures structs)) x

    -- a struct lies as a group
    module _ (n : ℕ) (struct : StructType) (base : Ty) (are : AreStructs structs) (is : base ≡ ty.Struct n) (found : slice_get structs n ≡ Some struct) where
      abbrev all_of : List Placed
      all_of = placed [] (members_over measures (numbered measures structs) struct.members)

      group_laid : laid_as std140 structs base ≡ Group (parts_behind [] all_of) (group_size (rule_of std140) all_of)
      group_laid = ap (laid_as std140 structs) (is ∙ sym (rolls-Struct n)) ∙ ap (λ (x : Measure). x.laid) (layer_is (Ty-F.Struct n)) ∙ ap (λ (x : Measure). x.laid) (numbered_is measures structs n struct found (are n struct found).earlier)

    pub struct_member_laid : (at number : ℕ) (base t : Ty) → AreStructs structs → HasPartType structs base number t → (offset : ℕ) × Leads size (laid_as std140 structs base) at (number ∷ []) (laid_as std140 structs t) offset
    struct_member_laid at number base t are (n, struct, one, is, found, there, same) =
        let at_it = member_at measures (numbered measures structs) struct.members number one [] [] there in
        (at + at_it.0, subst (λ l. Leads size l at (number ∷ []) (laid_as std140 structs t) (at + at_it.0)) (sym (group_laid n struct base are is found)) (member (at_it.1 ∙ ap (λ u. Some (laid_as std140 structs u)) same) at_it.2 here))

    -- ---- elements

    some_type : {a b : Ty} → Some a ≡ Some b → a ≡ b
    some_type e = cc

    pub row_laid : (base t : Ty) → element_of base ≡ Some t → shape_of base ≡ None → IsRow std140 structs base t (laid_as std140 structs base)
    row_laid base t has none = by (out-Ty base) (roll-out-Ty base) has none refl
      where
        by : (x : Ty-F Ty) → roll-Ty x ≡ base → element_kind x ≡ Some t → shape_kind x ≡ None → length_of base ≡ length_kind x → IsRow std140 structs base t (laid_as std140 structs base)
        by Ty-F.Void e has none long = absurd cc
        by (Ty-F.One s) e has none long = absurd cc
        by (Ty-F.Vector s n) e has none long = absurd cc
        by (Ty-F.Array inner n) e has none long =
            counted (stride_of (rule_of std140) (measure (rule_of std140) structs inner))
            (ap (laid_as std140 structs) (sym e) ∙ ap (λ (x : Measure). x.laid) (layer_is (Ty-F.Array inner n))
            ∙ ap (λ k. Array (stride_of (rule_of std140) (measure (rule_of std140) structs inner)) k (laid_as std140 structs inner)) (sym long)
            ∙ ap (λ u. Array (stride_of (rule_of std140) (measure (rule_of std140) structs inner)) (length_of base) (laid_as std140 structs u)) (some_type has))
        by (Ty-F.Runtime inner) e has none long =
            endless (stride_of (rule_of std140) (measure (rule_of std140) structs inner)) long
            (ap (laid_as std140 structs) (sym e) ∙ ap (λ (x : Measure). x.laid) (layer_is (Ty-F.Runtime inner))
            ∙ ap (λ u. Runtime (stride_of (rule_of std140) (measure (rule_of std140) structs inner)) (laid_as std140 structs u)) (some_type has))
        by (Ty-F.Struct number) e has none long = absurd cc

    pub element_laid : (at number : ℕ) (base t : Ty) (l : Layout) → IsRow std140 structs base t l → number < elements l at size → (offset : ℕ) × Leads size l at (number ∷ []) (laid_as std140 structs t) offset
    element_laid at number base t l (counted stride is) less =
        (at + stride * number, subst (λ l. Leads size l at (number ∷ []) (laid_as std140 structs t) (at + stride * number)) (sym is) (element (subst (λ l. number < elements l at size) is less) here))
    element_laid at number base t l (endless stride long is) less =
        (at + stride * number, subst (λ l. Leads size l at (number ∷ []) (laid_as std140 structs t) (at + stride * number)) (sym is) (open_element (subst (λ l. number < elements l at size) is less) here))

    -- ---- runs

    pub shape_laid : (t : Ty) (shape : Shape) → shape_of t ≡ Some shape → laid_as std140 structs t ≡ Leaf shape.1
    shape_laid t shape of = by (out-Ty t) (roll-out-Ty t) of
      where
        some_shape : {a b : Shape} → Some a ≡ Some b → a ≡ b
        some_shape e = cc

        by : (x : Ty-F Ty) → roll-Ty x ≡ t → shape_kind x ≡ Some shape → laid_as std140 structs t ≡ Leaf shape.1
        by Ty-F.Void e of = absurd cc
        by (Ty-F.One s) e of = ap (laid_as std140 structs) (sym e) ∙ ap (λ (x : Measure). x.laid) (layer_is (Ty-F.One s)) ∙ ap (λ (x : Shape). Leaf x.1) (some_shape of)
        by (Ty-F.Vector s n) e of = ap (laid_as std140 structs) (sym e) ∙ ap (λ (x : Measure). x.laid) (layer_is (Ty-F.Vector s n)) ∙ ap (λ (x : Shape). Leaf x.1) (some_shape of)
        by (Ty-F.Array inner n) e of = absurd cc
        by (Ty-F.Runtime inner) e of = absurd cc
        by (Ty-F.Struct number) e of = absurd cc

  -- ---- behind the last element

  pub row_array : (base t : Ty) (l : Layout) (std140 : Bool) → IsRow std140 structs base t l → IsArray l
  row_array base t l std140 (counted stride is) = subst IsArray (sym is) tt
  row_array base t l std140 (endless stride long is) = subst IsArray (sym is) tt

  pub row_short : (base t : Ty) (l : Layout) (std140 : Bool) (offset k : ℕ) → IsRow std140 structs base t l → elements l offset size ≤ k → length_of base ≤ k
  row_short base t l std140 offset k (counted stride is) most = (let same : elements l offset size ≡ length_of base = ap (λ l. elements l offset size) is in omega (arith, most, same))
  row_short base t l std140 offset k (endless stride long is) most = omega (arith, long)

  elements_at : (base t : Ty) (l : Layout) (std140 : Bool) (offset k : ℕ) → IsRow std140 structs base t l → elements l offset size ≤ k → k < length_of base → ⊥
  elements_at base t l std140 offset k (counted stride is) most less = (let same : elements l offset size ≡ length_of base = ap (λ l. elements l offset size) is in omega (arith, most, less, same))
  elements_at base t l std140 offset k (endless stride long is) most less = omega (arith, less, long)

  -- what has a part of a number by its type is no array that has less
  pub not_beyond : (std140 : Bool) (base t : Ty) (offset k : ℕ) → AreStructs structs → IsPart structs base k t → IsArray (laid_as std140 structs base) → elements (laid_as std140 structs base) offset size ≤ k → ⊥
  not_beyond std140 base t offset k are (inl part) array most = subst IsArray (group_laid std140 part.0 part.1 base are part.3 part.4) array
  not_beyond std140 base t offset k are (inr (has, less)) array most = by (shape_of base) refl
    where
      by : (o : Option Shape) → shape_of base ≡ o → ⊥
      by None none = elements_at base t (laid_as std140 structs base) std140 offset k (row_laid std140 base t has none) most less
      by (Some shape) of = subst IsArray (shape_laid std140 base shape of) array
