-- Members one behind another: what holds of their measures, and of the group that they make.
use Rattle.std.proofs.Common.{◌≡◌, refl, sym, ap, subst, ◌∙◌, drop, get_or, length, ℕ, zero, suc, ◌^◌, ◌<◌, ◌≤◌, inl, inr, List, [], ◌∷◌, ◌++◌, slice_get, Some, IsTrue, arith}
use Rattle.std.specs.Prelude.{Bool, true, false, nat_le, if◌then◌else◌}
use Rattle.std.specs.List.{AllByRecursion}
use Rattle.std.proofs.lemmas.Option.{none-some, get_or_from_slice_get}
use Rattle.std.proofs.lemmas.Bool.{and_from}
use Rattle.std.proofs.lemmas.List.{map-append}
use Rattle.gsl_types.specs.declared.ty.Ty.{Ty}
use Rattle.gsl_types.specs.declared.ty.Member.{Member}
use Rattle.gsl_types.specs.declared.ty.StructType.{StructType}
use Rattle.gsl_types.specs.Structs.{members_meaning}
use Rattle.gsl_types.proofs.Everywhere.{meaning_holds, members_meaning_hold}
use Rattle.gsl_layout.specs.Extents.{AreMembers, extent, most_bytes, open_stride, open_strides, plain}
use Rattle.gsl_layout.specs.Gathers.{IsMeasured, IsShut}
use Rattle.gsl_layout.specs.Layout.{Layout, Leaf, Array, Runtime, Group, AreParts, closed, all_closed, may_end}
use Rattle.gsl_layout.specs.Measures.{block, components_align, group_align, group_size, measure, measuring, placed_members}
use Rattle.gsl_layout.specs.Placings.{Placed, end_of, free, largest_actual, largest_base, last_first, parts_behind, placed}
use Rattle.gsl_layout.specs.Rules.{IsAlignment, Raises}
use Rattle.gsl_layout.specs.declared.measured.Measured.{Measured}
use Rattle.gsl_layout.specs.declared.placing.Placing.{Placing}
use Rattle.gsl_layout.proofs.Bounds.{need_le_size}
use Rattle.gsl_layout.proofs.Multiples.{not_below}
use Rattle.gsl_layout.proofs.Placements.{AllAligned, AreRight, actual_free, actual_least, base_aligned, last_first_append, later, max_alignment, offset_whole, placed_aligned, right_append, stands_behind}
use Rattle.gsl_layout.proofs.Placements.{placed_append as append_placed}

either : (b : Bool) (x y : ℕ) → IsAlignment x → IsAlignment y → IsAlignment (if b then x else y)
either true x y p q = p
either false x y p q = q

components_aligned : (n : ℕ) → IsAlignment (components_align n)
components_aligned n = either (nat_le n 1) 4 _ (inl refl) (either (nat_le n 2) 8 16 (inr (inl refl)) (inr (inr refl)))

-- closed layouts may end a group
pub closed_ends : (layout : Layout) → IsTrue (closed layout) → IsTrue (may_end layout)
closed_ends (Leaf components) shut = shut
closed_ends (Array stride count element) shut = shut
closed_ends (Runtime stride element) shut = refl
closed_ends (Group members all) shut = shut

-- What is known of a member's measure when it is placed.
pub record IsPlaced (raise : ℕ → ℕ) (structs : List StructType) (member : Member) : Type 0 where
  pub measured : IsMeasured (measure raise structs member.ty)
  pub ends : IsTrue (may_end (measure raise structs member.ty).laid)
  pub shut : IsTrue (plain member.ty) → IsShut (measure raise structs member.ty)

module _ (raise : ℕ → ℕ) (raises : (align : ℕ) → IsAlignment align → Raises raise align) (structs : List StructType) where
  abbrev pub meanings : List Member → List (List ℕ × Measured)
  meanings = members_meaning (measuring raise) structs

  -- members with what is said of their places
  abbrev pub placed_of : List Member → List Placing → List Placed
  placed_of = placed_members raise structs

  group_aligned : (named : List (List ℕ × Measured)) → AllByRecursion (λ (e : List ℕ × Measured). IsAlignment e.1.align) named → IsAlignment (group_align raise (placed [] named))
  group_aligned named all =
      let base = base_aligned (placed [] named) (placed_aligned named [] all) in
      max_alignment (largest_actual (placed [] named)) (raise (largest_base (placed [] named))) (subst IsAlignment (sym (actual_free named)) base) (raises (largest_base (placed [] named)) base).alignment

  -- every type has an alignment
  pub aligned : (ty : Ty) → IsAlignment (measure raise structs ty).align
  aligned = meaning_holds (measuring raise) (λ m. IsAlignment m.align) (inl refl) (inl refl) (λ s. inl refl) (λ s n. components_aligned n)
      (λ a n is. (raises a.align is).alignment) (λ a is. (raises a.align is).alignment) (λ name members all. group_aligned members all) structs

  pub members_aligned : (members : List Member) (placings : List Placing) → AllAligned (placed_of members placings)
  members_aligned members placings =
      placed_aligned (meanings members) placings (members_meaning_hold (measuring raise) (λ m. IsAlignment m.align) (inl refl) (inl refl) (λ s. inl refl) (λ s n. components_aligned n)
      (λ a n is. (raises a.align is).alignment) (λ a is. (raises a.align is).alignment) (λ name members all. group_aligned members all) structs members)

  -- the alignment of a group is not 0
  pub group_some : (members : List Placed) → 1 ≤ group_align raise members
  group_some members = omega (arith, actual_least members)

  -- the size of a group is not below the end of its members
  pub end_le_size : (members : List Placed) → end_of (last_first [] members) ≤ group_size raise members
  end_le_size members = not_below (group_align raise members) (end_of (last_first [] members)) (group_some members)

  pub member_within : (members : List Member) (placings : List Placing) (before : List Placed) → AreRight before (placed_of members placings) → (k : ℕ) (x : Member) → slice_get members k ≡ Some x
      → ((measure raise structs x.ty).size ≤ end_of (last_first before (placed_of members placings))) × (open_stride (measure raise structs x.ty).laid ≤ open_strides (parts_behind before (placed_of members placings)))
  member_within [] placings before right k x found = elim (none-some _ found) [ ]
  member_within (y ∷ members) placings before right zero x found =
      let is = get_or_from_slice_get (y ∷ members) 0 x x found in
      let behind = later (placed_of members (drop 1 placings)) ((get_or placings 0 free, measure raise structs y.ty) ∷ before) (members_aligned members (drop 1 placings)) right.1 in
      (omega (arith, ap (λ z. (measure raise structs z.ty).size) is, behind), omega (arith, ap (λ z. open_stride (measure raise structs z.ty).laid) is))
  member_within (y ∷ members) placings before right (suc k) x found =
      let within = member_within members (drop 1 placings) ((get_or placings 0 free, measure raise structs y.ty) ∷ before) right.1 k x found in
      (within.0, omega (arith, within.1))

  -- a group's extent is not below that of a member
  pub member_extent : (members : List Member) (placings : List Placing) → AreRight [] (placed_of members placings) → (k : ℕ) (x : Member) → slice_get members k ≡ Some x
      → extent (measure raise structs x.ty) ≤ extent (block raise structs members placings)
  member_extent members placings right k x found =
      let within = member_within members placings [] right k x found in omega (arith, within.0, within.1, end_le_size (placed_of members placings))

  pub placed_append : (first rest : List Member) (placings : List Placing)
      → placed_of (first ++ rest) placings ≡ placed_of first placings ++ placed_of rest (drop (length (meanings first)) placings)
  placed_append first rest placings =
      ap (placed placings) (map-append (λ (member : Member). (member.name, measure raise structs member.ty)) first rest) ∙ append_placed (meanings first) (meanings rest) placings

  -- nor below the end of its first members
  pub first_extent : (first rest : List Member) (placings : List Placing) → AreRight [] (placed_of (first ++ rest) placings)
      → end_of (last_first [] (placed_of first placings)) ≤ extent (block raise structs (first ++ rest) placings)
  first_extent first rest placings right =
      let more = drop (length (meanings first)) placings in
      let split = placed_append first rest placings in
      let joined = last_first_append (placed_of first placings) (placed_of rest more) [] in
      let behind = right_append (placed_of first placings) (placed_of rest more) [] (subst (AreRight []) split right) in
      omega (
        arith,
        later (placed_of rest more) (last_first [] (placed_of first placings)) (members_aligned rest more) behind,
        ap end_of joined,
        ap (λ ms. end_of (last_first [] ms)) split,
        end_le_size (placed_of (first ++ rest) placings),
      )

  pub parts_stand : (members : List Member) (placings : List Placing) (before : List Placed) (from end : ℕ) → from ≤ end_of before → end_of (last_first before (placed_of members placings)) ≤ end
      → end < 2 ^ 31 → AreMembers members → AllByRecursion (IsPlaced raise structs) members → AreRight before (placed_of members placings) → AreParts from (parts_behind before (placed_of members placings)) end
  parts_stand [] placings before from end low high small are placed right = elim are [ ]
  parts_stand (x ∷ []) placings before from end low high small are placed right =
      let m : Placed = (get_or placings 0 free, measure raise structs x.ty) in (
        omega (arith, low, stands_behind m (aligned x.ty) (end_of before) right.0),
        offset_whole m (aligned x.ty) (end_of before) right.0,
        placed.0.measured.layout,
        omega (arith, placed.0.measured.size, high, small),
        placed.0.ends,
        omega (arith, placed.0.measured.size, high),
      )
  parts_stand (x ∷ y ∷ members) placings before from end low high small are placed right =
      let m : Placed = (get_or placings 0 free, measure raise structs x.ty) in
      let behind = later (placed_of (y ∷ members) (drop 1 placings)) (m ∷ before) (members_aligned (y ∷ members) (drop 1 placings)) right.1 in (
        omega (arith, low, stands_behind m (aligned x.ty) (end_of before) right.0),
        offset_whole m (aligned x.ty) (end_of before) right.0,
        placed.0.measured.layout,
        omega (arith, placed.0.measured.size, high, small, behind),
        (placed.0.shut are.0).shut,
        parts_stand (y ∷ members) (drop 1 placings) (m ∷ before) _ end (omega (arith, need_le_size m.1.laid placed.0.measured.layout, placed.0.measured.size)) high small are.1 placed.1 right.1,
      )

  pub strides_small : (members : List Member) (placings : List Placing) (before : List Placed) → AllByRecursion (IsPlaced raise structs) members
      → open_strides (parts_behind before (placed_of members placings)) ≤ most_bytes
  strides_small [] placings before placed = omega arith
  strides_small (member ∷ members) placings before placed =
      omega (arith, placed.0.measured.extent, strides_small members (drop 1 placings) ((get_or placings 0 free, measure raise structs member.ty) ∷ before) placed.1)

  pub all_shut : (members : List Member) (placings : List Placing) (before : List Placed) → AllByRecursion (λ (member : Member). IsTrue (plain member.ty)) members
      → AllByRecursion (IsPlaced raise structs) members → IsTrue (all_closed (parts_behind before (placed_of members placings)))
  all_shut [] placings before plain placed = refl
  all_shut (member ∷ members) placings before plain placed =
      and_from _ _ (placed.0.shut plain.0).shut (all_shut members (drop 1 placings) ((get_or placings 0 free, measure raise structs member.ty) ∷ before) plain.1 placed.1)
