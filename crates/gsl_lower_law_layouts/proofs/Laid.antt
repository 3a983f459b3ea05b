-- Leaves of types, and the paths of their layouts.
use Rattle.std.proofs.Common.{◌≡◌, refl, sym, ap, ◌∙◌, subst, ℕ, zero, suc, ◌+◌, ◌*◌, ◌<◌, ◌≤◌, List, [], ◌∷◌, ◌++◌, map, get_or, arith}
use Rattle.std.specs.Prelude.{drop}
use Rattle.std.specs.List.{AllByRecursion, flat_map, range_with_len}
use Rattle.gsl_layout.specs.Layout.{Array, Group, Layout, Leaf as Run, Parts, part_at, offset_at}
use Rattle.gsl_layout.specs.Measures.{grouped, measure, measuring, run, stride_of}
use Rattle.gsl_layout.specs.Placings.{Placed, end_of, free, offset_behind, parts_behind, placed}
use Rattle.gsl_layout.specs.declared.placing.Placing.{Placing}
use Rattle.gsl_types.specs.Structs.{Meaning, layer, members_over, numbered, over, struct_over, table_from}
use Rattle.gsl_types.specs.declared.ty.Member.{Member}
use Rattle.gsl_types.specs.declared.ty.StructType.{StructType}
use Rattle.gsl_types.specs.declared.ty.Ty.{Ty}
use Rattle.gsl_types.specs.declared.ty.Ty.TheFolds.{fold-roll-Ty, ind-Ty, map-Ty}
use Rattle.gsl_types.specs.declared.ty.Ty.TheOpen.{Ty-F}
use Rattle.gsl_types.specs.declared.ty.Ty.TheViews.{roll-Ty}
use Rattle.gsl_views.specs.Paths.{Leads, here, member, element}
use Rattle.gsl_lower_places.specs.Reading.{number_in}
use Rattle.gsl_lower_places.specs.declared.reached.Part.TheVariants.{Fixed}
use Rattle.gsl_lower_leaves.specs.Leaves.{element_leaves, leaves_meaning, leaves_of, member_leaves, within}
use Rattle.gsl_lower_leaves.specs.declared.leaf.Leaf.{Leaf}

-- what is measured of a type
abbrev carrier : {A : Type 0} → Meaning A → Type 0
carrier {A} meaning = A

abbrev Measure : Type 0
Measure = carrier (measuring (λ align. align))

module _ (size : ℕ) where
  -- The numbers of a leaf are known, and lead from a layout at a place.
  abbrev LeadsTo : Layout → ℕ → Leaf → Type 0
  LeadsTo l at one = (offset : ℕ) × (one.path ≡ map Fixed (map number_in one.path)) × Leads size l at (map number_in one.path) (Run one.shape.1) offset

  abbrev EachLeads : Layout → List Leaf → Type 0
  EachLeads l leaves = (at : ℕ) → AllByRecursion (LeadsTo l at) leaves

  -- ---- leaves of parts

  within_lead : (l inner : Layout) (at to k : ℕ) (leaves : List Leaf) → ((path : List ℕ) (part : Layout) (offset : ℕ) → Leads size inner to path part offset → Leads size l at (k ∷ path) part offset) → AllByRecursion (LeadsTo inner to) leaves
      → AllByRecursion (LeadsTo l at) (map (within k) leaves)
  within_lead l inner at to k [] step all = tt
  within_lead l inner at to k (one ∷ more) step all = ((all.0.0, ap (λ ps. Fixed k ∷ ps) all.0.1, step (map number_in one.path) (Run one.shape.1) all.0.0 all.0.2), within_lead l inner at to k more step all.1)

  both_lead : (l : Layout) (at : ℕ) (a b : List Leaf) → AllByRecursion (LeadsTo l at) a → AllByRecursion (LeadsTo l at) b → AllByRecursion (LeadsTo l at) (a ++ b)
  both_lead l at [] b first second = second
  both_lead l at (one ∷ a) b first second = (first.0, both_lead l at a b first.1 second)

  -- ---- arrays

  elements_lead : (stride count : ℕ) (e : Layout) (leaves : List Leaf) (at from n : ℕ) → EachLeads e leaves → from + n ≤ count → AllByRecursion (LeadsTo (Array stride count e) at) (flat_map (element_leaves leaves) (range_with_len from n))
  elements_lead stride count e leaves at from zero lead few = tt
  elements_lead stride count e leaves at from (suc n) lead few =
      both_lead (Array stride count e) at (element_leaves leaves from) (flat_map (element_leaves leaves) (range_with_len (from + 1) n))
      (within_lead (Array stride count e) e at (at + stride * from) from leaves (λ path part offset leads. element (let less : from < count = omega (arith, few) in less) leads) (lead (at + stride * from)))
      (elements_lead stride count e leaves at (from + 1) n lead (omega (arith, few)))

  -- ---- members

  abbrev MembersLead : List (List ℕ × Measure) → List (List ℕ × List Leaf) → Type 0
  MembersLead [] [] = Unit {0}
  MembersLead (m ∷ ms) (l ∷ ls) = EachLeads m.1.laid l.1 × MembersLead ms ls
  MembersLead _ _ = ⊥

  -- Parts are those of a group from a number on.
  record AreFrom (parts rest : Parts) (number : ℕ) : Type 0 where
    part : (k : ℕ) → part_at parts (number + k) ≡ part_at rest k
    offset : (k : ℕ) → offset_at parts (number + k) ≡ offset_at rest k

  members_lead : (parts : Parts) (all at : ℕ) (before : List Placed) (placings : List Placing) (ms : List (List ℕ × Measure)) (ls : List (List ℕ × List Leaf)) (number : ℕ) → MembersLead ms ls → AreFrom parts (parts_behind before (placed placings ms)) number
      → AllByRecursion (LeadsTo (Group parts all) at) (member_leaves number ls)
  members_lead parts all at before placings [] [] number lead from = tt
  members_lead parts all at before placings [] (l ∷ ls) number lead from = absurd lead
  members_lead parts all at before placings (m ∷ ms) [] number lead from = absurd lead
  members_lead parts all at before placings (m ∷ ms) (l ∷ ls) number lead from =
      let one : Placed = (get_or placings 0 free, m.1) in
      let offset = offset_behind (end_of before) one in
      both_lead (Group parts all) at (map (within number) l.1) (member_leaves (number + 1) ls)
      (within_lead (Group parts all) m.1.laid at (at + offset) number l.1
      (λ path part q leads. member (ap (part_at parts) (let z : number ≡ number + 0 = omega arith in z) ∙ from.part 0) (ap (offset_at parts) (let z : number ≡ number + 0 = omega arith in z) ∙ from.offset 0) leads) (lead.0 (at + offset)))
      (members_lead parts all at (one ∷ before) (drop 1 placings) ms ls (number + 1) lead.1
      (record {
        part = λ k. ap (part_at parts) (let z : number + 1 + k ≡ number + suc k = omega arith in z) ∙ from.part (suc k);
        offset = λ k. ap (offset_at parts) (let z : number + 1 + k ≡ number + suc k = omega arith in z) ∙ from.offset (suc k);
      }))

  group_leads : (raise : ℕ → ℕ) (placings : List Placing) (ms : List (List ℕ × Measure)) (ls : List (List ℕ × List Leaf)) → MembersLead ms ls → EachLeads (grouped raise (placed placings ms)).laid (member_leaves 0 ls)
  group_leads raise placings ms ls lead at =
      let parts = parts_behind [] (placed placings ms) in
      members_lead parts (grouped raise (placed placings ms)).size at [] placings ms ls 0 lead
      (record { part = λ k. ap (part_at parts) (let z : 0 + k ≡ k = omega arith in z); offset = λ k. ap (offset_at parts) (let z : 0 + k ≡ k = omega arith in z) })

  -- ---- types over known structs

  module _ (raise : ℕ → ℕ) where
    module _ (measures : ℕ → Measure) (leaves : ℕ → List Leaf) (known : (number : ℕ) → EachLeads (measures number).laid (leaves number)) where
      abbrev TypeLeads : Ty → Type 0
      TypeLeads t = EachLeads (over (measuring raise) measures t).laid (over leaves_meaning leaves t)

      so : (x : Ty-F Ty) → EachLeads (layer (measuring raise) measures (map-Ty _ _ (over (measuring raise) measures) x)).laid (layer leaves_meaning leaves (map-Ty _ _ (over leaves_meaning leaves) x)) → TypeLeads (roll-Ty x)
      so x leads =
          subst (λ (m : Measure). EachLeads m.laid (over leaves_meaning leaves (roll-Ty x))) (sym (fold-roll-Ty Measure (layer (measuring raise) measures) x))
          (subst (EachLeads (layer (measuring raise) measures (map-Ty _ _ (over (measuring raise) measures) x)).laid) (sym (fold-roll-Ty (List Leaf) (layer leaves_meaning leaves) x)) leads)

      by_layer : (y : Ty-F ((t : Ty) × TypeLeads t)) → TypeLeads (roll-Ty (map-Ty _ _ (λ e. e.0) y))
      by_layer Ty-F.Void = so Ty-F.Void (λ at. tt)
      by_layer (Ty-F.One s) = so (Ty-F.One s) (λ at. ((at, refl, here), tt))
      by_layer (Ty-F.Vector s n) = so (Ty-F.Vector s n) (λ at. ((at, refl, here), tt))
      by_layer (Ty-F.Array e n) =
          so (Ty-F.Array e.0 n) (λ at. elements_lead (stride_of raise (over (measuring raise) measures e.0)) n (over (measuring raise) measures e.0).laid (over leaves_meaning leaves e.0) at 0 n e.1 (omega arith))
      by_layer (Ty-F.Runtime e) = so (Ty-F.Runtime e.0) (λ at. tt)
      by_layer (Ty-F.Struct number) = so (Ty-F.Struct number) (known number)

      type_leads : (t : Ty) → TypeLeads t
      type_leads = ind-Ty TypeLeads (λ x y is. subst (λ z. TypeLeads (roll-Ty z)) is (by_layer y))

      all_members : (members : List Member) → MembersLead (members_over (measuring raise) measures members) (members_over leaves_meaning leaves members)
      all_members [] = tt
      all_members (m ∷ members) = (type_leads m.ty, all_members members)

      struct_leads : (struct : StructType) → EachLeads (struct_over (measuring raise) measures struct).laid (struct_over leaves_meaning leaves struct)
      struct_leads struct = group_leads raise [] (members_over (measuring raise) measures struct.members) (members_over leaves_meaning leaves struct.members) (all_members struct.members)

    -- ---- structs in their order

    abbrev TableLeads : List Measure → List (List Leaf) → Type 0
    TableLeads [] [] = Unit {0}
    TableLeads (m ∷ ms) (l ∷ ls) = EachLeads m.laid l × TableLeads ms ls
    TableLeads _ _ = ⊥

    at_number : (ms : List Measure) (ls : List (List Leaf)) → TableLeads ms ls → (number : ℕ) → EachLeads (get_or ms number (run 1)).laid (get_or ls number [])
    at_number [] [] lead number at = tt
    at_number [] (l ∷ ls) lead number at = absurd lead
    at_number (m ∷ ms) [] lead number at = absurd lead
    at_number (m ∷ ms) (l ∷ ls) lead zero at = lead.0 at
    at_number (m ∷ ms) (l ∷ ls) lead (suc number) at = at_number ms ls lead.1 number at

    one_more : (ms : List Measure) (ls : List (List Leaf)) (m : Measure) (l : List Leaf) → TableLeads ms ls → EachLeads m.laid l → TableLeads (ms ++ m ∷ []) (ls ++ l ∷ [])
    one_more [] [] m l lead more = (more, tt)
    one_more [] (b ∷ ls) m l lead more = absurd lead
    one_more (a ∷ ms) [] m l lead more = absurd lead
    one_more (a ∷ ms) (b ∷ ls) m l lead more = (lead.0, one_more ms ls m l lead.1 more)

    table_leads : (structs : List StructType) (ms : List Measure) (ls : List (List Leaf)) → TableLeads ms ls → TableLeads (table_from (measuring raise) ms structs) (table_from leaves_meaning ls structs)
    table_leads [] ms ls lead = lead
    table_leads (struct ∷ structs) ms ls lead =
        table_leads structs (ms ++ struct_over (measuring raise) (λ number. get_or ms number (run 1)) struct ∷ []) (ls ++ struct_over leaves_meaning (λ number. get_or ls number []) struct ∷ [])
        (one_more ms ls (struct_over (measuring raise) (λ number. get_or ms number (run 1)) struct) (struct_over leaves_meaning (λ number. get_or ls number []) struct) lead
        (struct_leads (λ number. get_or ms number (run 1)) (λ number. get_or ls number []) (at_number ms ls lead) struct))

    pub leaves_laid : (structs : List StructType) (ty : Ty) → EachLeads (measure raise structs ty).laid (leaves_of structs ty)
    leaves_laid structs ty =
        type_leads (numbered (measuring raise) structs) (numbered leaves_meaning structs) (at_number (table_from (measuring raise) [] structs) (table_from leaves_meaning [] structs) (table_leads structs [] [] tt)) ty
