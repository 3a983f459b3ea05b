-- What is put for a layout by what stands at its top, and for members one behind the other.
use Rattle.std.proofs.Common.{◌≡◌, refl, sym, ap, ◌∙◌, ℕ, zero, suc, ◌+◌, ◌≤◌, List, [], ◌∷◌, ◌++◌, drop, slice_get, Some, true, false, Bool, arith, append-nil}
use Rattle.std.proofs.lemmas.Bool.{true≢false}
use Rattle.std.proofs.lemmas.Option.{none-some}
use Rattle.gsl_compute.proofs.Loops.{opened}
use Rattle.gsl_instr.specs.declared.enumerant.decoration.TheConstants as decoration
use Rattle.gsl_layout.specs.Kinds.{kind_of}
use Rattle.gsl_layout.specs.Layout.{Layout, Leaf, Array, Runtime, Group, Parts, End, Part, members_of, offset_at, part_at, part_of, stride_of}
use Rattle.gsl_layout.specs.declared.kind.Kind.{Kind}
use Rattle.gsl_layout.specs.declared.kind.Kind.TheVariants as kind
use Rattle.gsl_layout.proofs.Order.{layout_or, number_or}
use Rattle.gsl_block_words.specs.Writing.{parts_from}
use Rattle.gsl_block_words.proofs.Puts.{all_parts}
use Rattle.gsl_block_words.proofs.Seeing.{group_is}
use Rattle.gsl_types.specs.declared.ty.StructType.{StructType}
use Rattle.gsl_types.specs.declared.ty.Ty.{Ty}
use Rattle.gsl_types.specs.declared.ty.Ty.TheViews.{out-Ty}
use Rattle.gsl_tree.specs.Shapes.{shape_of}
use Rattle.gsl_spv.specs.Calls as call
use Rattle.gsl_spv.specs.Sections.{Sections}
use Rattle.gsl_spv.specs.declared.refusal.BuildRefusal.{BuildRefusal}
use Rattle.gsl_lower_values.specs.Building.{Built, Made, behind, Refuses}
use Rattle.gsl_lower_types.specs.Known.{Known, once, with_front}
use Rattle.gsl_lower_types.specs.Laid.{anew, grouped, member_types, offsets, stored_as, strided, type_laid, types_laid}
use Rattle.gsl_lower_types.proofs.Turns.{stopped, then_rest, turned}

abbrev is_leaf : Kind → Bool
is_leaf (kind.Leaf n) = true
is_leaf kind.Array = false
is_leaf (kind.Group n) = false

abbrev is_array : Kind → Bool
is_array (kind.Leaf n) = false
is_array kind.Array = true
is_array (kind.Group n) = false

module _ (structs : List StructType) (t : Ty) (known : Known) (s : Sections) where
  pub leaf_typed : (l : Layout) (n : ℕ) → kind_of l ≡ kind.Leaf n → type_laid structs l t known s ≡ stored_as (shape_of t) known s
  leaf_typed (Leaf components) n is = refl
  leaf_typed (Array stride count element) n is = let never : ⊥ = true≢false (sym (ap is_leaf is)) in elim never [ ]
  leaf_typed (Runtime stride element) n is = let never : ⊥ = true≢false (sym (ap is_leaf is)) in elim never [ ]
  leaf_typed (Group members all) n is = let never : ⊥ = true≢false (sym (ap is_leaf is)) in elim never [ ]

  pub array_typed : (l : Layout) → kind_of l ≡ kind.Array → type_laid structs l t known s ≡ once t (anew structs l t) known s
  unfolding anew
  array_typed (Leaf components) is = let never : ⊥ = true≢false (sym (ap is_array is)) in elim never [ ]
  array_typed (Array stride count element) is = refl
  array_typed (Runtime stride element) is = refl
  array_typed (Group members all) is = let never : ⊥ = true≢false (sym (ap is_array is)) in elim never [ ]

  pub group_typed : (l : Layout) (n : ℕ) → kind_of l ≡ kind.Group n → type_laid structs l t known s ≡ once t (anew structs l t) known s
  unfolding anew
  group_typed (Leaf components) n is = let never : ⊥ = true≢false (ap is_leaf is) in elim never [ ]
  group_typed (Array stride count element) n is = let never : ⊥ = true≢false (ap is_array is) in elim never [ ]
  group_typed (Runtime stride element) n is = let never : ⊥ = true≢false (ap is_array is) in elim never [ ]
  group_typed (Group members all) n is = refl

  pub array_anew : (l e : Layout) (n : ℕ) → kind_of l ≡ kind.Array → stride_of l ≡ Some n → part_of l 0 ≡ Some e → anew structs l t known s ≡ strided n (type_laid structs e) (out-Ty t) known s
  unfolding anew
  array_anew (Leaf components) e n is strides part = let never : ⊥ = true≢false (sym (ap is_array is)) in elim never [ ]
  array_anew (Array stride count element) e n is strides part =
      ap (λ k. strided k (type_laid structs element) (out-Ty t) known s) (ap (number_or n) strides) ∙ ap (λ m. strided n (type_laid structs m) (out-Ty t) known s) (ap (layout_or e) part)
  array_anew (Runtime stride element) e n is strides part =
      ap (λ k. strided k (type_laid structs element) (out-Ty t) known s) (ap (number_or n) strides) ∙ ap (λ m. strided n (type_laid structs m) (out-Ty t) known s) (ap (layout_or e) part)
  array_anew (Group members all) e n is strides part = let never : ⊥ = true≢false (sym (ap is_array is)) in elim never [ ]

  pub group_anew : (l : Layout) (n : ℕ) (types : List Ty) → kind_of l ≡ kind.Group n → types ≡ member_types structs t → anew structs l t known s ≡ grouped (members_of l) (types_laid structs (members_of l) types) known s
  unfolding anew
  group_anew (Leaf components) n types is same = let never : ⊥ = true≢false (ap is_leaf is) in elim never [ ]
  group_anew (Array stride count element) n types is same = let never : ⊥ = true≢false (ap is_array is) in elim never [ ]
  group_anew (Runtime stride element) n types is same = let never : ⊥ = true≢false (ap is_array is) in elim never [ ]
  group_anew (Group members all) n types is same = ap (λ l. grouped members (types_laid structs members l) known s) (sym same)

-- ---- members

module _ (structs : List StructType) where
  opens_in : (parts : Parts) (i : ℕ) (m : Layout) (t : Ty) (types : List Ty) (known : Known) (s : Sections) → part_at parts i ≡ Some m
      → types_laid structs (parts_from i parts) (t ∷ types) known s ≡ behind (type_laid structs m t known s) (then_rest (types_laid structs (parts_from (suc i) parts) types))
  opens_in End i m t types known s is = let never : ⊥ = none-some _ is in elim never [ ]
  opens_in (Part o l rest) zero m t types known s is = ap (λ x. behind (type_laid structs x t known s) (then_rest (types_laid structs rest types))) (ap (layout_or m) is)
  opens_in (Part o l rest) (suc i) m t types known s is = opens_in rest i m t types known s is

  module _ (l : Layout) (n : ℕ) (group : kind_of l ≡ kind.Group n) (types : List Ty) where
    types_open : (i : ℕ) (m : Layout) (t : Ty) (known : Known) (s : Sections) → part_of l i ≡ Some m → slice_get types i ≡ Some t
        → types_laid structs (parts_from i (members_of l)) (drop i types) known s ≡ behind (type_laid structs m t known s) (then_rest (types_laid structs (parts_from (i + 1) (members_of l)) (drop (i + 1) types)))
    types_open i m t known s part at_i =
        ap (λ ts. types_laid structs (parts_from i (members_of l)) ts known s) (opened types i t at_i)
        ∙ opens_in (members_of l) i m t (drop (i + 1) types) known s (sym ((group_is l n group).parts i) ∙ part)
        ∙ ap (λ k. behind (type_laid structs m t known s) (then_rest (types_laid structs (parts_from k (members_of l)) (drop (i + 1) types)))) (let e : suc i ≡ i + 1 = omega arith in e)

    pub types_on : (i : ℕ) (m : Layout) (t : Ty) (front new : List ℕ) (id : ℕ) (before after : Known) (s u : Sections) (whole : Built (List ℕ × Known)) → part_of l i ≡ Some m → slice_get types i ≡ Some t
        → type_laid structs m t before s ≡ Made (id, after) u → new ≡ front ++ id ∷ [] → with_front front (types_laid structs (parts_from i (members_of l)) (drop i types) before s) ≡ whole
        → with_front new (types_laid structs (parts_from (i + 1) (members_of l)) (drop (i + 1) types) after u) ≡ whole
    types_on i m t front new id before after s u whole part at_i is made so_far =
        turned (types_laid structs (parts_from (i + 1) (members_of l)) (drop (i + 1) types)) front new id after u _ whole _ is made (types_open i m t before s part at_i) so_far

    pub types_stop : (i : ℕ) (m : Layout) (t : Ty) (front : List ℕ) (why : BuildRefusal) (known : Known) (s : Sections) (whole : Built (List ℕ × Known)) → part_of l i ≡ Some m → slice_get types i ≡ Some t
        → Refuses why (type_laid structs m t known s) → with_front front (types_laid structs (parts_from i (members_of l)) (drop i types) known s) ≡ whole → Refuses why whole
    types_stop i m t front why known s whole part at_i is so_far =
        stopped (types_laid structs (parts_from (i + 1) (members_of l)) (drop (i + 1) types)) front why _ whole _ is (types_open i m t known s part at_i) so_far

    pub types_end : (i : ℕ) (front : List ℕ) (known : Known) (s : Sections) (whole : Built (List ℕ × Known)) → n ≤ i
        → with_front front (types_laid structs (parts_from i (members_of l)) (drop i types) known s) ≡ whole → whole ≡ Made (front, known) s
    types_end i front known s whole past so_far =
        sym so_far ∙ ap (λ p. with_front front (types_laid structs p (drop i types) known s)) (all_parts (members_of l) i (omega (arith, past, (group_is l n group).counted)))
        ∙ ap (λ ids. Made (ids, known) s) (append-nil front)

-- ---- offsets

offsets_open : (parts : Parts) (i o id number : ℕ) (s : Sections) → offset_at parts i ≡ Some o
    → offsets id number (parts_from i parts) s ≡ offsets id (number + 1) (parts_from (suc i) parts) (call.decorate id (Some number) decoration.OFFSET (Some o) s)
unfolding offsets
offsets_open End i o id number s is = let never : ⊥ = none-some _ is in elim never [ ]
offsets_open (Part p l rest) zero o id number s is = ap (λ x. offsets id (number + 1) rest (call.decorate id (Some number) decoration.OFFSET (Some x) s)) (ap (number_or o) is)
offsets_open (Part p l rest) (suc i) o id number s is = offsets_open rest i o id number s is

pub offsets_on : (parts : Parts) (i o id : ℕ) (before after : Sections) (whole : Built (Unit {0})) → offset_at parts i ≡ Some o → after ≡ call.decorate id (Some i) decoration.OFFSET (Some o) before
    → offsets id i (parts_from i parts) before ≡ whole → offsets id (i + 1) (parts_from (i + 1) parts) after ≡ whole
offsets_on parts i o id before after whole offset is so_far =
    ap (offsets id (i + 1) (parts_from (i + 1) parts)) is
    ∙ ap (λ k. offsets id (i + 1) (parts_from k parts) (call.decorate id (Some i) decoration.OFFSET (Some o) before)) (let e : i + 1 ≡ suc i = omega arith in e)
    ∙ sym (offsets_open parts i o id i before offset) ∙ so_far

pub offsets_end : (l : Layout) (n i id : ℕ) (s : Sections) (whole : Built (Unit {0})) → kind_of l ≡ kind.Group n → n ≤ i → offsets id i (parts_from i (members_of l)) s ≡ whole → whole ≡ Made tt s
unfolding offsets
offsets_end l n i id s whole group past so_far =
    sym so_far ∙ ap (λ p. offsets id i p s) (all_parts (members_of l) i (omega (arith, past, (group_is l n group).counted)))
