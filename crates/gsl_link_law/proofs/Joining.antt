-- What a unit declares stands in the joined lists under its new numbers.
use Rattle.std.proofs.Common.{◌≡◌, refl, sym, ap, ◌∙◌, subst, ℕ, zero, suc, ◌<◌, ◌⊎◌, inl, inr, Bool, true, false, List, [], ◌∷◌, map, length, slice_get, Some}
use Rattle.std.specs.Prelude.{flat_map, if◌then◌else◌}
use Rattle.std.specs.List.{AllByRecursion, list_any, position_or_len}
use Rattle.std.proofs.lemmas.List.{length-map}
use Rattle.std.proofs.lemmas.Option.{none-some, same_Some, slice_get_within, get_or_from_slice_get}
use Rattle.gsl_types.specs.declared.ty.Direction.{Direction}
use Rattle.gsl_types.specs.declared.ty.StructType.{StructType}
use Rattle.gsl_types.specs.declared.ty.Ty.{Ty}
use Rattle.gsl_tree.specs.declared.unit.Block.{Block}
use Rattle.gsl_tree.specs.declared.unit.BlockKind.{BlockKind}
use Rattle.gsl_tree.specs.declared.unit.Interface.{Interface}
use Rattle.gsl_tree.specs.declared.unit.Prototype.{Prototype}
use Rattle.gsl_tree.specs.WellTyped.{comes_before}
use Rattle.gsl_link_units.specs.Types.{new_number}
use Rattle.gsl_link_units.specs.Agreement.{same_function}
use Rattle.gsl_link_units.specs.Declarations.{Side, retyped_block, retyped_block_member, retyped_interface, retyped_prototype}
use Rattle.gsl_link_whole.specs.Numbers.{same_block, same_interface, declared_blocks, put_block, in_order, joined_blocks, joined_interfaces, joined_heads, block_number, interface_number, head_number}
use Rattle.gsl_link.specs.Units.{IsNamedOnce}
use Rattle.gsl_link_law.specs.Renumbered.{IsSameBlock, IsSameInterface, IsHead}
use Rattle.gsl_link_law.proofs.Exprs.{at_mapped}
use Rattle.gsl_link_law.proofs.Members.{In, in_get, in_front, in_behind, in_parts, any_in, any_from, found_first, firsts_from, has_first}
use Rattle.gsl_link_law.proofs.Agreed.{Across, names_then, name_itself, function_itself, function_then, member_looks, block_looks, interface_looks, head_looks, blocks_in, blocks_alike, interfaces_in, interfaces_alike, heads_in, heads_alike}

-- ---- lists of many sides

pub flat_in : {A : Type 0} (part : Side → List A) (sides : List Side) (x : A) → In x (flat_map part sides) → (t : Side) × (In t sides × In x (part t))
flat_in part [] x is = elim is [ ]
flat_in part (side ∷ sides) x is = by_cases (flat_in part sides x) (in_parts x (part side) (flat_map part sides) is)
  where
    by_cases : (In x (flat_map part sides) → (t : Side) × (In t sides × In x (part t))) → In x (part side) ⊎ In x (flat_map part sides) → (t : Side) × (In t (side ∷ sides) × In x (part t))
    by_cases next (inl here) = (side, (inl refl, here))
    by_cases next (inr more) = let later = next more in (later.0, (inr later.1.0, later.1.1))

pub in_flat : {S A : Type 0} (part : S → List A) (sides : List S) (t : S) (x : A) → In t sides → In x (part t) → In x (flat_map part sides)
in_flat part [] t x at is = elim at [ ]
in_flat part (side ∷ sides) t x (inl at) is = in_front x (part side) (flat_map part sides) (subst (λ s. In x (part s)) (sym at) is)
in_flat part (side ∷ sides) t x (inr at) is = in_behind x (part side) (flat_map part sides) (in_flat part sides t x at is)

pub mapped_from : {A B : Type 0} (g : A → B) (xs : List A) (k : ℕ) (y : B) → slice_get (map g xs) k ≡ Some y → (x : A) × ((slice_get xs k ≡ Some x) × (g x ≡ y))
mapped_from g [] k y is = elim (none-some y is) [ ]
mapped_from g (x ∷ xs) zero y is = (x, (refl, same_Some (g x) y is))
mapped_from g (x ∷ xs) (suc k) y is = mapped_from g xs k y is

-- ---- blocks in order

pub put_in : (block : Block) (blocks : List Block) (x : Block) → In x (put_block block blocks) → (block ≡ x) ⊎ In x blocks
put_in block [] x (inl is) = inl is
put_in block [] x (inr is) = elim is [ ]
put_in block (first ∷ blocks) x is = by_cases (put_in block blocks x) (comes_before first block) is
  where
    by_cases : (In x (put_block block blocks) → (block ≡ x) ⊎ In x blocks) → (b : Bool) → In x (if b then first ∷ put_block block blocks else block ∷ first ∷ blocks) → (block ≡ x) ⊎ In x (first ∷ blocks)
    by_cases next true (inl at) = inr (inl at)
    by_cases next true (inr at) = further (next at)
      where
        further : (block ≡ x) ⊎ In x blocks → (block ≡ x) ⊎ In x (first ∷ blocks)
        further (inl a) = inl a
        further (inr a) = inr (inr a)
    by_cases next false (inl at) = inl at
    by_cases next false (inr at) = inr at

in_put : (block : Block) (blocks : List Block) (x : Block) → (block ≡ x) ⊎ In x blocks → In x (put_block block blocks)
in_put block [] x (inl is) = inl is
in_put block [] x (inr is) = elim is [ ]
in_put block (first ∷ blocks) x is = by_cases (in_put block blocks x) (comes_before first block) is
  where
    by_cases : ((block ≡ x) ⊎ In x blocks → In x (put_block block blocks)) → (b : Bool) → (block ≡ x) ⊎ In x (first ∷ blocks) → In x (if b then first ∷ put_block block blocks else block ∷ first ∷ blocks)
    by_cases next true (inl at) = inr (next (inl at))
    by_cases next true (inr (inl at)) = inl at
    by_cases next true (inr (inr at)) = inr (next (inr at))
    by_cases next false (inl at) = inl at
    by_cases next false (inr at) = inr at

pub order_in : (blocks : List Block) (x : Block) → In x (in_order blocks) → In x blocks
order_in [] x is = is
order_in (block ∷ blocks) x is = by_cases (put_in block (in_order blocks) x is) (order_in blocks x)
  where
    by_cases : (block ≡ x) ⊎ In x (in_order blocks) → (In x (in_order blocks) → In x blocks) → In x (block ∷ blocks)
    by_cases (inl at) next = inl at
    by_cases (inr at) next = inr (next at)

in_ordered : (blocks : List Block) (x : Block) → In x blocks → In x (in_order blocks)
in_ordered [] x is = is
in_ordered (block ∷ blocks) x (inl is) = in_put block (in_order blocks) x (inl is)
in_ordered (block ∷ blocks) x (inr is) = in_put block (in_order blocks) x (inr (in_ordered blocks x is))

-- ---- one list of the units

module _ {A L : Type 0} (part : Side → List A) (alike : A → A → Bool) (looks : A → L) (sides : List Side) (joined : List A)
    (from : (y : A) → In y joined → (t : Side) × (In t sides × In y (part t))) (has : (s : Side) → In s sides → (x : A) → In x (part s) → list_any (alike x) joined ≡ true)
    (look : (s t : Side) → In s sides → In t sides → (x y : A) → In x (part s) → In y (part t) → alike x y ≡ true → looks x ≡ looks y) where
  abbrev number : A → ℕ
  number x = position_or_len (alike x) joined

  list_stands : (s : Side) → In s sides → (k : ℕ) (x : A) → slice_get (part s) k ≡ Some x
      → (k < length (map number (part s))) × (new : A) × (slice_get joined (new_number (map number (part s)) k) ≡ Some new) × (looks x ≡ looks new)
  list_stands s at k x there =
      let stands = in_get (part s) k x there in
      let found = found_first (alike x) joined (has s at x stands) in
      let source = from found.0 found.2 in
      let below = slice_get_within (part s) k x there in
      let numbered = get_or_from_slice_get (map number (part s)) k (number x) 0 (at_mapped number (part s) k x there) in (
        subst (λ n. k < n) (sym (length-map (part s) number)) below,
        found.0,
        ap (slice_get joined) numbered ∙ found.1,
        look s source.0 at source.1.0 x found.0 stands source.1.1 found.3,
      )

-- ---- the three lists

module _ (structs : List StructType) (sides : List Side) (once : AllByRecursion IsNamedOnce sides) (across : Across structs sides) where
  pub blocks_from : (y : Block) → In y (joined_blocks sides) → (t : Side) × (In t sides × In y (blocks_in t))
  blocks_from y is = flat_in blocks_in sides y (firsts_from same_block [] (flat_map blocks_in sides) y (order_in (declared_blocks sides) y is))

  has_block : (s : Side) → In s sides → (x : Block) → In x (blocks_in s) → list_any (same_block x) (joined_blocks sides) ≡ true
  has_block s at x is =
      let found = any_from (same_block x) (declared_blocks sides)
      (has_first same_block (λ a. name_itself a.name a.name refl) (λ a b c. names_then a.name b.name c.name) (flat_map blocks_in sides) x (in_flat blocks_in sides s x at is)) in
      any_in (same_block x) (joined_blocks sides) found.0 (in_ordered (declared_blocks sides) found.0 found.1) found.2

  pub block_stands : (s : Side) → In s sides → (k : ℕ) (x : Block) → slice_get s.unit.blocks k ≡ Some x
      → (k < length (map (block_number sides) s.unit.blocks)) × (new : Block) × (slice_get (joined_blocks sides) (new_number (map (block_number sides) s.unit.blocks) k) ≡ Some new) × (block_looks x ≡ block_looks new)
  block_stands = list_stands blocks_in same_block block_looks sides (joined_blocks sides) blocks_from has_block (blocks_alike structs sides once across)

  pub interfaces_from : (y : Interface) → In y (joined_interfaces sides) → (t : Side) × (In t sides × In y (interfaces_in t))
  interfaces_from y is = flat_in interfaces_in sides y (firsts_from same_interface [] (flat_map interfaces_in sides) y is)

  has_interface : (s : Side) → In s sides → (x : Interface) → In x (interfaces_in s) → list_any (same_interface x) (joined_interfaces sides) ≡ true
  has_interface s at x is = has_first same_interface (λ a. name_itself a.name a.name refl) (λ a b c. names_then a.name b.name c.name) (flat_map interfaces_in sides) x (in_flat interfaces_in sides s x at is)

  pub interface_stands : (s : Side) → In s sides → (k : ℕ) (x : Interface) → slice_get s.unit.interfaces k ≡ Some x
      → (k < length (map (interface_number sides) s.unit.interfaces)) × (new : Interface) × (slice_get (joined_interfaces sides) (new_number (map (interface_number sides) s.unit.interfaces) k) ≡ Some new) × (interface_looks x ≡ interface_looks new)
  interface_stands = list_stands interfaces_in same_interface interface_looks sides (joined_interfaces sides) interfaces_from has_interface (interfaces_alike structs sides once across)

  pub heads_from : (y : Prototype) → In y (joined_heads sides) → (t : Side) × (In t sides × In y (heads_in t))
  heads_from y is = flat_in heads_in sides y (firsts_from same_function [] (flat_map heads_in sides) y is)

  has_head : (s : Side) → In s sides → (x : Prototype) → In x (heads_in s) → list_any (same_function x) (joined_heads sides) ≡ true
  has_head s at x is = has_first same_function function_itself function_then (flat_map heads_in sides) x (in_flat heads_in sides s x at is)

  pub head_stands : (s : Side) → In s sides → (k : ℕ) (x : Prototype) → slice_get s.unit.prototypes k ≡ Some x
      → (k < length (map (head_number sides) s.unit.prototypes)) × (new : Prototype) × (slice_get (joined_heads sides) (new_number (map (head_number sides) s.unit.prototypes) k) ≡ Some new) × (head_looks x ≡ head_looks new)
  head_stands = list_stands heads_in same_function head_looks sides (joined_heads sides) heads_from has_head (heads_alike structs sides once across)

-- ---- what looks alike stands for another

module _ (numbers : List ℕ) where
  pub block_from : (old new : Block) → block_looks (retyped_block numbers old) ≡ block_looks new → IsSameBlock numbers old new
  block_from old new same = record {
    kind = sym (ap (λ (l : BlockKind × List (Ty × (Bool × Bool))). l.0) same);
    members = λ k m at.
        let there = sym (ap (λ (l : BlockKind × List (Ty × (Bool × Bool))). slice_get l.1 k) same)
        ∙ at_mapped member_looks (map (retyped_block_member numbers) old.members) k (retyped_block_member numbers m) (at_mapped (retyped_block_member numbers) old.members k m at) in
        let found = mapped_from member_looks new.members k (member_looks (retyped_block_member numbers m)) there in (
          found.0,
          found.1.0,
          record {
            type = ap (λ (l : Ty × (Bool × Bool)). l.0) found.1.1;
            readonly = ap (λ (l : Ty × (Bool × Bool)). l.1.0) found.1.1;
            writeonly = ap (λ (l : Ty × (Bool × Bool)). l.1.1) found.1.1;
          },
        );
  }

  pub interface_from : (old new : Interface) → interface_looks (retyped_interface numbers old) ≡ interface_looks new → IsSameInterface numbers old new
  interface_from old new same = record { type = sym (ap (λ (l : Ty × Bool). l.0) same); output = sym (ap (λ (l : Ty × Bool). l.1) same) }

  pub head_from : (old new : Prototype) → head_looks (retyped_prototype numbers old) ≡ head_looks new → IsHead numbers old new
  head_from old new same = record { result = sym (ap (λ (l : Ty × List (Direction × Ty)). l.0) same); params = sym (ap (λ (l : Ty × List (Direction × Ty)). l.1) same) }
