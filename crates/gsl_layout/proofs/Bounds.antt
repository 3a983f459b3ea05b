-- What a layout needs is at most its size.
use Rattle.std.proofs.Common.{◌≡◌, sym, ap, ℕ, zero, suc, ◌+◌, ◌-◌, ◌*◌, ◌<◌, ◌≤◌, List, [], ◌∷◌, length, slice_get, Some, IsSome, arith}
use Rattle.std.proofs.lemmas.Option.{none-some, get_or_from_slice_get}
use Rattle.std.proofs.lemmas.Bool.{true≢false}
use Rattle.gsl_layout.specs.Nodes.{nodes, nodes_of}
use Rattle.gsl_layout.specs.Layout.{Layout, Leaf, Array, Runtime, Group, Parts, End, Part, IsLayout, AreParts, need, need_of, size, part_at, offset_at}
use Rattle.gsl_layout.specs.Parts.{parts_of}

-- parts that stand from a place on need no less than it
parts_from : (parts : Parts) (from end : ℕ) → AreParts from parts end → from ≤ need_of parts
parts_from End from end is = elim is [ ]
parts_from (Part offset layout End) from end is = omega (arith, is.0)
parts_from (Part offset layout (Part next inner rest)) from end is = omega (arith, is.0)

mutual
  pub need_le_size : (layout : Layout) → IsLayout layout → need layout ≤ size layout
  need_le_size (Leaf components) is = omega arith
  need_le_size (Array stride zero element) is = omega (arith, is.5)
  need_le_size (Array stride (suc k) element) is =
      let less : suc k - 1 ≡ k = omega arith in
      omega (arith, is.4, ap (λ n. stride * n) less)
  need_le_size (Runtime stride element) is = omega arith
  need_le_size (Group members all) is = parts_le members 0 all is.0

  pub parts_le : (parts : Parts) (from end : ℕ) → AreParts from parts end → need_of parts ≤ end
  parts_le End from end is = elim is [ ]
  parts_le (Part offset layout End) from end is = omega (arith, need_le_size layout is.2, is.5)
  parts_le (Part offset layout (Part next inner rest)) from end is =
      omega (arith, parts_le (Part next inner rest) (offset + need layout) end is.5, parts_from (Part next inner rest) (offset + need layout) end is.5)

-- members end with the last of them
pub last_need : (offsets : List ℕ) (layouts : List Layout) (from end : ℕ) → AreParts from (parts_of offsets layouts) end → length offsets ≡ length layouts
    → (k : ℕ) → k + 1 ≡ length layouts → (o : ℕ) → slice_get offsets k ≡ Some o → (l : Layout) → slice_get layouts k ≡ Some l → need_of (parts_of offsets layouts) ≡ o + need l
last_need offsets [] from end is paired k last o at_o l at_l = let absurd_last : ⊥ = omega (arith, last) in elim absurd_last [ ]
last_need [] (layout ∷ layouts) from end is paired k last o at_o l at_l = let absurd_last : ⊥ = omega (arith, paired) in elim absurd_last [ ]
last_need (offset ∷ []) (layout ∷ []) from end is paired zero last o at_o l at_l =
    omega (arith, get_or_from_slice_get (offset ∷ []) 0 o o at_o, ap need (get_or_from_slice_get (layout ∷ []) 0 l l at_l))
last_need (offset ∷ []) (layout ∷ []) from end is paired (suc k) last o at_o l at_l = let absurd_last : ⊥ = omega (arith, last) in elim absurd_last [ ]
last_need (offset ∷ []) (layout ∷ inner ∷ layouts) from end is paired k last o at_o l at_l = let absurd_last : ⊥ = omega (arith, paired) in elim absurd_last [ ]
last_need (offset ∷ next ∷ offsets) (layout ∷ []) from end is paired k last o at_o l at_l = let absurd_last : ⊥ = omega (arith, paired) in elim absurd_last [ ]
last_need (offset ∷ next ∷ offsets) (layout ∷ inner ∷ layouts) from end is paired zero last o at_o l at_l = let absurd_last : ⊥ = omega (arith, last) in elim absurd_last [ ]
last_need (offset ∷ next ∷ offsets) (layout ∷ inner ∷ layouts) from end is paired (suc k) last o at_o l at_l =
    omega (
      arith,
      last_need (next ∷ offsets) (inner ∷ layouts) (offset + need layout) end is.5 (omega (arith, paired)) k (omega (arith, last)) o at_o l at_l,
      parts_from (Part next inner (parts_of offsets layouts)) (offset + need layout) end is.5,
    )

-- the member of a number, and its offset
pub part_found : (offsets : List ℕ) (layouts : List Layout) → length offsets ≡ length layouts → (i : ℕ) (l : Layout) → slice_get layouts i ≡ Some l → part_at (parts_of offsets layouts) i ≡ Some l
part_found offsets [] paired i l found = elim (none-some _ found) [ ]
part_found [] (layout ∷ layouts) paired i l found = let no_pair : ⊥ = omega (arith, paired) in elim no_pair [ ]
part_found (offset ∷ offsets) (layout ∷ layouts) paired zero l found = found
part_found (offset ∷ offsets) (layout ∷ layouts) paired (suc i) l found = part_found offsets layouts (omega (arith, paired)) i l found

pub offset_found : (offsets : List ℕ) (layouts : List Layout) → length offsets ≡ length layouts → (i o : ℕ) → slice_get offsets i ≡ Some o → offset_at (parts_of offsets layouts) i ≡ Some o
offset_found [] layouts paired i o found = elim (none-some _ found) [ ]
offset_found (offset ∷ offsets) [] paired i o found = let no_pair : ⊥ = omega (arith, paired) in elim no_pair [ ]
offset_found (offset ∷ offsets) (layout ∷ layouts) paired zero o found = found
offset_found (offset ∷ offsets) (layout ∷ layouts) paired (suc i) o found = offset_found offsets layouts (omega (arith, paired)) i o found

pub part_within : (offsets : List ℕ) (layouts : List Layout) (i : ℕ) → IsSome (part_at (parts_of offsets layouts) i) → i < length layouts
part_within [] layouts i some = let never : ⊥ = true≢false (sym some) in elim never [ ]
part_within (offset ∷ offsets) [] i some = let never : ⊥ = true≢false (sym some) in elim never [ ]
part_within (offset ∷ offsets) (layout ∷ layouts) zero some = omega arith
part_within (offset ∷ offsets) (layout ∷ layouts) (suc i) some = omega (arith, part_within offsets layouts i some)

pub offset_within : (offsets : List ℕ) (layouts : List Layout) (i : ℕ) → IsSome (offset_at (parts_of offsets layouts) i) → i < length offsets
offset_within [] layouts i some = let never : ⊥ = true≢false (sym some) in elim never [ ]
offset_within (offset ∷ offsets) [] i some = let never : ⊥ = true≢false (sym some) in elim never [ ]
offset_within (offset ∷ offsets) (layout ∷ layouts) zero some = omega arith
offset_within (offset ∷ offsets) (layout ∷ layouts) (suc i) some = omega (arith, offset_within offsets layouts i some)

-- a member has no more nodes than all
pub nodes_part : (offsets : List ℕ) (layouts : List Layout) → length offsets ≡ length layouts → (i : ℕ) (l : Layout) → slice_get layouts i ≡ Some l → nodes l ≤ nodes_of (parts_of offsets layouts)
nodes_part offsets [] paired i l found = elim (none-some _ found) [ ]
nodes_part [] (layout ∷ layouts) paired i l found = let no_pair : ⊥ = omega (arith, paired) in elim no_pair [ ]
nodes_part (offset ∷ offsets) (layout ∷ layouts) paired zero l found = omega (arith, ap nodes (get_or_from_slice_get (layout ∷ layouts) 0 l l found))
nodes_part (offset ∷ offsets) (layout ∷ layouts) paired (suc i) l found = omega (arith, nodes_part offsets layouts (omega (arith, paired)) i l found)

-- a group has a member
pub some_parts : (offsets : List ℕ) (layouts : List Layout) (from end : ℕ) → AreParts from (parts_of offsets layouts) end → 1 ≤ length layouts
some_parts offsets (layout ∷ layouts) from end is = omega arith
some_parts [] [] from end is = elim is [ ]
some_parts (offset ∷ offsets) [] from end is = elim is [ ]
