-- Members of groups: their places, and what is seen of them.
use Rattle.std.proofs.Common.{◌≡◌, refl, sym, ap, ◌∙◌, ℕ, zero, suc, ◌+◌, ◌-◌, ◌*◌, ◌/◌, ◌<◌, ◌≤◌, List, Some, IsSome, map, slice_get, arith}
use Rattle.std.specs.List.{range_with_len}
use Rattle.std.proofs.lemmas.List.FromFn.{get_or-map-range_with_len, length-map-range_with_len}
use Rattle.std.proofs.lemmas.Option.{none-some, slice_get-get_or}
use Rattle.std.proofs.lemmas.Bool.{true≢false}
use Rattle.std.proofs.Math.Nat.{mul-le-mul_left, mul-div-le}
use Rattle.gsl_layout.specs.Layout.{Layout, Leaf, Array, Runtime, Group, Parts, End, Part, IsLayout, element_of, members_of, need, need_of, part_at, part_of, offset_at, stride_of}
use Rattle.gsl_layout.proofs.Order.{layout_or, number_or}
use Rattle.gsl_views.specs.Viewed.{HasComponent, elements}
use Rattle.gsl_views.specs.Seen.{child, seen, seen_part, words_of}
use Rattle.gsl_words.specs.Words.{word_at}

-- a member has an offset
pub has_offset : (parts : Parts) (i : ℕ) → IsSome (part_at parts i) → IsSome (offset_at parts i)
has_offset End i some = some
has_offset (Part offset layout rest) zero some = refl
has_offset (Part offset layout rest) (suc i) some = has_offset rest i some

-- a member needs no more than the group
pub member_need : (parts : Parts) (i o : ℕ) (l : Layout) → offset_at parts i ≡ Some o → part_at parts i ≡ Some l → o + need l ≤ need_of parts
member_need End i o l at is = let absent : ⊥ = none-some _ at in elim absent [ ]
member_need (Part offset layout rest) zero o l at is = omega (arith, ap (number_or o) at, ap need (ap (layout_or l) is))
member_need (Part offset layout rest) (suc i) o l at is = omega (arith, member_need rest i o l at is)

-- what is seen of a member is what is seen at its place
pub member_seen : (parts : Parts) (i o : ℕ) (l : Layout) (at : ℕ) (bytes : List ℕ) → offset_at parts i ≡ Some o → part_at parts i ≡ Some l → seen_part parts at bytes i ≡ seen l (at + o) bytes
member_seen End i o l at bytes has is = let absent : ⊥ = none-some _ has in elim absent [ ]
member_seen (Part offset layout rest) zero o l at bytes has is = ap (λ n. seen layout (at + n) bytes) (ap (number_or o) has) ∙ ap (λ m. seen m (at + o) bytes) (ap (layout_or l) is)
member_seen (Part offset layout rest) (suc i) o l at bytes has is = member_seen rest i o l at bytes has is

pub need_members : (layout : Layout) → need_of (members_of layout) ≤ need layout
need_members (Leaf components) = omega arith
need_members (Array stride count element) = omega arith
need_members (Runtime stride element) = omega arith
need_members (Group members all) = omega arith

pub part_of_member : (layout : Layout) (i : ℕ) → IsSome (part_at (members_of layout) i) → part_of layout i ≡ part_at (members_of layout) i
part_of_member (Leaf components) i some = let never : ⊥ = true≢false (sym some) in elim never [ ]
part_of_member (Array stride count element) i some = let never : ⊥ = true≢false (sym some) in elim never [ ]
part_of_member (Runtime stride element) i some = let never : ⊥ = true≢false (sym some) in elim never [ ]
part_of_member (Group members all) i some = refl

pub child_member : (layout : Layout) (i o : ℕ) (part : Layout) (at : ℕ) (bytes : List ℕ) → offset_at (members_of layout) i ≡ Some o → part_at (members_of layout) i ≡ Some part
    → seen part (at + o) bytes ≡ child (seen layout at bytes) i
child_member (Leaf components) i o part at bytes has is = let absent : ⊥ = none-some _ has in elim absent [ ]
child_member (Array stride count element) i o part at bytes has is = let absent : ⊥ = none-some _ has in elim absent [ ]
child_member (Runtime stride element) i o part at bytes has is = let absent : ⊥ = none-some _ has in elim absent [ ]
child_member (Group members all) i o part at bytes has is = sym (member_seen members i o part at bytes has is)

le_pred : (i count : ℕ) → i < count → i ≤ count - 1
le_pred i count below = omega (arith, below)

next_le : (i count : ℕ) → i < count → i + 1 ≤ count
next_le i count below = omega (arith, below)

-- an element stands within what its array may take
pub element_need : (layout : Layout) → IsLayout layout → (start bytes : ℕ) → start + need layout ≤ bytes → (i : ℕ) → i < elements layout start bytes
    → (s : ℕ) → stride_of layout ≡ Some s → (e : Layout) → element_of layout ≡ Some e → start + s * i + need e ≤ bytes
element_need (Leaf components) is start bytes fits i below s stride e element = let never : ⊥ = omega (arith, below) in elim never [ ]
element_need (Array t count el) is start bytes fits i below s stride e element =
    let moved = mul-le-mul_left t (le_pred i count below) in
    omega (arith, moved, fits, ap (λ n. n * i) (ap (number_or s) stride), ap need (ap (layout_or e) element))
element_need (Runtime t el) is start bytes fits i below s stride e element =
    let whole = mul-le-mul_left t (next_le i ((bytes - start) / t) below) in
    let split : t * (i + 1) ≡ t * i + t = omega arith in
    omega (arith, whole, split, mul-div-le (bytes - start) t, fits, is.4, ap (λ n. n * i) (ap (number_or s) stride), ap need (ap (layout_or e) element))
element_need (Group members all) is start bytes fits i below s stride e element = let never : ⊥ = omega (arith, below) in elim never [ ]

-- the word of a component that is seen
pub component_seen : (layout : Layout) (at : ℕ) (bytes : List ℕ) (c : ℕ) → HasComponent layout c → slice_get (words_of (seen layout at bytes)) c ≡ Some (word_at bytes (at + 4 * c))
component_seen (Leaf components) at bytes c has =
    let f = λ (k : ℕ). word_at bytes (at + 4 * k) in
    slice_get-get_or (map f (range_with_len 0 components)) c 0 (omega (arith, has, length-map-range_with_len f 0 components)) ∙ ap Some (get_or-map-range_with_len f 0 components c c 0 has (omega arith))
component_seen (Array stride count element) at bytes c has = elim has [ ]
component_seen (Runtime stride element) at bytes c has = elim has [ ]
component_seen (Group members all) at bytes c has = elim has [ ]

-- what stands at a number of an array is its element
pub element_is : (layout : Layout) (i start bytes : ℕ) → i < elements layout start bytes → (e : Layout) → part_of layout i ≡ Some e → element_of layout ≡ Some e
element_is (Leaf components) i start bytes below e is = let never : ⊥ = omega (arith, below) in elim never [ ]
element_is (Array stride count element) i start bytes below e is = is
element_is (Runtime stride element) i start bytes below e is = is
element_is (Group members all) i start bytes below e is = let never : ⊥ = omega (arith, below) in elim never [ ]

pub some_part : (parts : Parts) (i : ℕ) → IsSome (part_at parts i) → (l : Layout) × (part_at parts i ≡ Some l)
some_part End i some = let never : ⊥ = true≢false (sym some) in elim never [ ]
some_part (Part offset layout rest) zero some = (layout, refl)
some_part (Part offset layout rest) (suc i) some = some_part rest i some
