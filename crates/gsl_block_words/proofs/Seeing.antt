-- What layouts show, by what stands at their top.
use Rattle.std.proofs.Common.{◌≡◌, refl, sym, ap, ◌∙◌, ℕ, zero, suc, ◌+◌, ◌-◌, ◌*◌, ◌/◌, ◌<◌, ◌≤◌, Bool, true, false, nat_lt, if◌then◌else◌, List, [], ◌∷◌, ◌++◌, map, length, Option, Some, IsSome, is_some, arith}
use Rattle.std.specs.List.{range_with_len}
use Rattle.std.proofs.lemmas.List.FromFn.{map-range_with_len_more}
use Rattle.std.proofs.lemmas.Option.{none-some}
use Rattle.std.proofs.lemmas.Bool.{true≢false}
use Rattle.std.proofs.Math.Nat.{mul-le-mul_left, mul-div-le}
use Rattle.gsl_layout.specs.Kinds.{kind_of, part_count}
use Rattle.gsl_layout.specs.Layout.{Layout, Leaf, Array, Runtime, Group, Parts, End, Part, IsLayout, members_of, need, need_of, part_at, part_of, offset_at, stride_of, count_of}
use Rattle.gsl_layout.specs.Nodes.{nodes, nodes_of}
use Rattle.gsl_layout.specs.declared.kind.Kind.{Kind}
use Rattle.gsl_layout.specs.declared.kind.Kind.TheVariants as kind
use Rattle.gsl_layout.proofs.Order.{layout_or, number_or}
use Rattle.gsl_views.specs.Seen.{Tree, nothing, seen, seen_part}
use Rattle.gsl_views.specs.Viewed.{IsArray, elements}
use Rattle.gsl_views.proofs.Parts.{member_seen, member_need}
use Rattle.gsl_values.specs.declared.value.Value.{Value}
use Rattle.gsl_values.specs.declared.value.Value.TheVariants.{Word, Many}
use Rattle.gsl_tree.specs.Values.{of_components}
use Rattle.gsl_words.specs.Words.{word_at}
use Rattle.gsl_meaning.specs.Blocks.{value_of}
use Rattle.gsl_block_words.specs.Reading.{words_from, run_at, read_at, elements_at, members_at}

-- ---- rows by numbers

same_row : {X : Type 0} (f g : ℕ → X) (a n : ℕ) → ((i : ℕ) → i < a + n → f i ≡ g i) → map f (range_with_len a n) ≡ map g (range_with_len a n)
same_row f g a zero same = refl
same_row f g a (suc n) same = ap (λ x. x ∷ map f (range_with_len (a + 1) n)) (same a (omega arith)) ∙ ap (λ xs. g a ∷ xs) (same_row f g (a + 1) n (λ i below. same i (omega (arith, below))))

row_of_row : {X Y : Type 0} (f : X → Y) (g : ℕ → X) (a n : ℕ) → map (λ i. f (g i)) (range_with_len a n) ≡ map f (map g (range_with_len a n))
row_of_row f g a zero = refl
row_of_row f g a (suc n) = ap (λ xs. f (g a) ∷ xs) (row_of_row f g (a + 1) n)

grown : {X : Type 0} (f : ℕ → X) (i : ℕ) (front new : List X) (x : X) → front ≡ map f (range_with_len 0 i) → new ≡ front ++ x ∷ [] → x ≡ f i → new ≡ map f (range_with_len 0 (i + 1))
grown f i front new x so_far is item = is ∙ ap (λ l. l ++ x ∷ []) so_far ∙ ap (λ y. map f (range_with_len 0 i) ++ y ∷ []) item ∙ sym (map-range_with_len_more f 0 i i (omega arith))

pub no_words : (at : ℕ) (bytes : List ℕ) (all : List Value) → all ≡ [] → all ≡ words_from 0 at bytes
unfolding words_from
no_words at bytes all none = none

pub words_on : (i at : ℕ) (bytes : List ℕ) (front new : List Value) (word : ℕ) → front ≡ words_from i at bytes → new ≡ front ++ Word word ∷ [] → word ≡ word_at bytes (at + 4 * i) → new ≡ words_from (i + 1) at bytes
unfolding words_from
words_on i at bytes front new word so_far is told = grown (λ k. Word (word_at bytes (at + 4 * k))) i front new (Word word) so_far is (ap Word told)

pub no_elements : (e : Layout) (s at : ℕ) (bytes : List ℕ) (all : List Value) → all ≡ [] → all ≡ elements_at e s 0 at bytes
unfolding elements_at
no_elements e s at bytes all none = none

pub elements_on : (e : Layout) (s i at : ℕ) (bytes : List ℕ) (front new : List Value) (v : Value) → front ≡ elements_at e s i at bytes → new ≡ front ++ v ∷ [] → v ≡ read_at e (at + s * i) bytes → new ≡ elements_at e s (i + 1) at bytes
unfolding elements_at
elements_on e s i at bytes front new v so_far is told = grown (λ k. read_at e (at + s * k) bytes) i front new v so_far is told

pub no_members : (l : Layout) (at : ℕ) (bytes : List ℕ) (all : List Value) → all ≡ [] → all ≡ members_at l 0 at bytes
unfolding members_at
no_members l at bytes all none = none

-- ---- runs

pub one_word : (n at : ℕ) (bytes : List ℕ) → n ≡ 1 → run_at n at bytes ≡ Word (word_at bytes at)
unfolding run_at
one_word n at bytes is = ap (λ k. of_components (map (λ i. word_at bytes (at + 4 * i)) (range_with_len 0 k))) is ∙ ap (λ k. Word (word_at bytes k)) (let e : at + 4 * 0 ≡ at = omega arith in e)

pub more_words : (n at : ℕ) (bytes : List ℕ) → (n ≡ 1 → ⊥) → run_at n at bytes ≡ Many (words_from n at bytes)
unfolding run_at words_from
more_words zero at bytes other = refl
more_words (suc zero) at bytes other = let never : ⊥ = other refl in elim never [ ]
more_words (suc (suc n)) at bytes other = ap Many (sym (row_of_row Word (λ i. word_at bytes (at + 4 * i)) 0 (suc (suc n))))

-- ---- kinds

abbrev leaf_or : Kind → ℕ
leaf_or (kind.Leaf n) = n
leaf_or kind.Array = 0
leaf_or (kind.Group n) = 0

abbrev group_or : Kind → ℕ
group_or (kind.Leaf n) = 0
group_or kind.Array = 0
group_or (kind.Group n) = n

abbrev pub is_leaf : Kind → Bool
is_leaf (kind.Leaf n) = true
is_leaf kind.Array = false
is_leaf (kind.Group n) = false

abbrev pub is_array : Kind → Bool
is_array (kind.Leaf n) = false
is_array kind.Array = true
is_array (kind.Group n) = false

pub leaf_shown : (l : Layout) (n at : ℕ) (bytes : List ℕ) → kind_of l ≡ kind.Leaf n → read_at l at bytes ≡ run_at n at bytes
unfolding read_at run_at
leaf_shown (Leaf components) n at bytes is = ap (λ k. of_components (map (λ i. word_at bytes (at + 4 * i)) (range_with_len 0 k))) (ap leaf_or is)
leaf_shown (Array stride count element) n at bytes is = let never : ⊥ = true≢false (sym (ap is_leaf is)) in elim never [ ]
leaf_shown (Runtime stride element) n at bytes is = let never : ⊥ = true≢false (sym (ap is_leaf is)) in elim never [ ]
leaf_shown (Group members all) n at bytes is = let never : ⊥ = true≢false (sym (ap is_leaf is)) in elim never [ ]

pub leaf_need : (l : Layout) (n : ℕ) → kind_of l ≡ kind.Leaf n → need l ≡ 4 * n
leaf_need (Leaf components) n is = ap (λ k. 4 * k) (ap leaf_or is)
leaf_need (Array stride count element) n is = let never : ⊥ = true≢false (sym (ap is_leaf is)) in elim never [ ]
leaf_need (Runtime stride element) n is = let never : ⊥ = true≢false (sym (ap is_leaf is)) in elim never [ ]
leaf_need (Group members all) n is = let never : ⊥ = true≢false (sym (ap is_leaf is)) in elim never [ ]

pub array_is : (l : Layout) → kind_of l ≡ kind.Array → IsArray l
array_is (Leaf components) is = let never : ⊥ = true≢false (sym (ap is_array is)) in elim never [ ]
array_is (Array stride count element) is = tt
array_is (Runtime stride element) is = tt
array_is (Group members all) is = let never : ⊥ = true≢false (sym (ap is_array is)) in elim never [ ]

pub array_counted : (l : Layout) → IsArray l → IsSome (count_of l)
array_counted (Leaf components) is = elim is [ ]
array_counted (Array stride count element) is = refl
array_counted (Runtime stride element) is = refl
array_counted (Group members all) is = elim is [ ]

pub array_strided : (l : Layout) → IsArray l → IsSome (stride_of l)
array_strided (Leaf components) is = elim is [ ]
array_strided (Array stride count element) is = refl
array_strided (Runtime stride element) is = refl
array_strided (Group members all) is = elim is [ ]

pub array_part : (l : Layout) → IsArray l → IsSome (part_of l 0)
array_part (Leaf components) is = elim is [ ]
array_part (Array stride count element) is = refl
array_part (Runtime stride element) is = refl
array_part (Group members all) is = elim is [ ]

within : (part : ℕ → Tree) (count i : ℕ) → i < 0 + count → value_of (if nat_lt i count then part i else nothing) ≡ value_of (part i)
within part count i below = ap (λ b. value_of (if b then part i else nothing)) (let e : nat_lt i count ≡ true = grind (arith, below) in e)

in_row : (part : ℕ → Tree) (count : ℕ) → map (λ i. value_of (if nat_lt i count then part i else nothing)) (range_with_len 0 count) ≡ map (λ i. value_of (part i)) (range_with_len 0 count)
in_row part count = same_row (λ i. value_of (if nat_lt i count then part i else nothing)) (λ i. value_of (part i)) 0 count (within part count)

pub array_shown : (l e : Layout) (s at : ℕ) (bytes : List ℕ) → IsArray l → stride_of l ≡ Some s → part_of l 0 ≡ Some e
    → read_at l at bytes ≡ Many (elements_at e s (elements l at (length bytes)) at bytes)
unfolding read_at elements_at
array_shown (Leaf components) e s at bytes is strided part = elim is [ ]
array_shown (Array stride count element) e s at bytes is strided part =
    ap Many (in_row (λ i. seen element (at + stride * i) bytes) count
    ∙ ap (λ k. map (λ i. value_of (seen element (at + k * i) bytes)) (range_with_len 0 count)) (ap (number_or s) strided)
    ∙ ap (λ m. map (λ i. value_of (seen m (at + s * i) bytes)) (range_with_len 0 count)) (ap (layout_or e) part))
array_shown (Runtime stride element) e s at bytes is strided part =
    let count = (length bytes - at) / stride in
    ap Many (in_row (λ i. seen element (at + stride * i) bytes) count
    ∙ ap (λ k. map (λ i. value_of (seen element (at + k * i) bytes)) (range_with_len 0 count)) (ap (number_or s) strided)
    ∙ ap (λ m. map (λ i. value_of (seen m (at + s * i) bytes)) (range_with_len 0 count)) (ap (layout_or e) part))
array_shown (Group members all) e s at bytes is strided part = elim is [ ]

le_pred : (i count : ℕ) → i < count → i ≤ count - 1
le_pred i count below = omega (arith, below)

next_le : (i count : ℕ) → i < count → i + 1 ≤ count
next_le i count below = omega (arith, below)

-- an element ends within what its array needs, or within the bytes
pub element_ends : (l : Layout) → IsLayout l → (at bytes i s : ℕ) (e : Layout) → i < elements l at bytes → stride_of l ≡ Some s → part_of l 0 ≡ Some e
    → (most : ℕ) → at + need l < most → bytes < most → at + s * i + need e < most
element_ends (Leaf components) is at bytes i s e below strided part most ends fits = let never : ⊥ = omega (arith, below) in elim never [ ]
element_ends (Array t count el) is at bytes i s e below strided part most ends fits =
    let moved = mul-le-mul_left t (le_pred i count below) in
    omega (arith, moved, ends, ap (λ n. n * i) (ap (number_or s) strided), ap need (ap (layout_or e) part))
element_ends (Runtime t el) is at bytes i s e below strided part most ends fits =
    let whole = mul-le-mul_left t (next_le i ((bytes - at) / t) below) in
    let split : t * (i + 1) ≡ t * i + t = omega arith in
    omega (arith, whole, split, mul-div-le (bytes - at) t, fits, is.3, is.4, ap (λ n. n * i) (ap (number_or s) strided), ap need (ap (layout_or e) part))
element_ends (Group members all) is at bytes i s e below strided part most ends fits = let never : ⊥ = omega (arith, below) in elim never [ ]

pub element_smaller : (l e : Layout) → IsArray l → part_of l 0 ≡ Some e → nodes e < nodes l
element_smaller (Leaf components) e is part = elim is [ ]
element_smaller (Array stride count element) e is part = omega (arith, ap nodes (ap (layout_or e) part))
element_smaller (Runtime stride element) e is part = omega (arith, ap nodes (ap (layout_or e) part))
element_smaller (Group members all) e is part = elim is [ ]

-- ---- groups

-- A layout is a group of so many members.
pub record IsGroup (l : Layout) (n : ℕ) : Type 0 where
  pub counted : part_count (members_of l) ≡ n
  pub parts : (i : ℕ) → part_of l i ≡ part_at (members_of l) i
  pub need : need l ≡ need_of (members_of l)
  pub nodes : nodes l ≡ nodes_of (members_of l) + 1

pub group_is : (l : Layout) (n : ℕ) → kind_of l ≡ kind.Group n → IsGroup l n
group_is (Leaf components) n is = let never : ⊥ = true≢false (ap is_leaf is) in elim never [ ]
group_is (Array stride count element) n is = let never : ⊥ = true≢false (ap is_array is) in elim never [ ]
group_is (Runtime stride element) n is = let never : ⊥ = true≢false (ap is_array is) in elim never [ ]
group_is (Group members all) n is = record { counted = ap group_or is; parts = λ i. refl; need = refl; nodes = refl }

pub group_shown : (l : Layout) (n at : ℕ) (bytes : List ℕ) → kind_of l ≡ kind.Group n → read_at l at bytes ≡ Many (members_at l n at bytes)
unfolding read_at members_at
group_shown (Leaf components) n at bytes is = let never : ⊥ = true≢false (ap is_leaf is) in elim never [ ]
group_shown (Array stride count element) n at bytes is = let never : ⊥ = true≢false (ap is_array is) in elim never [ ]
group_shown (Runtime stride element) n at bytes is = let never : ⊥ = true≢false (ap is_array is) in elim never [ ]
group_shown (Group members all) n at bytes is = ap (λ k. Many (map (λ i. value_of (seen_part members at bytes i)) (range_with_len 0 k))) (ap group_or is)

some_member : (parts : Parts) (i : ℕ) → i < part_count parts → IsSome (part_at parts i)
some_member End i below = let never : ⊥ = omega (arith, below) in elim never [ ]
some_member (Part offset layout rest) zero below = refl
some_member (Part offset layout rest) (suc i) below = some_member rest i (omega (arith, below))

some_offset : (parts : Parts) (i : ℕ) → i < part_count parts → IsSome (offset_at parts i)
some_offset End i below = let never : ⊥ = omega (arith, below) in elim never [ ]
some_offset (Part offset layout rest) zero below = refl
some_offset (Part offset layout rest) (suc i) below = some_offset rest i (omega (arith, below))

pub has_part : (l : Layout) (n i : ℕ) → kind_of l ≡ kind.Group n → i < n → IsSome (part_of l i)
has_part l n i is below = let g = group_is l n is in ap (λ (o : Option Layout). is_some o) (g.parts i) ∙ some_member (members_of l) i (omega (arith, below, g.counted))

pub has_offset : (l : Layout) (n i : ℕ) → kind_of l ≡ kind.Group n → i < n → IsSome (offset_at (members_of l) i)
has_offset l n i is below = let g = group_is l n is in some_offset (members_of l) i (omega (arith, below, g.counted))

member_smaller : (parts : Parts) (i : ℕ) (m : Layout) → part_at parts i ≡ Some m → nodes m ≤ nodes_of parts
member_smaller End i m is = let never : ⊥ = none-some _ is in elim never [ ]
member_smaller (Part offset layout rest) zero m is = omega (arith, ap nodes (ap (layout_or m) is))
member_smaller (Part offset layout rest) (suc i) m is = omega (arith, member_smaller rest i m is)

pub part_smaller : (l m : Layout) (n i : ℕ) → kind_of l ≡ kind.Group n → part_of l i ≡ Some m → nodes m < nodes l
part_smaller l m n i is part = let g = group_is l n is in omega (arith, g.nodes, member_smaller (members_of l) i m (sym (g.parts i) ∙ part))

pub part_need : (l m : Layout) (n i o : ℕ) → kind_of l ≡ kind.Group n → part_of l i ≡ Some m → offset_at (members_of l) i ≡ Some o → o + need m ≤ need l
part_need l m n i o is part at = let g = group_is l n is in omega (arith, g.need, member_need (members_of l) i o m at (sym (g.parts i) ∙ part))

pub part_shown : (l m : Layout) (n i o at : ℕ) (bytes : List ℕ) → kind_of l ≡ kind.Group n → part_of l i ≡ Some m → offset_at (members_of l) i ≡ Some o
    → value_of (seen_part (members_of l) at bytes i) ≡ read_at m (at + o) bytes
unfolding read_at
part_shown l m n i o at bytes is part offset = ap value_of (member_seen (members_of l) i o m at bytes offset (sym ((group_is l n is).parts i) ∙ part))

pub members_on : (l m : Layout) (n i o at : ℕ) (bytes : List ℕ) (front new : List Value) (v : Value) → kind_of l ≡ kind.Group n → part_of l i ≡ Some m → offset_at (members_of l) i ≡ Some o
    → front ≡ members_at l i at bytes → new ≡ front ++ v ∷ [] → v ≡ read_at m (at + o) bytes → new ≡ members_at l (i + 1) at bytes
unfolding members_at
members_on l m n i o at bytes front new v group part offset so_far is told =
    grown (λ k. value_of (seen_part (members_of l) at bytes k)) i front new v so_far is (told ∙ sym (part_shown l m n i o at bytes group part offset))
