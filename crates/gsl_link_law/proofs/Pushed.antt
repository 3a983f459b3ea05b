-- The program has one push constant block at most, and its blocks stand in order.
use Rattle.std.proofs.Common.{◌≡◌, refl, sym, ap, ◌∙◌, subst, ℕ, ◌+◌, ◌<◌, ◌≤◌, ◌⊎◌, inl, inr, Bool, true, false, not, ◌&&◌, ◌||◌, IsTrue, bytes_eq, List, [], ◌∷◌, ◌++◌, map, arith}
use Rattle.std.specs.Prelude.{flat_map, nat_eq, nat_lt, if◌then◌else◌}
use Rattle.std.specs.List.{AllByRecursion, list_any, list_all}
use Rattle.std.proofs.lemmas.Bool.{and_parts, and_from, true≢false, cases_lt, ltb-true, lt-ltb, eqb-true, eq-eqb, not_from_false}
use Rattle.gsl_types.specs.declared.ty.StructType.{StructType}
use Rattle.gsl_tree.specs.declared.unit.Block.{Block}
use Rattle.gsl_tree.specs.Weights.{one_if}
use Rattle.gsl_tree.specs.WellTyped.{is_push, push_blocks, comes_before, are_sorted}
use Rattle.gsl_link_units.specs.Agreement.{agree, is_against}
use Rattle.gsl_link_units.specs.Declarations.{Side, OfBlock, retyped_block}
use Rattle.gsl_link_units.specs.Firsts.{firsts_behind, again_behind, again}
use Rattle.gsl_link_whole.specs.Numbers.{same_block, put_block, in_order, declared_blocks, joined_blocks}
use Rattle.gsl_link.specs.Rows.{same_binding}
use Rattle.gsl_link_law.proofs.Agreed.{Across, names_same, name_itself, look_alike, blocks_in, blocks_embedded}
use Rattle.gsl_link_law.proofs.Joining.{flat_in, put_in, order_in}
use Rattle.gsl_link_law.proofs.Members.{In, in_front, in_behind, any_in, none_again}

no : {X : Type 0} → false ≡ true → X
no is = let never : ⊥ = true≢false (sym is) in elim never [ ]

-- ---- push constant blocks have one name

no_push : (blocks : List Block) → push_blocks blocks ≤ 0 → (x : Block) → In x blocks → is_push x.kind ≡ false
no_push [] none x at = elim at [ ]
no_push (block ∷ blocks) none x at = by_cases (no_push blocks) (is_push block.kind) refl none at
  where
    by_cases : (push_blocks blocks ≤ 0 → (y : Block) → In y blocks → is_push y.kind ≡ false) → (b : Bool) → is_push block.kind ≡ b → one_if b + push_blocks blocks ≤ 0 → In x (block ∷ blocks) → is_push x.kind ≡ false
    by_cases next true here few is = let never : ⊥ = omega (arith, few) in elim never [ ]
    by_cases next false here few (inl same) = ap (λ (w : Block). is_push w.kind) (sym same) ∙ here
    by_cases next false here few (inr more) = next (omega (arith, few)) x more

one_push : (blocks : List Block) → push_blocks blocks ≤ 1 → (x y : Block) → In x blocks → In y blocks → is_push x.kind ≡ true → is_push y.kind ≡ true → x ≡ y
one_push [] one x y at_x at_y first second = elim at_x [ ]
one_push (block ∷ blocks) one x y at_x at_y first second = by_cases (λ few. one_push blocks few x y) (is_push block.kind) refl one at_x at_y
  where
    unlike : (z : Block) → In z blocks → is_push z.kind ≡ true → push_blocks blocks ≤ 0 → ⊥
    unlike z at is few = true≢false (sym is ∙ no_push blocks few z at)

    by_cases : (push_blocks blocks ≤ 1 → In x blocks → In y blocks → is_push x.kind ≡ true → is_push y.kind ≡ true → x ≡ y) → (b : Bool) → is_push block.kind ≡ b → one_if b + push_blocks blocks ≤ 1
        → In x (block ∷ blocks) → In y (block ∷ blocks) → x ≡ y
    by_cases next true here few (inl a) (inl b) = sym a ∙ b
    by_cases next true here few (inr a) b = elim (unlike x a first (omega (arith, few))) [ ]
    by_cases next true here few (inl a) (inr b) = elim (unlike y b second (omega (arith, few))) [ ]
    by_cases next false here few (inl a) b = no (sym here ∙ ap (λ (w : Block). is_push w.kind) a ∙ first)
    by_cases next false here few (inr a) (inl b) = no (sym here ∙ ap (λ (w : Block). is_push w.kind) b ∙ second)
    by_cases next false here few (inr a) (inr b) = next (omega (arith, few)) a b first second

pub retyped_push : (numbers : List ℕ) (blocks : List Block) → push_blocks (map (retyped_block numbers) blocks) ≡ push_blocks blocks
retyped_push numbers [] = refl
retyped_push numbers (block ∷ blocks) = ap (λ k. one_if (is_push block.kind) + k) (retyped_push numbers blocks)

-- a unit has one at most
abbrev pub HasOnePush : Side → Type 0
HasOnePush side = push_blocks side.unit.blocks ≤ 1

abbrev both_push : Block → Block → Bool
both_push x y = is_push x.kind && is_push y.kind

push_swap : (x y : Block) → both_push x y ≡ true → both_push y x ≡ true
push_swap x y is = let p = and_parts (is_push x.kind) (is_push y.kind) is in and_from (is_push y.kind) (is_push x.kind) p.1 p.0

push_agreed : (structs : List StructType) (x y : Block) → both_push x y ≡ true → is_against structs (OfBlock x) (OfBlock y) ≡ false → x.name ≡ y.name
push_agreed structs x y push is = by_cases (bytes_eq x.name y.name) refl is
  where
    by_cases : (b : Bool) → bytes_eq x.name y.name ≡ b → (if b then not (agree structs (OfBlock x) (OfBlock y)) else both_push x y) ≡ false → x.name ≡ y.name
    by_cases true same e = names_same x.name y.name same
    by_cases false same e = no (sym e ∙ push)

push_named : (structs : List StructType) (sides : List Side) → AllByRecursion HasOnePush sides → Across structs sides
    → (s t : Side) → In s sides → In t sides → (x y : Block) → In x (blocks_in s) → In y (blocks_in t) → both_push x y ≡ true → x.name ≡ y.name
push_named =
    look_alike blocks_in OfBlock both_push (λ (block : Block). block.name) blocks_embedded push_swap push_agreed HasOnePush
    (λ s one x y at_x at_y same. let p = and_parts (is_push x.kind) (is_push y.kind) same in ap (λ (block : Block). block.name) (one_push s.unit.blocks one x y at_x at_y p.0 p.1))

-- ---- the first of each

module _ (Among : Block → Type 0) (named : (x y : Block) → Among x → Among y → both_push x y ≡ true → x.name ≡ y.name) where
  like : (x z : Block) → Among x → Among z → is_push x.kind ≡ true → is_push z.kind ≡ true → same_block x z ≡ true
  like x z first second push also = name_itself x.name z.name (named x z first second (and_from (is_push x.kind) (is_push z.kind) push also))

  none_left : (before blocks : List Block) (z : Block) → In z before → is_push z.kind ≡ true → Among z → ((x : Block) → In x blocks → Among x) → push_blocks (firsts_behind same_block before blocks) ≤ 0
  none_left before [] z at push inside all = omega arith
  none_left before (x ∷ blocks) z at push inside all =
      by_cases (list_any (same_block x) before) refl (none_left (before ++ x ∷ []) blocks z (in_front z before (x ∷ []) at) push inside (λ y is. all y (inr is)))
    where
      not_push : (b : Bool) → is_push x.kind ≡ b → list_any (same_block x) before ≡ false → b ≡ false
      not_push true is none = let never : ⊥ = true≢false (sym (any_in (same_block x) before z at (like x z (all x (inl refl)) inside is push)) ∙ none) in elim never [ ]
      not_push false is none = refl

      by_cases : (b : Bool) → list_any (same_block x) before ≡ b → push_blocks (firsts_behind same_block (before ++ x ∷ []) blocks) ≤ 0
          → push_blocks (if b then firsts_behind same_block (before ++ x ∷ []) blocks else x ∷ firsts_behind same_block (before ++ x ∷ []) blocks) ≤ 0
      by_cases true any later = later
      by_cases false any later = subst (λ c. one_if c + push_blocks (firsts_behind same_block (before ++ x ∷ []) blocks) ≤ 0) (sym (not_push (is_push x.kind) refl any)) (omega (arith, later))

  one_left : (before blocks : List Block) → ((x : Block) → In x blocks → Among x) → push_blocks (firsts_behind same_block before blocks) ≤ 1
  one_left before [] all = omega arith
  one_left before (x ∷ blocks) all =
      by_cases (list_any (same_block x) before) (one_left (before ++ x ∷ []) blocks (λ y is. all y (inr is)))
      (λ push. none_left (before ++ x ∷ []) blocks x (in_behind x before (x ∷ []) (inl refl)) push (all x (inl refl)) (λ y is. all y (inr is)))
    where
      later : List Block
      later = firsts_behind same_block (before ++ x ∷ []) blocks

      by_push : (b : Bool) → is_push x.kind ≡ b → push_blocks later ≤ 1 → (is_push x.kind ≡ true → push_blocks later ≤ 0) → one_if b + push_blocks later ≤ 1
      by_push true is few none = let empty = none is in omega (arith, empty)
      by_push false is few none = omega (arith, few)

      by_cases : (b : Bool) → push_blocks later ≤ 1 → (is_push x.kind ≡ true → push_blocks later ≤ 0) → push_blocks (if b then later else x ∷ later) ≤ 1
      by_cases true few none = few
      by_cases false few none = by_push (is_push x.kind) refl few none

put_push : (block : Block) (blocks : List Block) → push_blocks (put_block block blocks) ≡ one_if (is_push block.kind) + push_blocks blocks
put_push block [] = refl
put_push block (first ∷ blocks) = by_cases (comes_before first block) (put_push block blocks)
  where
    by_cases : (b : Bool) → push_blocks (put_block block blocks) ≡ one_if (is_push block.kind) + push_blocks blocks
        → push_blocks (if b then first ∷ put_block block blocks else block ∷ first ∷ blocks) ≡ one_if (is_push block.kind) + (one_if (is_push first.kind) + push_blocks blocks)
    by_cases true later = omega (arith, later)
    by_cases false later = refl

order_push : (blocks : List Block) → push_blocks (in_order blocks) ≡ push_blocks blocks
order_push [] = refl
order_push (block ∷ blocks) = put_push block (in_order blocks) ∙ ap (λ k. one_if (is_push block.kind) + k) (order_push blocks)

module _ (structs : List StructType) (sides : List Side) (one : AllByRecursion HasOnePush sides) (across : Across structs sides) where
  abbrev Among : Block → Type 0
  Among x = (s : Side) × (In s sides × In x (blocks_in s))

  pub declared_push : push_blocks (declared_blocks sides) ≤ 1
  declared_push =
      one_left Among (λ x y first second push. push_named structs sides one across first.0 second.0 first.1.0 second.1.0 x y first.1.1 second.1.1 push) [] (flat_map blocks_in sides) (flat_in blocks_in sides)

  -- the program has one at most
  pub joined_push : push_blocks (joined_blocks sides) ≤ 1
  joined_push = subst (λ k. k ≤ 1) (sym (order_push (declared_blocks sides))) declared_push

-- ---- in order

abbrev IsBefore : Block → Block → Type 0
IsBefore a b = (is_push a.kind ≡ false) × ((is_push b.kind ≡ true) ⊎ ((a.set < b.set) ⊎ ((a.set ≡ b.set) × (a.binding < b.binding))))

or_true : (b c : Bool) → (b || c) ≡ true → (b ≡ true) ⊎ (c ≡ true)
or_true true c is = inl refl
or_true false c is = inr is

or_first : (b c : Bool) → b ≡ true → (b || c) ≡ true
or_first b c is = ap (λ x. x || c) is

or_second : (b c : Bool) → c ≡ true → (b || c) ≡ true
or_second true c is = refl
or_second false c is = is

not_is : (b : Bool) → not b ≡ true → b ≡ false
not_is true is = sym is
not_is false is = refl

before_parts : (a b : Block) → comes_before a b ≡ true → IsBefore a b
before_parts a b is =
    let p = and_parts (not (is_push a.kind)) (is_push b.kind || nat_lt a.set b.set || (nat_eq a.set b.set && nat_lt a.binding b.binding)) is in
    (not_is (is_push a.kind) p.0, by_or (or_true (is_push b.kind || nat_lt a.set b.set) (nat_eq a.set b.set && nat_lt a.binding b.binding) p.1))
  where
    by_first : (is_push b.kind ≡ true) ⊎ (nat_lt a.set b.set ≡ true) → (is_push b.kind ≡ true) ⊎ ((a.set < b.set) ⊎ ((a.set ≡ b.set) × (a.binding < b.binding)))
    by_first (inl push) = inl push
    by_first (inr less) = inr (inl (ltb-true a.set b.set less))

    by_or : ((is_push b.kind || nat_lt a.set b.set) ≡ true) ⊎ ((nat_eq a.set b.set && nat_lt a.binding b.binding) ≡ true) → (is_push b.kind ≡ true) ⊎ ((a.set < b.set) ⊎ ((a.set ≡ b.set) × (a.binding < b.binding)))
    by_or (inl first) = by_first (or_true (is_push b.kind) (nat_lt a.set b.set) first)
    by_or (inr second) = let q = and_parts (nat_eq a.set b.set) (nat_lt a.binding b.binding) second in inr (inr (eqb-true a.set b.set q.0, ltb-true a.binding b.binding q.1))

before_from : (a b : Block) → IsBefore a b → comes_before a b ≡ true
before_from a b is = and_from (not (is_push a.kind)) (is_push b.kind || nat_lt a.set b.set || (nat_eq a.set b.set && nat_lt a.binding b.binding)) (not_from_false (is_push a.kind) is.0) (by_case is.1)
  where
    by_case : (is_push b.kind ≡ true) ⊎ ((a.set < b.set) ⊎ ((a.set ≡ b.set) × (a.binding < b.binding))) → (is_push b.kind || nat_lt a.set b.set || (nat_eq a.set b.set && nat_lt a.binding b.binding)) ≡ true
    by_case (inl push) = or_first (is_push b.kind || nat_lt a.set b.set) (nat_eq a.set b.set && nat_lt a.binding b.binding) (or_first (is_push b.kind) (nat_lt a.set b.set) push)
    by_case (inr (inl less)) = or_first (is_push b.kind || nat_lt a.set b.set) (nat_eq a.set b.set && nat_lt a.binding b.binding) (or_second (is_push b.kind) (nat_lt a.set b.set) (lt-ltb a.set b.set less))
    by_case (inr (inr (same, less))) =
        or_second (is_push b.kind || nat_lt a.set b.set) (nat_eq a.set b.set && nat_lt a.binding b.binding) (and_from (nat_eq a.set b.set) (nat_lt a.binding b.binding) (eq-eqb a.set b.set same) (lt-ltb a.binding b.binding less))

before_then : (a b c : Block) → comes_before a b ≡ true → comes_before b c ≡ true → comes_before a c ≡ true
before_then a b c first second = let p = before_parts a b first in let q = before_parts b c second in before_from a c (p.0, by_case p.1 q.0 q.1)
  where
    by_case : (is_push b.kind ≡ true) ⊎ ((a.set < b.set) ⊎ ((a.set ≡ b.set) × (a.binding < b.binding))) → is_push b.kind ≡ false
        → (is_push c.kind ≡ true) ⊎ ((b.set < c.set) ⊎ ((b.set ≡ c.set) × (b.binding < c.binding))) → (is_push c.kind ≡ true) ⊎ ((a.set < c.set) ⊎ ((a.set ≡ c.set) × (a.binding < c.binding)))
    by_case (inl push) none later = no (sym none ∙ push)
    by_case (inr x) none (inl push) = inl push
    by_case (inr (inl x)) none (inr (inl y)) = inr (inl (omega (arith, x, y)))
    by_case (inr (inl x)) none (inr (inr (same, y))) = inr (inl (omega (arith, x, same)))
    by_case (inr (inr (same, x))) none (inr (inl y)) = inr (inl (omega (arith, same, y)))
    by_case (inr (inr (same, x))) none (inr (inr (also, y))) = inr (inr (same ∙ also, omega (arith, x, y)))

-- of two that are bound apart, and not both push constant blocks, one comes before the other
total : (a b : Block) → both_push a b ≡ false → same_binding b a ≡ false → (comes_before a b ≡ true) ⊎ (comes_before b a ≡ true)
total a b push binding = by_push (is_push a.kind) (is_push b.kind) refl refl
  where
    by_number : is_push a.kind ≡ false → is_push b.kind ≡ false → (comes_before a b ≡ true) ⊎ (comes_before b a ≡ true)
    by_number p q = elim (cases_lt a.set b.set) as (λ _. (comes_before a b ≡ true) ⊎ (comes_before b a ≡ true)) [
      | inl less ↦ inl (before_from a b (p, inr (inl less)))
      | inr above ↦ elim (cases_lt b.set a.set) as (λ _. (comes_before a b ≡ true) ⊎ (comes_before b a ≡ true)) [
        | inl less ↦ inr (before_from b a (q, inr (inl less)))
        | inr below ↦
            let same : a.set ≡ b.set = omega (arith, above, below) in
            elim (cases_lt a.binding b.binding) as (λ _. (comes_before a b ≡ true) ⊎ (comes_before b a ≡ true)) [
              | inl less ↦ inl (before_from a b (p, inr (inr (same, less))))
              | inr over ↦ elim (cases_lt b.binding a.binding) as (λ _. (comes_before a b ≡ true) ⊎ (comes_before b a ≡ true)) [
                | inl less ↦ inr (before_from b a (q, inr (inr (sym same, less))))
                | inr under ↦
                    let alike : b.binding ≡ a.binding = omega (arith, over, under) in
                    no (sym binding ∙ and_from (not (is_push b.kind) && not (is_push a.kind) && nat_eq b.set a.set) (nat_eq b.binding a.binding)
                    (and_from (not (is_push b.kind) && not (is_push a.kind)) (nat_eq b.set a.set) (and_from (not (is_push b.kind)) (not (is_push a.kind)) (not_from_false (is_push b.kind) q) (not_from_false (is_push a.kind) p)) (eq-eqb b.set a.set (sym same)))
                    (eq-eqb b.binding a.binding alike))
              ]
            ]
      ]
    ]

    by_push : (p q : Bool) → is_push a.kind ≡ p → is_push b.kind ≡ q → (comes_before a b ≡ true) ⊎ (comes_before b a ≡ true)
    by_push true true x y = no (sym push ∙ and_from (is_push a.kind) (is_push b.kind) x y)
    by_push true false x y = inr (before_from b a (y, inl x))
    by_push false true x y = inl (before_from a b (x, inl y))
    by_push false false x y = by_number x y

-- ---- insertion

all_of : (p : Block → Bool) (xs : List Block) → ((x : Block) → In x xs → p x ≡ true) → list_all p xs ≡ true
all_of p [] each = refl
all_of p (x ∷ xs) each = and_from (p x) (list_all p xs) (each x (inl refl)) (all_of p xs (λ y at. each y (inr at)))

each_of : (p : Block → Bool) (xs : List Block) → list_all p xs ≡ true → (x : Block) → In x xs → p x ≡ true
each_of p [] all x at = elim at [ ]
each_of p (y ∷ xs) all x (inl at) = ap p (sym at) ∙ (and_parts (p y) (list_all p xs) all).0
each_of p (y ∷ xs) all x (inr at) = each_of p xs (and_parts (p y) (list_all p xs) all).1 x at

abbrev Either : Block → Block → Type 0
Either a b = (comes_before a b ≡ true) ⊎ (comes_before b a ≡ true)

put_sorted : (block : Block) (blocks : List Block) → are_sorted blocks ≡ true → ((x : Block) → In x blocks → Either block x) → are_sorted (put_block block blocks) ≡ true
put_sorted block [] sorted apart = refl
put_sorted block (first ∷ blocks) sorted apart =
    let p = and_parts (list_all (comes_before first) blocks) (are_sorted blocks) sorted in
    by_cases (comes_before first block) refl p.0 (put_sorted block blocks p.1 (λ x at. apart x (inr at)))
  where
    first_too : (all : list_all (comes_before first) blocks ≡ true) → comes_before first block ≡ true → (x : Block) → (block ≡ x) ⊎ In x blocks → comes_before first x ≡ true
    first_too all is x (inl same) = ap (comes_before first) (sym same) ∙ is
    first_too all is x (inr at) = each_of (comes_before first) blocks all x at

    leads : comes_before first block ≡ false → Either block first → comes_before block first ≡ true
    leads none (inl is) = is
    leads none (inr is) = no (sym none ∙ is)

    block_too : (all : list_all (comes_before first) blocks ≡ true) → comes_before block first ≡ true → (x : Block) → In x (first ∷ blocks) → comes_before block x ≡ true
    block_too all is x (inl same) = ap (comes_before block) (sym same) ∙ is
    block_too all is x (inr at) = before_then block first x is (each_of (comes_before first) blocks all x at)

    by_cases : (b : Bool) → comes_before first block ≡ b → list_all (comes_before first) blocks ≡ true → are_sorted (put_block block blocks) ≡ true
        → are_sorted (if b then first ∷ put_block block blocks else block ∷ first ∷ blocks) ≡ true
    by_cases true is all later =
        and_from (list_all (comes_before first) (put_block block blocks)) (are_sorted (put_block block blocks)) (all_of (comes_before first) (put_block block blocks) (λ x at. first_too all is x (put_in block blocks x at))) later
    by_cases false is all later =
        and_from (list_all (comes_before block) (first ∷ blocks)) (are_sorted (first ∷ blocks)) (all_of (comes_before block) (first ∷ blocks) (block_too all (leads is (apart first (inl refl))))) sorted

-- of each two items one comes before the other
abbrev Ordered : List Block → Type 0
Ordered [] = Unit {0}
Ordered (x ∷ xs) = ((y : Block) → In y xs → Either x y) × Ordered xs

order_sorted : (blocks : List Block) → Ordered blocks → are_sorted (in_order blocks) ≡ true
order_sorted [] all = refl
order_sorted (block ∷ blocks) all = put_sorted block (in_order blocks) (order_sorted blocks all.1) (λ x at. all.0 x (order_in blocks x at))

ordered_behind : (before blocks : List Block) → push_blocks blocks ≤ 1 → again_behind same_binding before blocks ≡ [] → Ordered blocks
ordered_behind before [] one none = tt
ordered_behind before (x ∷ blocks) one none =
    let later = later_none before x blocks none in (
      (λ y at. total x y (apart y at) (none_again same_binding (before ++ x ∷ []) blocks later y x at (in_behind x before (x ∷ []) (inl refl)))),
      ordered_behind (before ++ x ∷ []) blocks (omega (arith, one)) later,
    )
  where
    later_none : (front : List Block) (z : Block) (xs : List Block) → again_behind same_binding front (z ∷ xs) ≡ [] → again_behind same_binding (front ++ z ∷ []) xs ≡ []
    later_none front z xs e = by_cases (list_any (same_binding z) front) e
      where
        by_cases : (b : Bool) → (if b then z ∷ again_behind same_binding (front ++ z ∷ []) xs else again_behind same_binding (front ++ z ∷ []) xs) ≡ [] → again_behind same_binding (front ++ z ∷ []) xs ≡ []
        by_cases true f = cc
        by_cases false f = f

    apart : (y : Block) → In y blocks → both_push x y ≡ false
    apart y at = by_push (is_push x.kind) refl one
      where
        by_push : (b : Bool) → is_push x.kind ≡ b → one_if b + push_blocks blocks ≤ 1 → (b && is_push y.kind) ≡ false
        by_push true is few = no_push blocks (omega (arith, few)) y at
        by_push false is few = refl

-- the blocks of the program are in order, where none is bound as another
pub joined_sorted : (sides : List Side) → push_blocks (declared_blocks sides) ≤ 1 → again same_binding (declared_blocks sides) ≡ [] → IsTrue (are_sorted (joined_blocks sides))
joined_sorted sides one none = order_sorted (declared_blocks sides) (ordered_behind [] (declared_blocks sides) one none)
