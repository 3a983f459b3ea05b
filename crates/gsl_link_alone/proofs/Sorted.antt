-- Blocks in order: putting them in order leaves them, and no two are bound alike.
use Rattle.std.proofs.Common.{◌≡◌, refl, sym, ap, ◌∙◌, subst, ◌<◌, ◌⊎◌, inl, inr, Bool, true, false, not, ◌&&◌, ◌||◌, IsTrue, List, [], ◌∷◌, arith}
use Rattle.std.specs.Prelude.{nat_eq, nat_lt, if◌then◌else◌}
use Rattle.std.specs.List.{list_all}
use Rattle.std.proofs.lemmas.Bool.{and_parts, true≢false, ltb-true, eqb-true}
use Rattle.gsl_tree.specs.declared.unit.Block.{Block}
use Rattle.gsl_tree.specs.WellTyped.{are_sorted, comes_before, is_push}
use Rattle.gsl_link_whole.specs.Numbers.{same_block, put_block, in_order}
use Rattle.gsl_link.specs.Rows.{same_binding}
use Rattle.gsl_link_law.proofs.Agreed.{blocks_swap}
use Rattle.gsl_link_law.proofs.Joining.{put_in, order_in}
use Rattle.gsl_link_law.proofs.Members.{In}
use Rattle.gsl_link_alone.proofs.Unlike.{Unlike, falls}

-- ---- one block before another

not_is : (b : Bool) → not b ≡ true → b ≡ false
not_is true is = sym is
not_is false is = refl

either : (b c : Bool) → (b || c) ≡ true → (b ≡ true) ⊎ (c ≡ true)
either true c is = inl refl
either false c is = inr is

no : false ≡ true → ⊥
no is = true≢false (sym is)

abbrev IsBefore : Block → Block → Type 0
IsBefore a b = (is_push b.kind ≡ true) ⊎ ((a.set < b.set) ⊎ ((a.set ≡ b.set) × (a.binding < b.binding)))

before_parts : (a b : Block) → comes_before a b ≡ true → (is_push a.kind ≡ false) × IsBefore a b
before_parts a b is =
    let p = and_parts (not (is_push a.kind)) (is_push b.kind || nat_lt a.set b.set || (nat_eq a.set b.set && nat_lt a.binding b.binding)) is in
    (not_is (is_push a.kind) p.0, by_or (either (is_push b.kind || nat_lt a.set b.set) (nat_eq a.set b.set && nat_lt a.binding b.binding) p.1))
  where
    by_first : (is_push b.kind ≡ true) ⊎ (nat_lt a.set b.set ≡ true) → IsBefore a b
    by_first (inl push) = inl push
    by_first (inr less) = inr (inl (ltb-true a.set b.set less))

    by_or : ((is_push b.kind || nat_lt a.set b.set) ≡ true) ⊎ ((nat_eq a.set b.set && nat_lt a.binding b.binding) ≡ true) → IsBefore a b
    by_or (inl first) = by_first (either (is_push b.kind) (nat_lt a.set b.set) first)
    by_or (inr second) = let q = and_parts (nat_eq a.set b.set) (nat_lt a.binding b.binding) second in inr (inr (eqb-true a.set b.set q.0, ltb-true a.binding b.binding q.1))

-- of two blocks one alone is before the other
not_back : (a b : Block) → comes_before a b ≡ true → comes_before b a ≡ false
not_back a b is = let p = before_parts a b is in falls (comes_before b a) (λ back. let q = before_parts b a back in by_cases p.0 q.0 p.1 q.1)
  where
    by_cases : is_push a.kind ≡ false → is_push b.kind ≡ false → IsBefore a b → IsBefore b a → ⊥
    by_cases x y (inl push) later = no (sym y ∙ push)
    by_cases x y first (inl push) = no (sym x ∙ push)
    by_cases x y (inr (inl less)) (inr (inl more)) = omega (arith, less, more)
    by_cases x y (inr (inl less)) (inr (inr (same, more))) = omega (arith, less, same)
    by_cases x y (inr (inr (same, less))) (inr (inl more)) = omega (arith, same, more)
    by_cases x y (inr (inr (same, less))) (inr (inr (also, more))) = omega (arith, less, more)

-- and they are not bound alike
bound_apart : (a b : Block) → comes_before a b ≡ true → same_binding b a ≡ false
bound_apart a b is = let p = before_parts a b is in falls (same_binding b a) (λ alike.
    let binding = and_parts (not (is_push b.kind) && not (is_push a.kind) && nat_eq b.set a.set) (nat_eq b.binding a.binding) alike in
    let set = and_parts (not (is_push b.kind) && not (is_push a.kind)) (nat_eq b.set a.set) binding.0 in
    let push = and_parts (not (is_push b.kind)) (not (is_push a.kind)) set.0 in
    by_cases p.1 (not_is (is_push b.kind) push.0) (eqb-true b.set a.set set.1) (eqb-true b.binding a.binding binding.1))
  where
    by_cases : IsBefore a b → is_push b.kind ≡ false → b.set ≡ a.set → b.binding ≡ a.binding → ⊥
    by_cases (inl push) none set binding = no (sym none ∙ push)
    by_cases (inr (inl less)) none set binding = omega (arith, less, set)
    by_cases (inr (inr (same, less))) none set binding = omega (arith, less, binding)

-- ---- lists in order

each_of : (p : Block → Bool) (xs : List Block) → list_all p xs ≡ true → (x : Block) → In x xs → p x ≡ true
each_of p [] all x at = elim at [ ]
each_of p (y ∷ xs) all x (inl at) = ap p (sym at) ∙ (and_parts (p y) (list_all p xs) all).0
each_of p (y ∷ xs) all x (inr at) = each_of p xs (and_parts (p y) (list_all p xs) all).1 x at

put_first : (block : Block) (blocks : List Block) → list_all (comes_before block) blocks ≡ true → put_block block blocks ≡ block ∷ blocks
put_first block [] all = refl
put_first block (first ∷ blocks) all = ap (λ b. if b then first ∷ put_block block blocks else block ∷ first ∷ blocks) (not_back block first (each_of (comes_before block) (first ∷ blocks) all first (inl refl)))

pub order_stays : (blocks : List Block) → IsTrue (are_sorted blocks) → in_order blocks ≡ blocks
order_stays [] sorted = refl
order_stays (block ∷ blocks) sorted =
    let p = and_parts (list_all (comes_before block) blocks) (are_sorted blocks) sorted in
    ap (put_block block) (order_stays blocks p.1) ∙ put_first block blocks p.0

pub sorted_apart : (blocks : List Block) → IsTrue (are_sorted blocks) → Unlike same_binding blocks
sorted_apart [] sorted = tt
sorted_apart (block ∷ blocks) sorted =
    let p = and_parts (list_all (comes_before block) blocks) (are_sorted blocks) sorted in
    ((λ other at. bound_apart block other (each_of (comes_before block) blocks p.0 other at)), sorted_apart blocks p.1)

-- ---- putting in order

not_swapped : (x y : Block) → same_block x y ≡ false → same_block y x ≡ false
not_swapped x y other = falls (same_block y x) (λ alike. no (sym other ∙ blocks_swap y x alike))

put_unlike : (block : Block) (blocks : List Block) → ((x : Block) → In x blocks → same_block x block ≡ false) → Unlike same_block blocks → Unlike same_block (put_block block blocks)
put_unlike block [] other unlike = ((λ x at. elim at [ ]), tt)
put_unlike block (first ∷ blocks) other unlike = by_case (comes_before first block) (put_unlike block blocks (λ x at. other x (inr at)) unlike.1)
  where
    apart : (x : Block) → (block ≡ x) ⊎ In x blocks → same_block x first ≡ false
    apart x (inl same) = subst (λ z. same_block z first ≡ false) same (not_swapped first block (other first (inl refl)))
    apart x (inr at) = unlike.0 x at

    by_case : (b : Bool) → Unlike same_block (put_block block blocks) → Unlike same_block (if b then first ∷ put_block block blocks else block ∷ first ∷ blocks)
    by_case true later = ((λ x at. apart x (put_in block blocks x at)), later)
    by_case false later = (other, unlike)

-- blocks in order have names of their own where they had them
pub order_unlike : (blocks : List Block) → Unlike same_block blocks → Unlike same_block (in_order blocks)
order_unlike [] unlike = tt
order_unlike (block ∷ blocks) unlike = put_unlike block (in_order blocks) (λ x at. unlike.0 x (order_in blocks x at)) (order_unlike blocks unlike.1)
