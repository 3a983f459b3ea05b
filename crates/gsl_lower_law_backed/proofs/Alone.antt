-- Blocks and buffers in ascending order of set and binding: one alone is at each.
use Rattle.std.proofs.Common.{◌≡◌, refl, sym, ◌∙◌, subst, inl, inr, ◌⊎◌, ℕ, zero, suc, Bool, true, false, not, ◌&&◌, ◌||◌, ◌==◌, nat_eq, nat_lt, List, [], ◌∷◌, Option, Some, None, arith}
use Rattle.std.specs.Prelude.{slice_get}
use Rattle.std.specs.List.{AllByRecursion, list_all}
use Rattle.std.proofs.lemmas.Bool.{and_parts, eqb-true, ltb-true, true≢false}
use Rattle.gsl_base.specs.Proper.{Ascends, StandsBefore}
use Rattle.gsl_base.specs.declared.input.Buffer.{Buffer}
use Rattle.gsl_tree.specs.WellTyped.{are_sorted, comes_before, is_push}
use Rattle.gsl_tree.specs.declared.unit.Block.{Block}
use Rattle.gsl_views.specs.Buffers.{is_at}
use Rattle.gsl_lower_law_bytes.specs.Apart.{AreApart, IsOnly, NoneAt, StandsAlone}

same_block : {a b : Block} → Some a ≡ Some b → a ≡ b
same_block e = cc

-- ---- blocks

-- a test that holds of one of two parts
either : (a b : Bool) → (a || b) ≡ true → (a ≡ true) ⊎ (b ≡ true)
either true b is = inl refl
either false b is = inr is

-- of two blocks one comes before the other, so they are not at one place
places_differ : (a b : Block) → comes_before a b ≡ true → is_push b.kind ≡ false → a.set ≡ b.set → a.binding ≡ b.binding → ⊥
places_differ a b before own set binding = by (either (is_push b.kind || nat_lt a.set b.set) (nat_eq a.set b.set && nat_lt a.binding b.binding) (and_parts (not (is_push a.kind)) (is_push b.kind || nat_lt a.set b.set || (nat_eq a.set b.set && nat_lt a.binding b.binding)) before).1)
  where
    lower : nat_lt a.set b.set ≡ true → ⊥
    lower less = let z = ltb-true a.set b.set less in omega (arith, z, set)

    first : (is_push b.kind ≡ true) ⊎ (nat_lt a.set b.set ≡ true) → ⊥
    first (inl pushed) = true≢false (sym pushed ∙ own)
    first (inr less) = lower less

    by : ((is_push b.kind || nat_lt a.set b.set) ≡ true) ⊎ ((nat_eq a.set b.set && nat_lt a.binding b.binding) ≡ true) → ⊥
    by (inl one) = first (either (is_push b.kind) (nat_lt a.set b.set) one)
    by (inr both) = let z = ltb-true a.binding b.binding (and_parts (nat_eq a.set b.set) (nat_lt a.binding b.binding) both).1 in omega (arith, z, binding)

rest_apart : (block : Block) (blocks : List Block) → list_all (comes_before block) blocks ≡ true → AreApart block.set block.binding blocks
rest_apart block [] all = tt
rest_apart block (one ∷ blocks) all =
    let both = and_parts (comes_before block one) (list_all (comes_before block) blocks) all in
    (λ own set binding. places_differ block one both.0 own (sym set) (sym binding), rest_apart block blocks both.1)

at_place : (test : Block → Bool) (blocks : List Block) (number : ℕ) (block : Block) → list_all test blocks ≡ true → slice_get blocks number ≡ Some block → test block ≡ true
at_place test [] number block all at = absurd (let never : ◌≡◌ {A = Option Block} None (Some block) = at in cc)
at_place test (one ∷ blocks) zero block all at = subst (λ (x : Block). test x ≡ true) (same_block at) (and_parts (test one) (list_all test blocks) all).0
at_place test (one ∷ blocks) (suc number) block all at = at_place test blocks number block (and_parts (test one) (list_all test blocks) all).1 at

pub stands_alone : (blocks : List Block) (number : ℕ) (block : Block) → are_sorted blocks ≡ true → slice_get blocks number ≡ Some block → is_push block.kind ≡ false → StandsAlone block.set block.binding blocks number block
stands_alone [] number block sorted at own = absurd (let never : ◌≡◌ {A = Option Block} None (Some block) = at in cc)
stands_alone (first ∷ blocks) zero block sorted at own =
    let same : first ≡ block = same_block at in
    (same, subst (λ (x : Block). AreApart x.set x.binding blocks) same (rest_apart first blocks (and_parts (list_all (comes_before first) blocks) (are_sorted blocks) sorted).0))
stands_alone (first ∷ blocks) (suc number) block sorted at own =
    let both = and_parts (list_all (comes_before first) blocks) (are_sorted blocks) sorted in
    (λ first_own set binding. places_differ first block (at_place (comes_before first) blocks number block both.0 at) own set binding, stands_alone blocks number block both.1 at own)

-- ---- buffers

not_both : (set binding : ℕ) (a b : Buffer) → StandsBefore a b → is_at set binding a ≡ true → is_at set binding b ≡ false
not_both set binding a b before here = by (is_at set binding b) refl
  where
    clash : StandsBefore a b → a.set ≡ b.set → a.binding ≡ b.binding → ⊥
    clash (inl less) set binding = omega (arith, less, set)
    clash (inr (same, less)) set binding = omega (arith, less, binding)

    by : (c : Bool) → is_at set binding b ≡ c → is_at set binding b ≡ false
    by false e = e
    by true e =
        let one = and_parts (a.set == set) (a.binding == binding) here in
        let other = and_parts (b.set == set) (b.binding == binding) e in
        absurd (clash before (eqb-true a.set set one.0 ∙ sym (eqb-true b.set set other.0)) (eqb-true a.binding binding one.1 ∙ sym (eqb-true b.binding binding other.1)))

none_behind : (set binding : ℕ) (a : Buffer) (buffers : List Buffer) → AllByRecursion (StandsBefore a) buffers → is_at set binding a ≡ true → NoneAt set binding buffers
none_behind set binding a [] all here = tt
none_behind set binding a (b ∷ buffers) all here = (not_both set binding a b all.0 here, none_behind set binding a buffers all.1 here)

pub only_one : (set binding : ℕ) (buffers : List Buffer) → Ascends StandsBefore buffers → IsOnly set binding buffers
only_one set binding [] ascends = tt
only_one set binding (a ∷ buffers) ascends = (λ here. none_behind set binding a buffers ascends.0 here, only_one set binding buffers ascends.1)
