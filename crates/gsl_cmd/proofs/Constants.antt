-- The constants of a module.
use Rattle.std.proofs.Common.{◌≡◌, ℕ, zero, suc, ◌+◌, add-one, zero-add, append_assoc, take, fold, map, [], ◌∷◌, ◌++◌, ◌≤◌, Bool, true, false, cond, not, ltb, List, length, Some, None, refl, ap, sym, ◌∙◌, arith}
use Rattle.std.specs.Option.{unwrap_or}
use Rattle.std.specs.List.{position, position_or_len, range_with_len}
use Rattle.std.proofs.lemmas.List.{map-append, take-replicate}
use Rattle.std.proofs.Math.Numerals.{one-add}
use Rattle.std.proofs.Math.ListN.{replicate}
use Rattle.std.proofs.lemmas.Bool.{ltb-false}
use Rattle.std.proofs.lemmas.List.Sums.{prefix_len-le-length, fold-append}

-- the first place that passes, or the length
pub place_of : {X : Type 0} (p : X → Bool) (xs : List X) → unwrap_or (position p xs) (length xs) ≡ position_or_len p xs
place_of p xs =
    let within = prefix_len-le-length (λ x. not (p x)) xs in
    elim (ltb (position_or_len p xs) (length xs)) as (λ b. ltb (position_or_len p xs) (length xs) ≡ b → unwrap_or (cond b (Some (position_or_len p xs)) None) (length xs) ≡ position_or_len p xs)
    [ true ↦ λ e. refl | false ↦ λ e. let past : length xs ≤ position_or_len p xs = ltb-false _ _ e in omega arith ] refl

pub place_within : {X : Type 0} (p : X → Bool) (xs : List X) → position_or_len p xs ≤ length xs
place_within p xs = prefix_len-le-length (λ x. not (p x)) xs

pub range_more : (a n : ℕ) → range_with_len a (n + 1) ≡ range_with_len a n ++ (a + n) ∷ []
range_more a zero = ap (λ k. k ∷ []) (omega arith)
range_more a (suc n) =
    ap (range_with_len a) (add-one (suc n)) ∙ ap (λ rest. a ∷ rest) (ap (range_with_len (a + 1)) (sym (add-one n)) ∙ range_more (a + 1) n
    ∙ ap (λ k. range_with_len (a + 1) n ++ k ∷ []) (let e : (a + 1) + n ≡ a + suc n = omega arith in e))

pub map_range_more : {A : Type 0} (f : ℕ → A) (n : ℕ) → map f (range_with_len 0 (n + 1)) ≡ map f (range_with_len 0 n) ++ f n ∷ []
map_range_more f n =
    ap (map f) (range_more 0 n) ∙ map-append f (range_with_len 0 n) ((0 + n) ∷ []) ∙ ap (λ k. map f (range_with_len 0 n) ++ f k ∷ []) (zero-add n)

-- one more item of a list that a loop over numbers puts at the end
pub run_more : {A : Type 0} (f : ℕ → A) (start so_far later : List A) (n : ℕ) (item : A) →
    so_far ≡ start ++ map f (range_with_len 0 n) → later ≡ so_far ++ item ∷ [] → item ≡ f n → later ≡ start ++ map f (range_with_len 0 (n + 1))
run_more f start so_far later n item before put one =
    put ∙ ap (λ front. front ++ item ∷ []) before ∙ append_assoc start (map f (range_with_len 0 n)) (item ∷ [])
    ∙ ap (λ back. start ++ back) (ap (λ x. map f (range_with_len 0 n) ++ x ∷ []) one ∙ sym (map_range_more f n))

-- the operands of a block's type, cut from those of the greatest one
pub struct_operands : (block int members : ℕ) → members ≤ 64 → take (1 + members) (block ∷ replicate 64 int) ≡ block ∷ replicate members int
struct_operands block int members few =
    ap (λ n. take n (block ∷ replicate 64 int)) (one-add members) ∙ ap (λ rest. block ∷ rest) (take-replicate members 64 int few)

-- one more number that is folded in
pub fold_range_more : {B : Type 0} (f : B → ℕ → B) (start so_far later : B) (n : ℕ) →
    so_far ≡ fold f start (range_with_len 0 n) → later ≡ f so_far n → later ≡ fold f start (range_with_len 0 (n + 1))
fold_range_more f start so_far later n before one =
    one ∙ ap (λ b. f b n) before
    ∙ sym (ap (fold f start) (range_more 0 n) ∙ fold-append f start (range_with_len 0 n) ((0 + n) ∷ []) ∙ ap (f (fold f start (range_with_len 0 n))) (zero-add n))
