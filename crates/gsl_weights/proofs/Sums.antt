-- Counts one after the other are the told sum.
use Rattle.std.proofs.Common.{◌≡◌, ap, sym, ◌∙◌, ℕ, zero, suc, ◌+◌, List, [], ◌∷◌, map, sum, drop, arith}
use Rattle.std.specs.Prelude.{slice_get, Some}
use Rattle.std.proofs.lemmas.List.Sums.{sum-map, sum_by-cons}
use Rattle.std.proofs.Math.Numerals.{add-one}
use Rattle.gsl_tree.specs.Weights.{sum_over}
use Rattle.gsl_weights.specs.Telling.{up_to, in_turn}

module _ {A : Type 0} (count : A → ℕ) (add : ℕ → A → ℕ) (is : (n : ℕ) (a : A) → add n a ≡ up_to (n + count a)) where
  -- what is counted is the sum, told
  pub in_turn_is : (n : ℕ) (items : List A) → up_to (in_turn add n items) ≡ up_to (n + sum_over count items)
  in_turn_is n [] = omega arith
  in_turn_is n (a ∷ items) = in_turn_is (add n a) items ∙ omega (arith, is n a)

  pub in_turn_sum : (n : ℕ) (items : List A) → up_to (in_turn add n items) ≡ up_to (n + sum (map count items))
  in_turn_sum n [] = omega arith
  in_turn_sum n (a ∷ items) =
      let whole : sum (map count (a ∷ items)) ≡ count a + sum (map count items) = sum-map count (a ∷ items) ∙ sum_by-cons count a items ∙ ap (λ x. count a + x) (sym (sum-map count items)) in
      in_turn_sum (add n a) items ∙ omega (arith, is n a, whole)

-- the items from a number on are the item of that number and those behind it
drop_at : {A : Type 0} (items : List A) (k : ℕ) (a : A) → slice_get items k ≡ Some a → drop k items ≡ a ∷ drop (suc k) items
drop_at [] k a e = absurd (cc)
drop_at (b ∷ items) zero a e = let is : b ≡ a = cc in ap (λ x. x ∷ items) is
drop_at (b ∷ items) (suc k) a e = drop_at items k a e

-- one more item is counted
pub turn_step : {A : Type 0} (add : ℕ → A → ℕ) (n m : ℕ) (items : List A) (k : ℕ) (a : A) (all : ℕ) → slice_get items k ≡ Some a → m ≡ add n a
    → in_turn add n (drop k items) ≡ all → in_turn add m (drop (k + 1) items) ≡ all
turn_step add n m items k a all here counted so_far =
    ap (λ c. in_turn add c (drop (k + 1) items)) counted ∙ ap (λ j. in_turn add (add n a) (drop j items)) (add-one k) ∙ sym (ap (in_turn add n) (drop_at items k a here)) ∙ so_far
