-- Rows of a table by ids.
use Rattle.std.proofs.Common.{◌≡◌, refl, sym, ap, ◌∙◌, ℕ, zero, suc, ◌+◌, ◌<◌, ◌≤◌, List, [], ◌∷◌, ◌++◌, map, length, Option, Some, None, arith}
use Rattle.std.specs.Prelude.{min, slice_index_or}
use Rattle.std.specs.List.{range_with_len}
use Rattle.std.proofs.lemmas.List.FromFn.{map-range_with_len_more}
use Rattle.gsl_words.specs.declared.module.Module.{Module}
use Rattle.gsl_machine.specs.Constants.{constant}
use Rattle.gsl_region.specs.Flat.{flat}
use Rattle.gsl_leaves.specs.Table.{most, told}
use Rattle.gsl_frames.specs.Frames.{place}
use Rattle.gsl_operands.specs.Operands.{constants_below, first, stands, stands_at}

-- one row more
pub one_more : {A : Type 0} (f : ℕ → A) (k : ℕ) (front new : List A) (x : A) → front ≡ map f (range_with_len 0 k) → new ≡ front ++ x ∷ [] → x ≡ f k → new ≡ map f (range_with_len 0 (k + 1))
one_more f k front new x so_far is item = is ∙ ap (λ l. l ++ x ∷ []) so_far ∙ ap (λ y. map f (range_with_len 0 k) ++ y ∷ []) item ∙ sym (map-range_with_len_more f 0 k k (omega arith))

-- what a row says
row_in : {A : Type 0} (f : ℕ → A) (from n k : ℕ) (none : A) → k < n → slice_index_or (map f (range_with_len from n)) k none ≡ f (from + k)
row_in f from zero k none low = absurd (omega (arith, low))
row_in f from (suc n) zero none low = ap f (let e : from ≡ from + zero = omega arith in e)
row_in f from (suc n) (suc k) none low = row_in f (from + 1) n k none (omega (arith, low)) ∙ ap f (let e : from + 1 + k ≡ from + suc k = omega arith in e)

row_is : {A : Type 0} (f : ℕ → A) (rows : List A) (n k : ℕ) (none : A) → rows ≡ map f (range_with_len 0 n) → k < n → slice_index_or rows k none ≡ f k
row_is f rows n k none is low = ap (λ l. slice_index_or l k none) is ∙ row_in f 0 n k none low ∙ ap f (let e : 0 + k ≡ k = omega arith in e)

-- the words of one constant more
pub words_more : (m : Module) (id : ℕ) → constants_below m (id + 1) ≡ constants_below m id ++ flat (constant m id)
unfolding constants_below
words_more m id = ap (constants_below m) (let e : id + 1 ≡ suc id = omega arith in e)

-- a place that is told
pub told_place : (slots place : ℕ) → slots + place ≤ most → min (slots + told place) 18446744073709551615 ≡ slots + place
unfolding told
told_place slots place low = omega (arith, low)

module _ (m : Module) (rows : List (Option ℕ)) (is : rows ≡ map (first m) (range_with_len 0 m.bound)) (slots id : ℕ) (low : id < m.bound) where
  row : first m id ≡ slice_index_or rows id None
  row = sym (row_is (first m) rows m.bound id None is low)

  -- the words of a constant stand in front of all slots
  pub stands_first : (at : ℕ) → slice_index_or rows id None ≡ Some at → at ≡ stands m slots id
  stands_first at found = sym (ap (λ o. stands_at o (slots + place m id)) (row ∙ found))

  -- those of any other id in the slots of its function
  pub stands_behind : (at : ℕ) → slice_index_or rows id None ≡ None → at ≡ min (slots + told (place m id)) 18446744073709551615 → stands m slots id ≤ most → at ≡ stands m slots id
  stands_behind at found told_at low =
      let behind : stands m slots id ≡ slots + place m id = ap (λ o. stands_at o (slots + place m id)) (row ∙ found) in
      told_at ∙ told_place slots (place m id) (omega (arith, behind, low)) ∙ sym behind
